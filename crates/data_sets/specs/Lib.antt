pub mod DataSets
