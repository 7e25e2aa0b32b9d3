mod Bounds
mod Parts
mod Numbered
