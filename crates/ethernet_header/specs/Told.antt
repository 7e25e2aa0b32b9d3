-- What a reader of a frame begins with: definitions only.
use Rattle.std.specs.Prelude.{List, ℕ, cond, ltb}
use Rattle.definition.specs.Limits.{max_channels, too_many_channels}
use Rattle.definition.specs.Read.{Out, refused, Header, header_at}

-- "8: more than 24 channels", then the header
abbrev pub opened_at : ℕ → List ℕ → Out Header
opened_at n s = cond (ltb max_channels n) (refused too_many_channels 0) (header_at s)
