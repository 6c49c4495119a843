-- What stands in a buffer after bytes were written to it. Assumes nothing.
use Rattle.std.specs.Prelude.{ℕ, ◌+◌, List, ◌++◌, length, take, drop}

-- old, with these bytes over its own from byte p on
abbrev pub written : ℕ → List ℕ → List ℕ → List ℕ
written p bytes old = take p old ++ (bytes ++ drop (p + length bytes) old)
