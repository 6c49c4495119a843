-- What a strip of so many entries can hold. Assumes nothing.
use Rattle.std.specs.Prelude.{ℕ, ◌/◌, min, cond, ◌==◌}

-- how many channels: the least of 16, the count asked and the entries given
abbrev pub strip_count : ℕ → ℕ → ℕ
strip_count asked given = min 16 (min asked given)

-- how many values each can hold: an equal share, rounded down, of 512 entries, or of those given where they are fewer;
-- with no channel, 0
abbrev pub strip_capacity : ℕ → ℕ → ℕ
strip_capacity count given = cond (count == 0) 0 (min 512 given / count)
