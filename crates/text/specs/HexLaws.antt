-- What hex text keeps. Assumes nothing.
use Rattle.std.specs.Prelude.{◌≡◌, ℕ, ◌%◌, ◌<◌, true, List, map, length, is_ok, Ok, Decides}
use Rattle.std.specs.Char.{is_ascii_hexdigit, to_ascii_lowercase}
use Rattle.std.specs.List.{AllByRecursion}
use Rattle.text.specs.Hex.{decoded, encoded}

-- just the texts of an even number of hex digits are accepted
abbrev pub Accepted : Type 0
Accepted = (t : List ℕ) → Decides (is_ok (decoded t)) ((length t % 2 ≡ 0) × AllByRecursion (λ c. is_ascii_hexdigit c ≡ true) t)

-- the bytes of a text are those that its digits write, whatever their case
abbrev pub Kept : Type 0
Kept = (t bs : List ℕ) → decoded t ≡ Ok bs → encoded bs ≡ map to_ascii_lowercase t

-- what is written is read back
abbrev pub ReadBack : Type 0
ReadBack = (bs : List ℕ) → AllByRecursion (λ b. b < 256) bs → decoded (encoded bs) ≡ Ok bs
