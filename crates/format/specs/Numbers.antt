-- Numbers in bytes, low byte first, and the bits of a map. Assumes nothing.
use Rattle.std.specs.Prelude.{ℕ, zero, suc, ◌+◌, ◌*◌, ◌/◌, ◌%◌, ◌<◌, Bool, List, [], ◌∷◌, ◌==◌}
use Rattle.std.specs.List.{AllByRecursion}

-- v in w bytes, low byte first; of a v that needs more bytes, the low w
abbrev pub bytes_of : ℕ → ℕ → List ℕ
bytes_of zero v = []
bytes_of (suc w) v = v % 256 ∷ bytes_of w (v / 256)

-- the number that bytes hold, low byte first
abbrev pub number : List ℕ → ℕ
number [] = 0
number (b ∷ bs) = b + 256 * number bs

-- whether the lowest bit of m is one
abbrev pub odd : ℕ → Bool
odd m = m % 2 == 1

-- whether bit k of m is one
abbrev pub bit : ℕ → ℕ → Bool
bit zero m = odd m
bit (suc k) m = bit k (m / 2)

-- what a file may be: each element is a byte
abbrev pub Bytes : List ℕ → Type 0
Bytes = AllByRecursion (λ b. b < 256)
