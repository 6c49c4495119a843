-- Numbers in decimal and in hex. Assumes nothing.
use Rattle.std.specs.Prelude.{ℕ, ◌+◌, ◌*◌, ◌^◌, Bool, true, cond, ◌&&◌, List, [], ◌∷◌, Some, None, Option, nat_lt}
use Rattle.text.specs.Hex.{nibble_of}

-- a digit's number, and 16 where there is none
abbrev pub or_none : Option ℕ → ℕ
or_none (Some d) = d
or_none None = 16

-- what a digit stands for, decimal or hex, and 16 where it is no digit
abbrev pub digit_value : ℕ → ℕ
digit_value c = or_none (nibble_of c)

-- only digits of the base, which is at most 16
abbrev pub all_in : ℕ → List ℕ → Bool
all_in base [] = true
all_in base (c ∷ cs) = nat_lt (digit_value c) base && all_in base cs

-- the number that digits write after those of n
abbrev pub value_from : ℕ → ℕ → List ℕ → ℕ
value_from base n [] = n
value_from base n (c ∷ cs) = value_from base (n * base + digit_value c) cs

-- the number that a text writes: one digit of the base or more and nothing else, and not too large for a usize
abbrev pub number_in : ℕ → List ℕ → Option ℕ
number_in base [] = None
number_in base (c ∷ cs) = cond (all_in base (c ∷ cs) && nat_lt (value_from base 0 (c ∷ cs)) (2 ^ 64)) (Some (value_from base 0 (c ∷ cs))) None

-- the number n with one digit more behind it, where it is a digit of the base and the number fits a usize
abbrev pub pushed : ℕ → ℕ → ℕ → Option ℕ
pushed base n c = cond (nat_lt (digit_value c) base && nat_lt (n * base + digit_value c) (2 ^ 64)) (Some (n * base + digit_value c)) None
