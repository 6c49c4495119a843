-- Bytes as hex text. Assumes nothing.
use Rattle.std.specs.Prelude.{ℕ, ◌+◌, ◌-◌, ◌*◌, ◌/◌, ◌%◌, cond, List, [], ◌∷◌, Some, None, Ok, Err, Option, Result, nat_lt}
use Rattle.std.specs.List as lists
use Rattle.std.specs.Int.{is_in_range}
use Rattle.text.specs.declared.error.LineError.{LineError}
use Rattle.text.specs.declared.error.LineError.TheVariants.{OddHex, HexDigit}

-- what a hex digit stands for, in either case
abbrev pub nibble_of : ℕ → Option ℕ
nibble_of c =
    cond (is_in_range 48 57 c) (Some (c - 48)) (cond (is_in_range 97 102 c) (Some (c - 87)) (cond (is_in_range 65 70 c) (Some (c - 55)) None))

-- the lower-case digit of a number below 16
abbrev pub digit_of : ℕ → ℕ
digit_of n = cond (nat_lt n 10) (48 + n) (87 + n)

-- the number of two hex digits, where both are digits
abbrev pub joined : Option ℕ → Option ℕ → Option ℕ
joined (Some high) (Some low) = Some (16 * high + low)
joined (Some high) None = None
joined None low = None

-- the byte of two hex digits, where both are digits
abbrev pub byte_of : ℕ → ℕ → Option ℕ
byte_of high low = joined (nibble_of high) (nibble_of low)

-- what a pair of digits gives, before what the rest of the text gives; no pair of digits is the first fault
abbrev pub before : Option ℕ → Result (List ℕ) LineError → Result (List ℕ) LineError
before None rest = Err HexDigit
before (Some b) (Ok bs) = Ok (b ∷ bs)
before (Some b) (Err e) = Err e

-- the bytes of a hex text, or its first fault: a pair that is no pair of digits, or one character alone at the end
abbrev pub decoded : List ℕ → Result (List ℕ) LineError
decoded [] = Ok []
decoded (c ∷ []) = Err OddHex
decoded (high ∷ low ∷ cs) = before (byte_of high low) (decoded cs)

-- the two digits of a byte
abbrev pub digits_of : ℕ → List ℕ
digits_of b = digit_of (b / 16) ∷ digit_of (b % 16) ∷ []

-- the hex text of bytes
abbrev pub encoded : List ℕ → List ℕ
encoded bs = lists.flat_map digits_of bs
