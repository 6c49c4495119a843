-- What the computing instructions give, on values of 32 bits with a sign. Assumes nothing.
use Rattle.std.specs.Prelude.{◌≡◌, ◌<◌, Bool, true, false, cond, ◌&&◌, ℤ, pos, negsuc, ◌+ℤ◌, ◌-ℤ◌, ◌*ℤ◌, ◌==◌, int_div, int_lt, int_rem, unsigned_abs}
use Rattle.script.specs.Laws.{word}
use Rattle.script.specs.declared.parts.Operation.{Operation}
use Rattle.script.specs.declared.parts.Operation.TheVariants.{Add, Subtract, Multiply, Quotient, Remainder, Less, Same}
use Rattle.std.specs.Int.{int_wrap, w32}

-- are two values the same
abbrev pub same : ℤ → ℤ → Bool
same (pos a) (pos b) = a == b
same (pos a) (negsuc b) = false
same (negsuc a) (pos b) = false
same (negsuc a) (negsuc b) = a == b

-- is a value 0
abbrev pub is_zero : ℤ → Bool
is_zero a = same a (pos 0)

-- the least value, -2147483648
abbrev pub least : ℤ
least = negsuc 2147483647

-- the value -1
abbrev pub minus_one : ℤ
minus_one = negsuc 0

-- the least value by -1: the only two values whose quotient has more than 32 bits
abbrev pub too_large : ℤ → ℤ → Bool
too_large a b = same a least && same b minus_one

-- the quotient is cut toward zero; by 0 it is 0, and the least value by -1 is the least value
abbrev pub quotient_of : ℤ → ℤ → ℤ
quotient_of a b = cond (is_zero b) (pos 0) (cond (too_large a b) least (int_div a b))

-- the remainder has the dividend's sign; by 0 it is the dividend, and of the least value by -1 it is 0
abbrev pub remainder_of : ℤ → ℤ → ℤ
remainder_of a b = cond (is_zero b) a (cond (too_large a b) (pos 0) (int_rem a b))

-- 1 if so, otherwise 0
abbrev pub flag : Bool → ℤ
flag true = pos 1
flag false = pos 0

-- what each operation gives; sums, differences and products wrap at 32 bits
abbrev pub result_of : Operation → ℤ → ℤ → ℤ
result_of Add a b = int_wrap w32 (a +ℤ b)
result_of Subtract a b = int_wrap w32 (a -ℤ b)
result_of Multiply a b = int_wrap w32 (a *ℤ b)
result_of Quotient a b = quotient_of a b
result_of Remainder a b = remainder_of a b
result_of Less a b = flag (int_lt a b)
result_of Same a b = flag (same a b)

-- r is 0, or has the sign of a (where a is 0, the sign is plus)
abbrev pub SignOf : ℤ → ℤ → Type 0
SignOf r (pos a) = int_lt r (pos 0) ≡ false
SignOf r (negsuc a) = int_lt (pos 0) r ≡ false

-- what division is, but for a divisor of 0 and for the least value by -1: dividend = quotient * divisor + remainder, the
-- remainder is less than the divisor, signs apart, and is 0 or has the dividend's sign
pub record Divides (a b q r : ℤ) : Type 0 where
  pub parts : (q *ℤ b) +ℤ r ≡ a
  pub smaller : unsigned_abs r < unsigned_abs b
  pub sign : SignOf r a

-- quotient and remainder are what docs/scripts.md says of them, for every dividend and divisor
pub record Division : Type 0 where
  pub regular : (a b : ℤ) → is_zero b ≡ false → too_large a b ≡ false → Divides a b (quotient_of a b) (remainder_of a b)
  pub by_zero : (a : ℤ) → (quotient_of a (pos 0) ≡ pos 0) × (remainder_of a (pos 0) ≡ a)
  pub least_by_minus_one : (quotient_of least minus_one ≡ least) × (remainder_of least minus_one ≡ pos 0)
  -- and what is computed from values of 32 bits has 32 bits
  pub small : (o : Operation) (a b : ℤ) → word a ≡ true → word b ≡ true → word (result_of o a b) ≡ true
