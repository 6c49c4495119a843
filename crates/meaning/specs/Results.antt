-- What each computing instruction gives, told without its definition: the law above `result_of`. Assumes nothing.
use Rattle.std.specs.Prelude.{◌≡◌, true, false, ℤ, pos, ◌+ℤ◌, ◌-ℤ◌, ◌*ℤ◌, int_lt, ◌≢◌}
use Rattle.script.specs.Laws.{word}
use Rattle.script.specs.declared.parts.Operation.TheVariants.{Add, Subtract, Multiply, Quotient, Remainder, Less, Same}
use Rattle.meaning.specs.Arithmetic.{quotient_of, remainder_of, result_of}

-- What the instructions give for the values a and b.
pub record Results (a b : ℤ) : Type 0 where
  -- sums, differences and products that fit 32 bits are what they are called
  pub sum : word (a +ℤ b) ≡ true → result_of Add a b ≡ a +ℤ b
  pub difference : word (a -ℤ b) ≡ true → result_of Subtract a b ≡ a -ℤ b
  pub product : word (a *ℤ b) ≡ true → result_of Multiply a b ≡ a *ℤ b
  -- quotients and remainders are those of the laws of division
  pub quotient : result_of Quotient a b ≡ quotient_of a b
  pub remainder : result_of Remainder a b ≡ remainder_of a b
  -- 1 where a is less than b, and else 0
  pub less : int_lt a b ≡ true → result_of Less a b ≡ pos 1
  pub not_less : int_lt a b ≡ false → result_of Less a b ≡ pos 0
  -- 1 where they are one value, and else 0
  pub equal : a ≡ b → result_of Same a b ≡ pos 1
  pub unequal : a ≢ b → result_of Same a b ≡ pos 0

-- the same of any two values
abbrev pub EveryResult : Type 0
EveryResult = (a b : ℤ) → Results a b
