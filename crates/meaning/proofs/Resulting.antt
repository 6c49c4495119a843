-- Results are what they are called. Assumes nothing.
use Rattle.std.proofs.Common.{◌≡◌, Bool, true, false, ℤ, pos, negsuc, ◌+ℤ◌, ◌-ℤ◌, ◌*ℤ◌, refl, ap, subst, w32}
use Rattle.std.specs.Int.{int_wrap}
use Rattle.std.proofs.lemmas.Int.{int_wrap_fits}
use Rattle.std.proofs.lemmas.Bool.{eqb-true, eq-eqb}
use Rattle.script.specs.Laws.{word}
use Rattle.meaning.specs.Arithmetic.{same, flag}
use Rattle.meaning.specs.Results.{EveryResult}
use Rattle.meaning.proofs.Dividing.{size_of_word}

-- what has 32 bits does not wrap
unwrapped : (z : ℤ) → word z ≡ true → int_wrap w32 z ≡ z
unwrapped z h = int_wrap_fits w32 z (record { sfits = size_of_word z h })

-- the test of two values tells whether they are one
same_self : (a : ℤ) → same a a ≡ true
same_self (pos a) = eq-eqb a a refl
same_self (negsuc a) = eq-eqb a a refl

-- and where it holds they are
same_means : (a b : ℤ) → same a b ≡ true → a ≡ b
same_means (pos a) (pos b) e = ap pos (eqb-true a b e)
same_means (pos a) (negsuc b) e = cc
same_means (negsuc a) (pos b) e = cc
same_means (negsuc a) (negsuc b) e = ap negsuc (eqb-true a b e)

-- and where they are not it fails
apart : (a b : ℤ) → (a ≡ b → ⊥) → same a b ≡ false
apart a b nay = at_test (same a b) refl
  where
    at_test : (t : Bool) → same a b ≡ t → same a b ≡ false
    at_test true e = absurd (nay (same_means a b e))
    at_test false e = e

-- of any two values
pub every_result : EveryResult
every_result a b =
    record {
      sum = unwrapped (a +ℤ b);
      difference = unwrapped (a -ℤ b);
      product = unwrapped (a *ℤ b);
      quotient = refl;
      remainder = refl;
      less = ap flag;
      not_less = ap flag;
      equal = λ e. ap flag (subst (λ c. same a c ≡ true) e (same_self a));
      unequal = λ nay. ap flag (apart a b nay);
    }
