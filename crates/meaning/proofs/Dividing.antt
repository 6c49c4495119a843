-- Division by the cases of the two signs, and that what is computed fits 32 bits. Assumes nothing.
use Rattle.std.proofs.Common.{◌≡◌, ℕ, zero, suc, ◌+◌, ◌-◌, ◌*◌, ◌/◌, ◌%◌, ◌<◌, Bool, true, false, cond, ◌&&◌, eqb, ℤ, pos, negsuc, ◌+ℤ◌, ◌-ℤ◌, ◌*ℤ◌, neg_ℤ, nat_abs, sym, refl, ap, ◌∙◌, subst, true≢false, mod-lt, div-add-mod', zero-mul, div-le_self, div-one, arith, w32}
use native.Mathlib.Nat.{div-lt_self}
use lib.IntN.{neg_ℤ-+ℤ}
use lib.Signed.{mag, lt_z, quot_z, rem_z, mag_rem}
use Rattle.script.specs.Laws.{word}
use Rattle.script.specs.declared.parts.Operation.{Operation}
use Rattle.script.specs.declared.parts.Operation.TheVariants.{Add, Subtract, Multiply, Quotient, Remainder, Less, Same}
use Rattle.std.specs.Int.{int_wrap}
use Rattle.std.proofs.lemmas.Int.{SFits-int_wrap}
use Rattle.std.proofs.lemmas.Bool.{lt-ltb, le-ltb, ltb-true, eqb-false}
use Rattle.meaning.specs.Arithmetic.{same, is_zero, least, too_large, quotient_of, remainder_of, flag, result_of, SignOf, Divides, Division}

-- a product of two numbers that are not above 0, and of one that is not and a natural
minus_by_minus : (q b : ℕ) → neg_ℤ (pos q) *ℤ negsuc b ≡ pos (q * suc b)
minus_by_minus zero b = ap (λ (n : ℕ). neg_ℤ (pos n)) (zero-mul (suc b)) ∙ sym (ap pos (zero-mul (suc b)))
minus_by_minus (suc q) b = refl

minus_by_natural : (q b : ℕ) → neg_ℤ (pos q) *ℤ pos b ≡ neg_ℤ (pos (q * b))
minus_by_natural zero b = ap pos (zero-mul b) ∙ sym (ap (λ (n : ℕ). neg_ℤ (pos n)) (zero-mul b))
minus_by_natural (suc q) b = refl

-- the sum of -(q * d) and -r is the negation of the sum of q * d and r
minus_parts : (q d r a : ℕ) → q * d + r ≡ suc a → neg_ℤ (pos (q * d)) +ℤ neg_ℤ (pos r) ≡ negsuc a
minus_parts q d r a e = sym (neg_ℤ-+ℤ (pos (q * d)) (pos r)) ∙ ap (λ (n : ℕ). neg_ℤ (pos n)) e

-- dividend = quotient * divisor + remainder
parts_of : (a b : ℤ) → (quot_z a b *ℤ b) +ℤ rem_z a b ≡ a
parts_of (pos a) (pos b) = ap pos (div-add-mod' a b)
parts_of (pos a) (negsuc b) = ap (λ z. z +ℤ pos (a % suc b)) (minus_by_minus (a / suc b) b) ∙ ap pos (div-add-mod' a (suc b))
parts_of (negsuc a) (pos b) =
    ap (λ z. z +ℤ neg_ℤ (pos (suc a % b))) (minus_by_natural (suc a / b) b) ∙ minus_parts (suc a / b) b (suc a % b) a (div-add-mod' (suc a) b)
parts_of (negsuc a) (negsuc b) = minus_parts (suc a / suc b) (suc b) (suc a % suc b) a (div-add-mod' (suc a) (suc b))

-- a number and its negation are as large
size_of_minus : (n : ℕ) → nat_abs (neg_ℤ (pos n)) ≡ n
size_of_minus zero = refl
size_of_minus (suc n) = refl

-- the remainder is less than the divisor, signs apart
smaller_of : (a b : ℤ) → 0 < nat_abs b → nat_abs (rem_z a b) < nat_abs b
smaller_of (pos a) b h = mod-lt a h
smaller_of (negsuc a) b h = subst (λ (n : ℕ). n < nat_abs b) (sym (size_of_minus (suc a % nat_abs b))) (mod-lt (suc a) h)

-- a natural is not below 0, and its negation is not above
natural_sign : (n : ℕ) → lt_z (pos n) (pos 0) ≡ false
natural_sign n = le-ltb n 0 (omega arith)

minus_sign : (n : ℕ) → lt_z (pos 0) (neg_ℤ (pos n)) ≡ false
minus_sign zero = refl
minus_sign (suc n) = refl

-- the remainder is 0 or has the dividend's sign
sign_of : (a b : ℤ) → SignOf (rem_z a b) a
sign_of (pos a) b = natural_sign (a % nat_abs b)
sign_of (negsuc a) b = minus_sign (suc a % nat_abs b)

-- what is not 0 has a size
some_size : (b : ℤ) → is_zero b ≡ false → 0 < nat_abs b
some_size (pos zero) e = absurd (true≢false e)
some_size (pos (suc b)) e = omega arith
some_size (negsuc b) e = omega arith

-- the quotient and the remainder where neither of the two special cases is met
neither : (a b q r : ℤ) (z t : Bool) → z ≡ false → t ≡ false → Divides a b q r → Divides a b (cond z (pos 0) (cond t least q)) (cond z a (cond t (pos 0) r))
neither a b q r true t e k d = absurd (true≢false e)
neither a b q r false true e k d = absurd (true≢false k)
neither a b q r false false e k d = d

-- what division is, but for those two cases
regular_division : (a b : ℤ) → is_zero b ≡ false → too_large a b ≡ false → Divides a b (quotient_of a b) (remainder_of a b)
regular_division a b e k =
    neither a b (quot_z a b) (rem_z a b) (is_zero b) (too_large a b) e k
    (record { parts = parts_of a b; smaller = smaller_of a b (some_size b e); sign = sign_of a b })

-- ---- 32 bits

-- `word` is a bound on the size
pub size_of_word : (z : ℤ) → word z ≡ true → mag z < 2147483648
size_of_word (pos n) e = ltb-true n 2147483648 e
size_of_word (negsuc n) e = ltb-true n 2147483648 e

pub word_of_size : (z : ℤ) → mag z < 2147483648 → word z ≡ true
word_of_size (pos n) h = lt-ltb n 2147483648 h
word_of_size (negsuc n) h = lt-ltb n 2147483648 h

-- what wraps has 32 bits
wrapped_word : (z : ℤ) → word (int_wrap w32 z) ≡ true
wrapped_word z = word_of_size (int_wrap w32 z) (SFits-int_wrap w32 z).sfits

-- the size of -n, as the size of a word is counted
minus_mag : (n : ℕ) → mag (neg_ℤ (pos n)) ≡ n - 1
minus_mag zero = refl
minus_mag (suc n) = omega arith

-- a test that fails beside one that holds
left_false : (t : Bool) → (t && true) ≡ false → t ≡ false
left_false true e = e
left_false false e = refl

-- the quotient is no larger than the dividend, but for the least value by -1
quotient_size : (a b : ℤ) → mag a < 2147483648 → too_large a b ≡ false → mag (quot_z a b) < 2147483648
quotient_size (pos a) (pos b) h e = omega (arith, div-le_self a b)
quotient_size (pos a) (negsuc b) h e = omega (arith, div-le_self a (suc b), minus_mag (a / suc b))
quotient_size (negsuc a) (pos b) h e = omega (arith, div-le_self (suc a) b, minus_mag (suc a / b))
quotient_size (negsuc a) (negsuc zero) h e = let apart = eqb-false a 2147483647 (left_false (eqb a 2147483647) e) in omega (arith, div-one (suc a))
quotient_size (negsuc a) (negsuc (suc b)) h e = omega (arith, div-lt_self {n = suc a} {k = suc (suc b)} (omega arith) (omega arith))

-- quotients, remainders and flags have 32 bits
quotient_word : (a b : ℤ) (z t : Bool) → word a ≡ true → too_large a b ≡ t → word (cond z (pos 0) (cond t least (quot_z a b))) ≡ true
quotient_word a b true t h e = refl
quotient_word a b false true h e = refl
quotient_word a b false false h e = word_of_size (quot_z a b) (quotient_size a b (size_of_word a h) e)

remainder_word : (a b : ℤ) (z t : Bool) → word a ≡ true → word (cond z a (cond t (pos 0) (rem_z a b))) ≡ true
remainder_word a b true t h = h
remainder_word a b false true h = refl
remainder_word a b false false h = word_of_size (rem_z a b) (omega (arith, mag_rem a b, size_of_word a h))

flag_word : (t : Bool) → word (flag t) ≡ true
flag_word true = refl
flag_word false = refl

-- and so has every result
small_results : (o : Operation) (a b : ℤ) → word a ≡ true → word b ≡ true → word (result_of o a b) ≡ true
small_results Add a b p q = wrapped_word (a +ℤ b)
small_results Subtract a b p q = wrapped_word (a -ℤ b)
small_results Multiply a b p q = wrapped_word (a *ℤ b)
small_results Quotient a b p q = quotient_word a b (is_zero b) (too_large a b) p refl
small_results Remainder a b p q = remainder_word a b (is_zero b) (too_large a b) p
small_results Less a b p q = flag_word (lt_z a b)
small_results Same a b p q = flag_word (same a b)

-- the laws of division
pub division : Division
division = record { regular = regular_division; by_zero = λ a. (refl, refl); least_by_minus_one = (refl, refl); small = small_results }
