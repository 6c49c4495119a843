-- Bits of numbers: `bit_and a b ≡ a` says that every one bit of a is one in b. Assumes nothing.
use Rattle.std.specs.Prelude.{◌≡◌, ℕ, ◌+◌, ◌/◌, ◌%◌, ◌^◌, ◌<◌, ◌≤◌, min, true, Decides, ◌==◌, ◌≢◌, nat_eq, refl}
use Rattle.std.proofs.Common.{sym, ap, ◌∙◌, arith, shr-shr, pow_pos, pow_mono, ⊎_elim, lt_of_lt_of_le, div-lt_iff_lt-mul}
use Rattle.std.proofs.Math.Arith.{bin_ind, digits_mod}
use Rattle.std.specs.Int.Bits.{bit_and, and_step, and_zero_r}
use Rattle.std.proofs.lemmas.Nat.{and_shr}
use Rattle.std.proofs.Math.Nat.{div-eq_of_lt}
use Rattle.std.proofs.lemmas.Bool.{eqb-true, eq-eqb, cases_lt}
use Rattle.std.proofs.lemmas.Bool.Decides.{nat_tests}
use Rattle.class.specs.Compartments.{bit, Covered, within}

-- the lowest bit of `bit_and a b` is one where the lowest of both is
and_low : (a b : ℕ) → bit_and a b % 2 ≡ min (a % 2) (b % 2)
and_low a b = ap (λ (x : ℕ). x % 2) (and_step a b) ∙ digits_mod (bit_and (a / 2) (b / 2)) {m = 2} (omega arith)

-- bit i of `bit_and a b` is one where bit i of both is
and_digit : (a b i : ℕ) → bit_and a b / 2 ^ i % 2 ≡ min (a / 2 ^ i % 2) (b / 2 ^ i % 2)
and_digit a b i = ap (λ (x : ℕ). x % 2) (and_shr a b i) ∙ and_low (a / 2 ^ i) (b / 2 ^ i)

-- where `bit_and a b` is a, every one bit of a is one in b
pub bits_from_and : (a b : ℕ) → bit_and a b ≡ a → Covered a b
bits_from_and a b e i t =
    let d = and_digit a b i in
    let q : bit_and a b / 2 ^ i % 2 ≡ a / 2 ^ i % 2 = ap (λ (x : ℕ). x / 2 ^ i % 2) e in
    let one = eqb-true (a / 2 ^ i % 2) 1 t in
    eq-eqb (b / 2 ^ i % 2) 1 (omega arith)

-- bit i of the half of w is bit i + 1 of w
half_bit : (w i : ℕ) → bit (w / 2) i ≡ bit w (1 + i)
half_bit w i = ap (λ (x : ℕ). nat_eq (x % 2) 1) (shr-shr w 1 i)

-- where every one bit of a is one in b, `bit_and a b` is a
pub and_from_bits : (a b : ℕ) → Covered a b → bit_and a b ≡ a
and_from_bits =
    bin_ind (λ (n : ℕ). (b : ℕ) → Covered n b → bit_and n b ≡ n) (λ b h. refl)
    (λ n ih b h.
    let high = ih (b / 2) (λ i t. half_bit b i ∙ h (1 + i) (sym (half_bit n i) ∙ t)) in
    let low = h 0 in
    let s = and_step n b in
    grind (arith, nat_tests, low))

-- where b has all one bits of a and c all of b, c has all of a
pub and_trans : (a b c : ℕ) → bit_and a b ≡ a → bit_and b c ≡ b → bit_and a c ≡ a
and_trans a b c p q = and_from_bits a c (λ i t. bits_from_and b c q i (bits_from_and a b p i t))

-- the one bits of a number below 2^k stand below k
low_bits : (w k a : ℕ) → w < 2 ^ k → bit w a ≡ true → a < k
low_bits w k a l t =
    ⊎_elim (λ (h : a < k). h)
    (λ (h : k ≤ a).
    let z : w / 2 ^ a ≡ 0 = div-eq_of_lt (lt_of_lt_of_le l (pow_mono h)) in
    let one = eqb-true (w / 2 ^ a % 2) 1 t in absurd (omega arith))
    (cases_lt a k)

-- a number without a one bit is 0
no_bits : (w : ℕ) → ((i : ℕ) → bit w i ≢ true) → w ≡ 0
no_bits w h = sym (and_from_bits w 0 (λ i t. absurd (h i t))) ∙ and_zero_r w

-- a shift by k leaves nothing exactly where every one bit stands below k
pub blank_decides : (w k : ℕ) → Decides (w / 2 ^ k == 0) ((a : ℕ) → bit w a ≡ true → a < k)
blank_decides w k = (
  λ e a t. low_bits w k a (below e) t,
  λ h. eq-eqb (w / 2 ^ k) 0 (no_bits (w / 2 ^ k) (λ i t. let m = h (k + i) (sym (ap (λ (x : ℕ). nat_eq (x % 2) 1) (shr-shr w k i)) ∙ t) in omega arith)),
)
  where
    below : nat_eq (w / 2 ^ k) 0 ≡ true → w < 2 ^ k
    below e = let z = eqb-true (w / 2 ^ k) 0 e in let q = (div-lt_iff_lt-mul {x = w} {y = 1} (pow_pos k)).0 (omega arith) in omega arith

-- 0 has no one bit
pub no_bit : (a : ℕ) → bit 0 a ≢ true
no_bit a t = let h = low_bits 0 0 a (omega arith) t in omega arith

-- the machine's test holds exactly where every one bit of a is one in b
pub within_decides : (a b : ℕ) → Decides (within a b) (Covered a b)
within_decides a b = (λ e. bits_from_and a b (eqb-true (bit_and a b) a e), λ h. eq-eqb (bit_and a b) a (and_from_bits a b h))
