-- The lowest member, as it is looked for: from below, one level after another, by a loop or by `find`. Assumes nothing.
use Rattle.std.proofs.Common.{◌≡◌, ℕ, zero, suc, ◌+◌, ◌-◌, ◌<◌, ◌≤◌, length, Bool, true, false, cond, Option, Some, None, get_or, sym, ◌∙◌, subst, refl, ⊎_elim, arith}
use Rattle.std.specs.List.{range_with_len, AllWithin, HoldsAt}
use Rattle.std.specs.Option.{MatchOption}
use Rattle.std.proofs.lemmas.List.FromFn.{length-range_with_len, get_or-range_with_len}
use Rattle.std.proofs.lemmas.Bool.{cases_lt}
use Rattle.regime.specs.Order.{Levels}
use Rattle.page.specs.Ladder.{Lowest, lowest}
use Rattle.page.specs.Lowest.{lowest_is}

-- the first member of m levels from a on
abbrev pub first_from : ℕ → ℕ → Levels → Option ℕ
first_from a zero s = None
first_from a (suc m) s = cond (s a) (Some a) (first_from (a + 1) m s)

-- level a, where it is a member
pub first_here : (a n : ℕ) (s : Levels) → a < n → s a ≡ true → first_from a (n - a) s ≡ Some a
first_here a n s l e = let q : n - a ≡ suc (n - (a + 1)) = omega arith in simp (q, e)

-- one of the later ones, where it is not
pub first_later : (a n : ℕ) (s : Levels) → a < n → s a ≡ false → first_from a (n - a) s ≡ first_from (a + 1) (n - (a + 1)) s
first_later a n s l e = let q : n - a ≡ suc (n - (a + 1)) = omega arith in simp (q, e)

-- none, where no level is left
pub first_past : (a n : ℕ) (s : Levels) → n ≤ a → first_from a (n - a) s ≡ None
first_past a n s l = let q : n - a ≡ 0 = omega arith in simp q

-- behind a level that is no member there is one level more
low_more : (a : ℕ) (s : Levels) → ((b : ℕ) → b < a → s b ≡ false) → s a ≡ false → (b : ℕ) → b < a + 1 → s b ≡ false
low_more a s low e b l = ⊎_elim (λ (k : b < a). low b k) (λ (k : a ≤ b). let q : b ≡ a = omega arith in rw q e) (cases_lt b a)

-- a level more is asked first
lowest_more : (a m : ℕ) (s : Levels) (t : Bool) → s a ≡ t → ((b : ℕ) → b < a → s b ≡ false) → (s a ≡ false → Lowest (a + 1 + m) s (first_from (a + 1) m s)) → Lowest (a + suc m) s (cond t (Some a) (first_from (a + 1) m s))
lowest_more a m s true e low later = (omega arith, e, low)
lowest_more a m s false e low later = let q : a + 1 + m ≡ a + suc m = omega arith in subst (λ n. Lowest n s (first_from (a + 1) m s)) q (later e)

-- behind levels that are no members the first is the lowest
first_lowest : (m a : ℕ) (s : Levels) → ((b : ℕ) → b < a → s b ≡ false) → Lowest (a + m) s (first_from a m s)
first_lowest zero a s low = λ b l. low b (omega arith)
first_lowest (suc m) a s low = lowest_more a m s (s a) refl low (λ e. first_lowest m (a + 1) s (low_more a s low e))

-- the first from level 0 on is the lowest below n
pub lowest_first : (n : ℕ) (s : Levels) → lowest n s ≡ first_from 0 (n - 0) s
lowest_first n s =
    let q : 0 + n ≡ n = omega arith in
    let p : n ≡ n - 0 = omega arith in
    sym (lowest_is n s _ (subst (λ m. Lowest n s (first_from 0 m s)) p (subst (λ m. Lowest m s (first_from 0 n s)) q (first_lowest n 0 s (λ b l. absurd (omega arith))))))

-- the number at a place of the numbers below n
at : (n a : ℕ) → a < n → get_or (range_with_len 0 n) a 0 ≡ a
at n a l = get_or-range_with_len 0 n a 0 l ∙ omega arith

-- what holds of the first k of them holds of all numbers below k
below : (P : ℕ → Type 0) (n k : ℕ) → k ≤ n → AllWithin P (range_with_len 0 n) 0 k → (a : ℕ) → a < k → P a
below P n k h w a l = subst P (at n a (omega arith)) (w a 0 (omega arith) l)

-- what `find` over the numbers below n answers is the lowest member
pub lowest_from_first : (n : ℕ) (s : Levels) (r : Option ℕ) → MatchOption r (AllWithin (λ x. s x ≡ false) (range_with_len 0 n) 0 (length (range_with_len 0 n))) (λ x. (s x ≡ true) × (i : ℕ) × (i < length (range_with_len 0 n)) × HoldsAt (λ y. y ≡ x) (range_with_len 0 n) i × AllWithin (λ x. s x ≡ false) (range_with_len 0 n) 0 i) → Lowest n s r
lowest_from_first n s None h = below (λ x. s x ≡ false) n n (omega arith) (rw length-range_with_len at h)
lowest_from_first n s (Some x) h =
    let l : h.1 < n = omega (arith, length-range_with_len 0 n, h.2) in
    let e : h.1 ≡ x = sym (at n h.1 l) ∙ h.3 0 in
    (rw e at l, h.0, subst (λ k. (b : ℕ) → b < k → s b ≡ false) e (below (λ x. s x ≡ false) n h.1 (omega arith) h.4))
