-- The laws of the ladder. Assumes nothing.
use Rattle.std.specs.Prelude.{◌≡◌, ℕ, ◌<◌, ◌≤◌, Bool, true, false, cond, Some, None, Option, nat_lt, refl}
use Rattle.std.proofs.Common.{sym, ap, ◌∙◌, arith}
use Rattle.std.proofs.lemmas.Bool.{cond-true, lt-ltb, ltb-true}
use Rattle.std.proofs.lemmas.Bool.Decides.{nat_tests}
use Rattle.regime.specs.Order.{Partial, Lawful}
use Rattle.page.specs.Ladder.{ladder, lowest, PicksLowest}
use Rattle.page.specs.Lowest.{lowest_found, lowest_some, lowest_any, lowest_same}

-- an answer under a test is given only where the test holds
picked : (b : Bool) (o : Option ℕ) (a : ℕ) → cond b o None ≡ Some a → (b ≡ true) × (o ≡ Some a)
picked true o a e = (refl, e)
picked false o a e = let z : ◌≡◌ {A = ℕ} 0 1 = cc in absurd (omega arith)

-- flow up a ladder is a partial order of its levels
ladder_partial : (n : ℕ) → Partial n (ladder n).flows
ladder_partial n = record {
  inside = λ a b e. grind (arith, nat_tests);
  to_itself = λ a k. grind (arith, nat_tests);
  one_way = λ a b e f. grind (arith, nat_tests);
  onward = λ a b c e f. grind (arith, nat_tests);
}

-- a ladder of 1 to 16 levels keeps the laws of regimes
pub ladder_lawful : (n : ℕ) → 1 ≤ n → n ≤ 16 → Lawful (ladder n)
ladder_lawful n low high = record {
  bounded = (low, high);
  ordered = ladder_partial n;
  no_place = λ p s k. grind (arith, nat_tests);
  ignores = λ p s t same. ap (λ (o : Option ℕ). cond (nat_lt p n) o None) (lowest_same n s t same);
  ready_only = λ p s a e. let h = lowest_some n s a (picked (nat_lt p n) (lowest n s) a e).1 in (h.0, h.1);
  served = λ a k. (a, k, λ s r. let h = lowest_any n s a k r in (h.0, simp (lt-ltb a n k) h.1));
  from_below = λ p l s t same e.
      let w = picked (nat_lt p n) (lowest n s) l e in
      let h = lowest_some n s l w.1 in
      let rises : (a : ℕ) → a ≤ l → (ladder n).flows a l ≡ true = λ a k. grind (arith, nat_tests) in
      let ready : t l ≡ true = sym (same l (rises l (omega arith))) ∙ h.1 in
      let idle : (b : ℕ) → b < l → t b ≡ false = λ b k. sym (same b (rises b (omega arith))) ∙ h.2 b k in
      cond-true (nat_lt p n) (lowest n t) None w.0 ∙ lowest_found n t l h.0 ready idle;
}

-- flow on a ladder is upward, and at a place below n exactly the lowest ready level is picked
pub picks_lowest : (n : ℕ) → PicksLowest n (ladder n)
picks_lowest n = record {
  flows_up = λ a b. (λ e. grind (arith, nat_tests), λ h k. grind (arith, nat_tests));
  picked = λ p s a e.
      let w = picked (nat_lt p n) (lowest n s) a e in
      let h = lowest_some n s a w.1 in
      (ltb-true _ _ w.0, h.0, h.1, h.2);
  picks = λ p s a hp ha r idle. cond-true (nat_lt p n) (lowest n s) None (lt-ltb _ _ hp) ∙ lowest_found n s a ha r idle;
}
