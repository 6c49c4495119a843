-- What `all` over the numbers below n answers, where each call of its closure decides a fact about its number. Assumes
-- nothing.
use Rattle.std.proofs.Common.{◌≡◌, ℕ, ◌<◌, List, length, Bool, get_or, true, false, Option, sym, ◌∙◌, subst, refl, arith, Decides}
use Rattle.std.specs.Bool.{MatchBool}
use Rattle.std.specs.Fn.{Called}
use Rattle.std.specs.Iterator.{YieldsThen}
use Rattle.std.specs.List.{range_with_len, AllWithin, HoldsAt, FoldsTo}
use Rattle.std.specs.Option.{MatchOption}
use Rattle.std.specs.declared.ops.Range.{Range}
use Rattle.std.proofs.iter.Yields.{nat_range_steps}
use Rattle.std.proofs.lemmas.Iterator.{YieldsList-from_range, cases_from_all}
use Rattle.std.proofs.lemmas.List.FromFn.{length-range_with_len, get_or-range_with_len}
use denote.Param.Members.{Mut}

-- each number below n stands at its own place
at : (n a d : ℕ) → a < n → get_or (range_with_len 0 n) a d ≡ a
at n a d l = get_or-range_with_len 0 n a d l ∙ omega arith

decided : (P : ℕ → Type 0) (n : ℕ) (r : Bool) → MatchBool r (AllWithin P (range_with_len 0 n) 0 (length (range_with_len 0 n))) ((k : ℕ) × (k < length (range_with_len 0 n)) × HoldsAt (λ x. P x → ⊥) (range_with_len 0 n) k) → Decides r ((a : ℕ) → a < n → P a)
decided P n true h = (λ _ a l. subst P (at n a 0 l) (h a 0 (omega arith) (rw length-range_with_len l)), λ _. refl)
decided P n false h =
    let l : h.0 < n = omega (arith, length-range_with_len 0 n, h.1) in
    (λ e. absurd (cc), λ f. absurd (h.2 0 (subst P (sym (at n h.0 0 l)) (f h.0 l))))

pub decides_from_all : {F : Type 0} {g : Mut F (ℕ × Unit {0}) Bool} {s : Range ℕ} (u : Range ℕ) (f : F) (P : ℕ → Type 0) (n : ℕ) (r : Bool) → (ys : List ℕ) × (o : Option ℕ) × (j : F) × YieldsThen nat_range_steps s ys o u × FoldsTo (λ p x q. Called g p (x, tt) true q) f ys j × MatchOption o (r ≡ true) (λ x. (r ≡ false) × ((h : F) × Called g j (x, tt) false h)) → s ≡ record { start = 0; end = n } → ((x : ℕ) (b : Bool) (q : F) → Called g f (x, tt) b q → (q ≡ f) × Decides b (P x)) → Decides r ((a : ℕ) → a < n → P a)
decides_from_all u f P n r ran start call =
    decided P n r (cases_from_all u f r P (λ x. P x → ⊥) ran (YieldsList-from_range 0 n n start (omega arith)) (λ x q k. let t = call x true q k in (t.0, t.1.0 refl)) (λ x q k p. let t = call x false q k in absurd (cc (t.1.1 p))))
