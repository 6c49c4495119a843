-- What `lowest` answers. Assumes nothing.
use Rattle.std.specs.Prelude.{◌≡◌, ℕ, zero, suc, ◌<◌, ◌≤◌, Bool, true, false, cond, Some, None, Option, refl}
use Rattle.std.proofs.Common.{sym, ap, subst, ⊎_elim, arith}
use Rattle.std.proofs.lemmas.Bool.{cases_lt, both_ways}
use Rattle.regime.specs.Order.{Levels}
use Rattle.page.specs.Ladder.{Lowest, lowest, first_some}

-- nobody below n is ready
pub lowest_none : (n : ℕ) (s : Levels) → ((a : ℕ) → a < n → s a ≡ false) → lowest n s ≡ None
lowest_none zero s h = refl
lowest_none (suc n) s h =
    let e = lowest_none n s (λ a l. h a (omega arith)) in
    let f = h n (omega arith) in simp (e, f)

-- a is ready, and nobody below it
pub lowest_found : (n : ℕ) (s : Levels) (a : ℕ) → a < n → s a ≡ true → ((b : ℕ) → b < a → s b ≡ false) → lowest n s ≡ Some a
lowest_found zero s a l r h = absurd (omega arith)
lowest_found (suc n) s a l r h =
    ⊎_elim (λ (k : a < n). let e = lowest_found n s a k r h in simp e)
    (λ (k : n ≤ a).
    let q : n ≡ a = omega arith in
    let e = lowest_none n s (λ b m. h b (omega arith)) in
    let t : s n ≡ true = rw q r in simp (e, t) (ap Some q))
    (cases_lt a n)

-- a lowest answer for n levels makes one for n + 1, once level n is asked too
one_more : (n : ℕ) (s : Levels) (o : Option ℕ) (b : Bool) → Lowest n s o → s n ≡ b → Lowest (suc n) s (first_some o (cond b (Some n) None))
one_more n s (Some a) b f e = (omega (arith, f.0), f.1, f.2)
one_more n s None true f e = (omega arith, e, f)
one_more n s None false f e = λ a l. ⊎_elim (λ (k : a < n). f a k) (λ (k : n ≤ a). let q : a ≡ n = omega arith in rw q e) (cases_lt a n)

-- what `lowest` answers is a lowest answer
found : (n : ℕ) (s : Levels) → Lowest n s (lowest n s)
found zero s = λ a l. absurd (omega arith)
found (suc n) s = one_more n s (lowest n s) (s n) (found n s) refl

-- a level that is answered is below n and ready, and nobody below it is
pub lowest_some : (n : ℕ) (s : Levels) (a : ℕ) → lowest n s ≡ Some a → (a < n) × (s a ≡ true) × ((b : ℕ) → b < a → s b ≡ false)
lowest_some n s a e = subst (Lowest n s) e (found n s)

-- a lowest answer is somebody where anybody is ready
some_of : (n : ℕ) (s : Levels) (a : ℕ) → a < n → s a ≡ true → (o : Option ℕ) → Lowest n s o → (b : ℕ) × (o ≡ Some b)
some_of n s a l r (Some b) f = (b, refl)
some_of n s a l r None f = absurd (both_ways (s a) (f a l) r)

-- somebody is answered where anybody is ready
pub lowest_any : (n : ℕ) (s : Levels) (a : ℕ) → a < n → s a ≡ true → (b : ℕ) × (lowest n s ≡ Some b)
lowest_any n s a l r = some_of n s a l r (lowest n s) (found n s)

-- levels from n on make no difference
pub lowest_same : (n : ℕ) (s t : Levels) → ((a : ℕ) → a < n → s a ≡ t a) → lowest n s ≡ lowest n t
lowest_same zero s t h = refl
lowest_same (suc n) s t h =
    let e = lowest_same n s t (λ a l. h a (omega arith)) in
    let f = h n (omega arith) in simp (e, f)

-- there is only one lowest answer
pub lowest_is : (n : ℕ) (s : Levels) (o : Option ℕ) → Lowest n s o → o ≡ lowest n s
lowest_is n s (Some a) h = sym (lowest_found n s a h.0 h.1 h.2)
lowest_is n s None h = sym (lowest_none n s h)
