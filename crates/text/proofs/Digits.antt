-- The digits of a text, taken one after another until one is none. Assumes nothing.
use Rattle.std.proofs.Common.{◌≡◌, ℕ, ◌≤◌, List, [], ◌∷◌, Some, None, Option, MatchOption, Bor, Iter, sym, ap, ◌∙◌, subst}
use Rattle.std.proofs.iter.Yields.{fronts}
use Rattle.std.specs.Iterator.{AlwaysYields, Yields}
use Rattle.std.specs.List.{FoldsTo}
use Rattle.text.specs.Numbers.{pushed}
use Rattle.text.proofs.Counts.{read_from, from_none}

module _ (base : ℕ) (some : 1 ≤ base) where
  -- turns that each push a digit read what they went over
  pub so_far : {F : Type 0} (f : F) (turn : F × ℕ → Bor ℕ → F × ℕ → Type 0) → ((a : ℕ) (x : Bor ℕ) (q : F × ℕ) → turn (f, a) x q → (q.0 ≡ f) × (Some q.1 ≡ pushed base a x.now)) → (xs : List (Bor ℕ)) (s t : Iter ℕ) (cs : List ℕ) (a : ℕ) (q : F × ℕ) → AlwaysYields fronts (λ y. y.now) s cs → Yields fronts s xs t → FoldsTo turn (f, a) xs q → (ds : List ℕ) × AlwaysYields fronts (λ y. y.now) t ds × (q.0 ≡ f) × (read_from base some (Some a) cs ≡ read_from base some (Some q.1) ds)
  so_far {F = F} f turn goes [] s t cs a q runs y c = (cs, subst (λ u. AlwaysYields fronts (λ y. y.now) u cs) y runs, sym (ap (λ (v : F × ℕ). v.0) c), ap (λ (v : F × ℕ). read_from base some (Some v.1) cs) c)
  so_far f turn goes (x ∷ xs) s t [] a q runs (j, one, y) c = absurd (runs x j one)
  so_far {F = F} f turn goes (x ∷ xs) s t (d ∷ ds) a q runs (j, one, y) (m, k, c) =
      let (is, later) = runs.1 x j one in
      let (same, next) = goes a x m k in
      let (es, left, kept, reads) = so_far f turn goes xs j t ds m.1 q later y (subst (λ (v : F × ℕ). FoldsTo turn v xs q) {x = m} {y = (f, m.1)} (λ i. (same i, m.1)) c) in
      (es, left, kept, ap (λ o. read_from base some o ds) (ap (pushed base a) (sym is) ∙ sym next) ∙ reads)

  -- the last call finds no digit, or breaks off
  pub last : (End : Type 0) (Stop : Bor ℕ → Type 0) (r : Option ℕ) (a : ℕ) → (End → r ≡ Some a) → ((x : Bor ℕ) → Stop x → (r ≡ None) × (pushed base a x.now ≡ None)) → (o : Option (Bor ℕ)) (t u : Iter ℕ) (ds : List ℕ) → AlwaysYields fronts (λ y. y.now) t ds → fronts t o u → MatchOption o End Stop → r ≡ read_from base some (Some a) ds
  last End Stop r a ends stops None t u [] runs one h = ends h
  last End Stop r a ends stops None t u (d ∷ ds) runs one h = absurd (runs.0 u one)
  last End Stop r a ends stops (Some x) t u [] runs one h = absurd (runs x u one)
  last End Stop r a ends stops (Some x) t u (d ∷ ds) runs one h =
      let (is, later) = runs.1 x u one in
      let (none, off) = stops x h in
      none ∙ sym (ap (λ o. read_from base some o ds) (ap (pushed base a) (sym is) ∙ off) ∙ from_none base some ds)
