-- What rows of steps tell is what the plain run writes. Assumes nothing.
use Rattle.std.proofs.Common.{◌≡◌, ℕ, suc, List, [], ◌∷◌, ◌++◌, length, ℤ, sym, refl, ap, ◌∙◌, append_assoc, append-nil, length-append, arith}
use mathlib.Core.Path.{fun_ext}
use Rattle.meaning.specs.Copies.{plain_run, plain_step}
use Rattle.meaning.proofs.Lists.{put_adds}
use Rattle.preview.specs.Acts.{written_after}
use Rattle.preview.specs.Previews.{wrote_on, told_on, begun, one_more, EveryPreview}
use Rattle.preview.specs.declared.acts.Did.{Did}
use Rattle.preview.specs.declared.acts.Did.TheVariants.{Inner, Got, Defaulted, Wrote, Waits, Ended}

-- the last step comes last
told_last : (k : ℕ) (rs : List Did) (r : Did) → told_on k (rs ++ (r ∷ [])) ≡ told_on k rs ++ wrote_on k r
told_last k [] r = append-nil (wrote_on k r)
told_last k (q ∷ rs) r = ap (λ l. wrote_on k q ++ l) (told_last k rs r) ∙ sym (append_assoc (wrote_on k q) (told_on k rs) (wrote_on k r))

-- what a step tells is what it adds to the values written
adds : (w : ℕ → List ℤ) (r : Did) (k : ℕ) → w k ++ wrote_on k r ≡ written_after r w k
adds w Inner k = append-nil (w k)
adds w (Got j v) k = append-nil (w k)
adds w (Defaulted j) k = append-nil (w k)
adds w (Wrote j v) k = put_adds w j k v
adds w (Waits j) k = append-nil (w k)
adds w Ended k = append-nil (w k)

-- the values told by a step more
pub told_after : (rs : List Did) (r : Did) → (λ (k : ℕ). told_on k (rs ++ (r ∷ []))) ≡ written_after r (λ k. told_on k rs)
told_after rs r = fun_ext (λ k. told_last k rs r ∙ adds (λ i. told_on i rs) r k)

-- step by step
pub every_preview : EveryPreview
every_preview sc given list _ _ begun = refl
every_preview sc given list _ _ (one_more rs r c d before step) =
    let w : ℕ → List ℤ = λ k. told_on k rs in
    let longer : suc (length rs) ≡ length (rs ++ (r ∷ [])) = omega (arith, length-append rs (r ∷ [])) in
    let so_far : record { copy = c; written = w } ≡ plain_run sc given list (length rs) = every_preview sc given list rs c before in
    ap (λ (x : ℕ → List ℤ). record { copy = d; written = x }) (told_after rs r)
    ∙ step.after w
    ∙ ap (plain_step sc given list) so_far
    ∙ ap (plain_run sc given list) longer
