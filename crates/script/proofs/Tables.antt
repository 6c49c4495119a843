-- Tables with a count: their used part decides them. Assumes nothing.
use Rattle.std.proofs.Common.{◌≡◌, ℕ, ◌≤◌, List, length, get_or, take, replicate, sym, ap, ◌∙◌, subst, ⊎_elim}
use lib.ListN.{length-replicate}
use Rattle.std.proofs.lemmas.List.{get_or-take, ext_get_or, get_or-replicate, get_or_past}
use Rattle.std.proofs.lemmas.Bool.{cases_lt}
use Rattle.script.specs.Laws.{Blank}

module _ {X : Type 0} (d : X) where
  -- two tables of one length with the same used part, blank past it, are the same
  pub same_table : (c : ℕ) (xs ys : List X) → length xs ≡ length ys → Blank d c xs → Blank d c ys → take c xs ≡ take c ys → xs ≡ ys
  same_table c xs ys long bx by e =
      ext_get_or d xs ys long
      (λ k _.
      ⊎_elim
      (λ lt. sym (get_or-take c xs k d lt) ∙ ap (λ l. get_or l k d) e ∙ get_or-take c ys k d lt)
      (λ le. bx k le ∙ sym (by k le))
      (cases_lt k c))

  -- a table that holds d everywhere
  pub blank_all : (n : ℕ) → Blank d 0 (replicate n d)
  blank_all n k _ = ⊎_elim (λ lt. get_or-replicate n k d d lt) (λ le. get_or_past (replicate n d) k d (subst (λ m. m ≤ k) (sym (length-replicate n d)) le)) (cases_lt k n)
