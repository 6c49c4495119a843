-- Lists of records seen through a function of each, and one list among others. Assumes nothing.
use Rattle.std.proofs.Common.{◌≡◌, ℕ, zero, suc, ◌<◌, true, false, cond, eqb, ◌⊎◌, List, [], ◌∷◌, map, length, get_or, set, sym, refl, ap, ◌∙◌, inl, inr, arith}
use mathlib.Core.Path.{fun_ext}
use Rattle.std.proofs.lemmas.Bool.Decides.{nat_tests, eqb_tells}
use Rattle.host.specs.Channels.{Channels, with_list}

module _ {A B : Type 0} (f : A → B) where
  -- what stands at `i`, seen through `f`, whatever the default
  pub at_is : (l : List A) (i : ℕ) (x : A) (z : B) → i < length l → x ≡ get_or l i x → get_or (map f l) i z ≡ f x
  at_is [] i x z h e = absurd (omega arith)
  at_is (y ∷ ys) zero x z h e = ap f (sym e)
  at_is (y ∷ ys) (suc i) x z h e = at_is ys i x z (omega arith) e

  -- what stands at `d` once the element at `i` is `a`
  pub at_set : (l : List A) (i : ℕ) (a : A) (z : B) → i < length l → (d : ℕ) → get_or (map f (set l i a)) d z ≡ cond (eqb d i) (f a) (get_or (map f l) d z)
  at_set [] i a z h d = absurd (omega arith)
  at_set (y ∷ ys) zero a z h zero = refl
  at_set (y ∷ ys) zero a z h (suc d) = let e : eqb (suc d) 0 ≡ false = grind (arith, nat_tests) in simp e
  at_set (y ∷ ys) (suc i) a z h zero = let e : eqb 0 (suc i) ≡ false = grind (arith, nat_tests) in simp e
  at_set (y ∷ ys) (suc i) a z h (suc d) =
      let e : eqb (suc d) (suc i) ≡ eqb d i = grind (arith, nat_tests) in
      simp e (at_set ys i a z (omega arith) d)

-- a function that gets the value that it has at a place is as it was
pub stays : {A : Type 0} (f : ℕ → A) (i : ℕ) (x : A) → x ≡ f i → (d : ℕ) → cond (eqb d i) x (f d) ≡ f d
stays f i x e d = by_test (eqb_tells d i)
  where
    by_test : ((eqb d i ≡ true) × (d ≡ i)) ⊎ ((eqb d i ≡ false) × (d ≡ i → ⊥)) → cond (eqb d i) x (f d) ≡ f d
    by_test (inl (t, k)) = rw t (e ∙ ap f (sym k))
    by_test (inr (t, n)) = rw t

-- a channel that gets the list that it has is as it was
pub with_same : (b : Channels) (c : ℕ) → with_list b c (b.list c) ≡ b
with_same b c = ap (λ h. record { count = b.count; capacity = b.capacity; list = h }) (fun_ext (stays b.list c (b.list c) refl))
