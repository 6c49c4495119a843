-- What the value at a place of a list tells of the list. Assumes nothing.
use Rattle.std.proofs.Common.{◌≡◌, ℕ, zero, suc, ◌<◌, ◌≤◌, List, [], ◌∷◌, length, get_or, ℤ, Some, None, Option, sym, refl, ap, arith}
use Rattle.meaning.specs.Copies.{nth}

-- a value is not none
clash : (v : ℤ) → ◌≡◌ {A = Option ℤ} (Some v) None → ⊥
clash v e = let z : ◌≡◌ {A = ℕ} 0 1 = cc in omega arith

-- where a value is found, the place is below the length; where none is, it is not
pub nth_some : (xs : List ℤ) (i : ℕ) (v d : ℤ) → nth xs i ≡ Some v → (i < length xs) × (get_or xs i d ≡ v)
nth_some [] i v d e = absurd (clash v (sym e))
nth_some (x ∷ xs) zero v d e = (omega arith, cc)
nth_some (x ∷ xs) (suc i) v d e = let r = nth_some xs i v d e in let h = r.0 in (omega arith, r.1)

pub nth_none : (xs : List ℤ) (i : ℕ) → nth xs i ≡ None → length xs ≤ i
nth_none [] i e = omega arith
nth_none (x ∷ xs) zero e = absurd (clash x e)
nth_none (x ∷ xs) (suc i) e = let h = nth_none xs i e in omega arith

-- and the other way: below the length a value is found, elsewhere none
pub nth_below : (xs : List ℤ) (i : ℕ) (d : ℤ) → i < length xs → nth xs i ≡ Some (get_or xs i d)
nth_below [] i d h = absurd (omega arith)
nth_below (x ∷ xs) zero d h = refl
nth_below (x ∷ xs) (suc i) d h = nth_below xs i d (omega arith)

pub nth_past : (xs : List ℤ) (i : ℕ) → length xs ≤ i → nth xs i ≡ None
nth_past [] i h = refl
nth_past (x ∷ xs) zero h = absurd (omega arith)
nth_past (x ∷ xs) (suc i) h = nth_past xs i (omega arith)

-- the first value is what the list begins with, and a list without one is empty
pub nth_first : (xs : List ℤ) (v : ℤ) → nth xs 0 ≡ Some v → (vs : List ℤ) × (xs ≡ v ∷ vs)
nth_first [] v e = absurd (clash v (sym e))
nth_first (x ∷ xs) v e = let k : x ≡ v = cc in (xs, ap (λ y. y ∷ xs) k)

pub nth_empty : (xs : List ℤ) → nth xs 0 ≡ None → xs ≡ []
nth_empty [] e = refl
nth_empty (x ∷ xs) e = absurd (clash x e)
