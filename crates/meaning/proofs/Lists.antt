-- The value at a place of a list, and changes at one place of a function. Assumes nothing.
use Rattle.std.proofs.Common.{◌≡◌, ℕ, zero, suc, ◌<◌, ◌≤◌, Bool, true, false, cond, eqb, List, [], ◌∷◌, ◌++◌, length, ℤ, Some, None, refl, ap, ◌∙◌, append-nil, arith}
use Rattle.std.proofs.lemmas.Bool.{eqb-true, eq-eqb, ne_eqb}
use Rattle.host.specs.Channels.{rest}
use Rattle.meaning.specs.Copies.{nth, with_at}
use Rattle.meaning.specs.Logs.{on}
use Rattle.meaning.specs.Visits.{put_on, take_off}

-- anything follows where 0 is 1
pub clash : {X : Type 0} → ◌≡◌ {A = ℕ} 0 1 → X
clash e = absurd (omega arith)

-- a value at a place stays there when the list goes on
pub nth_more : (xs zs : List ℤ) (n : ℕ) (v : ℤ) → nth xs n ≡ Some v → nth (xs ++ zs) n ≡ Some v
nth_more [] zs n v e = clash cc
nth_more (x ∷ xs) zs zero v e = e
nth_more (x ∷ xs) zs (suc n) v e = nth_more xs zs n v e

-- a place with a value is below the length
pub nth_below : (xs : List ℤ) (n : ℕ) (v : ℤ) → nth xs n ≡ Some v → n < length xs
nth_below [] n v e = clash cc
nth_below (x ∷ xs) zero v e = omega arith
nth_below (x ∷ xs) (suc n) v e = let h = nth_below xs n v e in omega arith

-- a place without one is not
pub nth_past : (xs : List ℤ) (n : ℕ) → nth xs n ≡ None → length xs ≤ n
nth_past [] n e = omega arith
nth_past (x ∷ xs) zero e = clash cc
nth_past (x ∷ xs) (suc n) e = let h = nth_past xs n e in omega arith

-- what is added to a list stands at the place of its old length
pub nth_added : (xs zs : List ℤ) (v : ℤ) → nth (xs ++ (v ∷ zs)) (length xs) ≡ Some v
nth_added [] zs v = refl
nth_added (x ∷ xs) zs v = nth_added xs zs v

-- a list with a first value is that value and the rest
pub nth_first : (xs : List ℤ) (v : ℤ) → nth xs 0 ≡ Some v → xs ≡ v ∷ rest xs
nth_first [] v e = clash cc
nth_first (x ∷ xs) v e = let h : x ≡ v = cc in ap (λ y. y ∷ xs) h

-- a change at one place keeps what holds at each
pub with_at_keeps : {A : Type 0} (P : ℕ → A → Type 0) (f : ℕ → A) (k : ℕ) (v : A) → P k v → ((j : ℕ) → P j (f j)) → (j : ℕ) → P j (with_at f k v j)
with_at_keeps P f k v here all j = at_test (eqb j k) refl
  where
    at_test : (b : Bool) → eqb j k ≡ b → P j (cond b v (f j))
    at_test true e = rw (eqb-true j k e) here
    at_test false e = all j

-- the change is seen at its place
pub with_at_here : {A : Type 0} (f : ℕ → A) (k : ℕ) (v : A) → with_at f k v k ≡ v
with_at_here f k v = ap (λ b. cond b v (f k)) (eq-eqb k k refl)

-- and not at another
pub with_at_other : {A : Type 0} (f : ℕ → A) (k : ℕ) (v : A) (j : ℕ) → (j ≡ k → ⊥) → with_at f k v j ≡ f j
with_at_other f k v j nay = ap (λ b. cond b v (f j)) (ne_eqb j k nay)

-- a put adds its value to the list of its channel alone
pub put_adds : (f : ℕ → List ℤ) (j k : ℕ) (v : ℤ) → f k ++ on j k v ≡ put_on j v f k
put_adds f j k v = at_test (eqb k j) refl
  where
    at_test : (b : Bool) → eqb k j ≡ b → f k ++ cond b (v ∷ []) [] ≡ cond b (f j ++ (v ∷ [])) (f k)
    at_test true e = ap (λ i. f i ++ (v ∷ [])) (eqb-true k j e)
    at_test false e = append-nil (f k)

-- and a take removes the first value of its channel alone
pub take_removes : (f : ℕ → List ℤ) (j k : ℕ) (v : ℤ) → nth (f j) 0 ≡ Some v → f k ++ [] ≡ on j k v ++ take_off j f k
take_removes f j k v h = at_test (eqb k j) refl
  where
    at_test : (b : Bool) → eqb k j ≡ b → f k ++ [] ≡ cond b (v ∷ []) [] ++ cond b (rest (f j)) (f k)
    at_test true e = append-nil (f k) ∙ ap f (eqb-true k j e) ∙ nth_first (f j) v h
    at_test false e = append-nil (f k)
