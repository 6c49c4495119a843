-- A set that is gathered level by level. Assumes nothing.
use Rattle.std.proofs.Common.{◌≡◌, ℕ, ◌+◌, ◌<◌, Bool, true, false, ◌&&◌, ◌||◌, eqb, ltb, arith}
use Rattle.std.proofs.lemmas.Bool.Decides.{nat_tests}

-- s holds the levels below i that f holds
abbrev pub Below : (ℕ → Bool) → ℕ → (ℕ → Bool) → Type 0
Below f i s = (k : ℕ) → s k ≡ (ltb k i && f k)

module _ (f : ℕ → Bool) (i : ℕ) (s : ℕ → Bool) (before : Below f i s) where
  -- f does not hold i, and nothing is added
  pub without : f i ≡ false → Below f (i + 1) s
  without e k = grind (arith, nat_tests, before k)

  -- f holds i, and i is added
  pub with_it : f i ≡ true → i < 16 → (t : ℕ → Bool) → ((a : ℕ) → t a ≡ ((eqb a i && ltb i 16) || s a)) → Below f (i + 1) t
  with_it e small t added k = grind (arith, nat_tests, before k, added k)
