-- How the answers of functions that read a part of a file are tied to reading as a function. Assumes nothing.
use Rattle.std.specs.Prelude.{◌≡◌, ℕ, ◌^◌, ◌<◌, ◌≤◌, Bool, true, false, List, length, take, drop, IfOk, Some, None, Ok, Err, Option, Result, MatchOption, MatchResult}
use Rattle.std.specs.Borrow.{Bor}
use Rattle.refusal.specs.declared.Fault.{Fault}
use Rattle.format.specs.Numbers.{number}
use Rattle.format.specs.Rules.{Rule, broken}

-- r is the value and the rest that is wanted, or the fault that is
abbrev pub Is : {X : Type 0} → Result (X × List ℕ) Fault → Result (X × Bor (List ℕ)) Fault → Type 0
Is want r = MatchResult r (λ x. want ≡ Ok (x.0, x.1.now)) (λ f. want ≡ Err f)

-- r is Ok where the rule is kept, and else its fault
abbrev pub Ruled : {X : Type 0} → Bool → Fault → Result X Fault → Type 0
Ruled kept f r = MatchResult r (λ _. kept ≡ true) (λ g. (kept ≡ false) × (g ≡ f))

-- r is Ok where every rule is kept, and else the fault of the first that is broken
abbrev pub Keeps : {X : Type 0} → List Rule → Result X Fault → Type 0
Keeps rs r = MatchResult r (λ _. broken rs ≡ None) (λ f. broken rs ≡ Some f)

-- what is left is no longer
abbrev pub Shrinks : {X : Type 0} → List ℕ → Result (X × Bor (List ℕ)) Fault → Type 0
Shrinks bs r = IfOk r (λ x. length x.1.now ≤ length bs)

-- P of what is read
abbrev pub Reads : {X : Type 0} → Result (X × Bor (List ℕ)) Fault → (X → Type 0) → Type 0
Reads r P = IfOk r (λ x. P x.0)

-- v is the number of the first w bytes of bs, and rest is what follows them
pub record Cut (w : ℕ) (bs : List ℕ) (v : ℕ) (rest : List ℕ) : Type 0 where
  pub long : w ≤ length bs
  pub small : v < 256 ^ w
  pub value : v ≡ number (take w bs)
  pub left : rest ≡ drop w bs

-- r is the number of the first w bytes and what follows them, or nothing where there are fewer bytes
abbrev pub Cuts : ℕ → List ℕ → Option (ℕ × Bor (List ℕ)) → Type 0
Cuts w bs r = MatchOption r (length bs < w) (λ x. Cut w bs x.0 x.1.now)
