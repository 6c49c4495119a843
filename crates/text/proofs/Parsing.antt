-- What a call of a line's reader makes of the line. Assumes nothing.
use Rattle.std.proofs.Common.{◌≡◌, ℕ, false, List, ◌∷◌, Some, None, Ok, Option, Result, MatchBool, sym, subst}
use Rattle.text.specs.declared.error.LineError.{LineError}
use Rattle.text.specs.Answers.{then}
use Rattle.text.specs.Arguments.{ended}
use Rattle.text.specs.Lines.{comment, LineGives}

module _ {C : Type 0} (Call : List ℕ → List (List ℕ) → Result C LineError → List (List ℕ) → Type 0) where
  -- a line with a name, which is not for people, gives what a call of its reader makes of it
  pub line_is : (ws vs us : List (List ℕ)) (name : List ℕ) (q : Result C LineError) (r : Result (Option C) LineError) → ws ≡ name ∷ vs → comment name ≡ false → Call name vs q us → r ≡ then q (λ x. then (ended us) (λ _. Ok (Some x))) → LineGives Call ws r
  line_is ws vs us name q r is plain made gives =
      subst (λ l. LineGives Call l r) (sym is)
      (subst (λ b. MatchBool b (r ≡ Ok None) ((p : Result C LineError) × (ts : List (List ℕ)) × Call name vs p ts × (r ≡ then p (λ x. then (ended ts) (λ _. Ok (Some x)))))) (sym plain) (q, us, made, gives))
