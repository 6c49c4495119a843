-- Lines of a command-line tool: a name and the words after it, or nothing. Assumes nothing.
use Rattle.std.specs.Prelude.{◌≡◌, ℕ, Bool, false, cond, List, [], ◌∷◌, Some, None, Ok, Option, Result, MatchBool, ◌==◌}
use Rattle.std.specs.Borrow.{Bor, MutBor}
use Rattle.std.specs.Fn.{Once}
use Rattle.text.specs.declared.error.LineError.{LineError}
use Rattle.text.specs.declared.words.Words.{Words}
use Rattle.text.specs.Answers.{then}
use Rattle.text.specs.Arguments.{ended}
use Rattle.text.specs.Words.{left}

-- a line whose first word begins with # is for people
abbrev pub comment : List ℕ → Bool
comment [] = false
comment (c ∷ cs) = c == 35

-- what a line of the words ws asks for, by what its name and the words after it do: all of them, and nothing if it is
-- blank or for people
abbrev pub line_asked : {R : Type 0} → (List ℕ → List (List ℕ) → Result (R × List (List ℕ)) LineError) → List (List ℕ) → Result (Option R) LineError
line_asked asked [] = Ok None
line_asked asked (name ∷ ws) = cond (comment name) (Ok None) (then (asked name ws) (λ p. then (ended p.1) (λ _. Ok (Some p.0))))

-- a call of `read` at the name and the words ws may answer q and leave the words vs
pub record Answers {C F : Type 0} (g : Once F (Bor (List ℕ) × (MutBor Words × Unit {0})) (Result C LineError × (MutBor Words × Unit {0}))) (read : F) (name : List ℕ) (ws : List (List ℕ)) (q : Result C LineError) (vs : List (List ℕ)) : Type 0 where
  pub shown : Bor (List ℕ)
  pub given : MutBor Words
  pub back : MutBor Words
  pub met : g.post read (shown, (given, tt)) (q, (back, tt))
  pub named : shown.now ≡ name
  pub before : left given.now ≡ ws
  pub after : left back.now ≡ vs

-- r is what a line of these words gives, where `Call` says what a name and the words after it do
abbrev pub LineGives : {C : Type 0} → (List ℕ → List (List ℕ) → Result C LineError → List (List ℕ) → Type 0) → List (List ℕ) → Result (Option C) LineError → Type 0
LineGives {C} Call [] r = r ≡ Ok None
LineGives {C} Call (name ∷ ws) r = MatchBool (comment name) (r ≡ Ok None) ((q : Result C LineError) × (vs : List (List ℕ)) × Call name ws q vs × (r ≡ then q (λ x. then (ended vs) (λ _. Ok (Some x)))))
