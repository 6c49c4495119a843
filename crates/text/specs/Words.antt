-- The words of a line. Assumes nothing.
use Rattle.std.specs.Prelude.{◌≡◌, ℕ, ◌<◌, cond, List, [], ◌∷◌, ◌++◌, length, Some, None, Ok, Err, Option, Result}
use Rattle.std.specs.Borrow.{Bor}
use Rattle.std.specs.Char.{is_ascii_whitespace}
use Rattle.text.specs.declared.error.LineError.{LineError}
use Rattle.text.specs.declared.error.LineError.TheVariants.{Missing}
use Rattle.text.specs.declared.words.Words.{Words}

-- w before the words ws; an empty w is no word
abbrev pub after : List ℕ → List (List ℕ) → List (List ℕ)
after [] ws = ws
after (c ∷ w) ws = (c ∷ w) ∷ ws

-- the words of a text whose first word began with the letters w, already read
abbrev pub words_from : List ℕ → List ℕ → List (List ℕ)
words_from w [] = after w []
words_from w (c ∷ cs) = cond (is_ascii_whitespace c) (after w (words_from [] cs)) (words_from (w ++ c ∷ []) cs)

-- the words of a text: its longest pieces without a blank
abbrev pub words_of : List ℕ → List (List ℕ)
words_of cs = words_from [] cs

-- the words that are left
abbrev pub left : Words → List (List ℕ)
left w = words_of w.rest.now

-- w is the first of the words ws, with vs after it; it is empty where there are none
abbrev pub Cut : List (List ℕ) → List ℕ → List (List ℕ) → Type 0
Cut ws w vs = (length w ≡ 0 → (ws ≡ []) × (vs ≡ [])) × (0 < length w → ws ≡ w ∷ vs)

-- r is the first of the words ws, with vs after it
abbrev pub First : List (List ℕ) → Option (Bor (List ℕ)) → List (List ℕ) → Type 0
First ws None vs = (ws ≡ []) × (vs ≡ [])
First ws (Some w) vs = ws ≡ w.now ∷ vs

-- r is the first of the words ws, with vs after it; a word is missing where there is none
abbrev pub Next : List (List ℕ) → Result (Bor (List ℕ)) LineError → List (List ℕ) → Type 0
Next ws (Ok w) vs = ws ≡ w.now ∷ vs
Next ws (Err e) vs = (e ≡ Missing) × (ws ≡ []) × (vs ≡ [])
