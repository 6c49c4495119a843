-- Entries one after another, into a table of 16. Assumes nothing.
use Rattle.std.proofs.Common.{◌≡◌, ℕ, suc, ◌+◌, ◌-◌, ◌<◌, List, [], ◌∷◌, ◌++◌, length, take, drop, set, replicate, Ok, Err, Result, sym, refl, ap, ◌∙◌, append_assoc, append-nil, arith, length-set}
use Rattle.std.proofs.lemmas.List.{take_more_set, drop-set-lt, drop-drop, take-append-drop, take_all}
use Rattle.text.specs.declared.error.LineError.{LineError}
use Rattle.text.specs.Answers.{then}
use Rattle.text.specs.Arguments.{table_from}

-- what is still to be read, with the rows before it in front
abbrev onto : List ℕ → Result (List ℕ × List (List ℕ)) LineError → Result (List ℕ × List (List ℕ)) LineError
onto xs r = then r (λ p. Ok (xs ++ p.0, p.1))

onto_nil : (r : Result (List ℕ × List (List ℕ)) LineError) → r ≡ onto [] r
onto_nil (Ok p) = refl
onto_nil (Err e) = refl

onto_more : (xs : List ℕ) (x : ℕ) (r : Result (List ℕ × List (List ℕ)) LineError) → onto xs (then r (λ p. Ok (x ∷ p.0, p.1))) ≡ onto (xs ++ x ∷ []) r
onto_more xs x (Ok p) = ap (λ l. Ok (l, p.1)) (sym (append_assoc xs (x ∷ []) p.0))
onto_more xs x (Err e) = refl

module _ (f : List ℕ → Result ℕ LineError) where
  -- the first i entries are in the table, which is 0 past them, and the words vs are left
  pub record Sofar (ws : List (List ℕ)) (i : ℕ) (rows : List ℕ) (vs : List (List ℕ)) : Type 0 where
    pub size : length rows ≡ 16
    pub unused : drop i rows ≡ replicate (16 - i) 0
    pub left : table_from f 16 ws ≡ onto (take i rows) (table_from f (16 - i) vs)

  pub start : (ws : List (List ℕ)) → Sofar ws 0 (replicate 16 0) ws
  start ws = record { size = refl; unused = refl; left = onto_nil (table_from f 16 ws) }

  -- one entry is left at least
  one_left : (i : ℕ) (rows : List ℕ) (vs : List (List ℕ)) → i < 16 → onto (take i rows) (table_from f (16 - i) vs) ≡ onto (take i rows) (table_from f (suc (16 - (i + 1))) vs)
  one_left i rows vs lt = let e : 16 - i ≡ suc (16 - (i + 1)) = omega arith in ap (λ k. onto (take i rows) (table_from f k vs)) e

  pub more : (ws : List (List ℕ)) (i : ℕ) (rows : List ℕ) (vs : List (List ℕ)) (w : List ℕ) (us : List (List ℕ)) (x : ℕ) → i < 16 → vs ≡ w ∷ us → f w ≡ Ok x → Sofar ws i rows vs → Sofar ws (i + 1) (set rows i x) us
  more ws i rows vs w us x lt ev er s =
      let room : i < length rows = omega (arith, s.size) in
      let k : 16 - i ≡ suc (16 - (i + 1)) = omega arith in
      record {
        size = length-set rows i x ∙ s.size;
        unused = drop-set-lt (i + 1) rows i x (omega arith) ∙ sym (drop-drop 1 i rows) ∙ ap (drop 1) (s.unused ∙ ap (λ n. replicate n 0) k);
        left = s.left ∙ one_left i rows vs lt
            ∙ ap (λ l. onto (take i rows) (table_from f (suc (16 - (i + 1))) l)) ev
            ∙ ap (λ r. onto (take i rows) (then r (λ y. then (table_from f (16 - (i + 1)) us) (λ p. Ok (y ∷ p.0, p.1))))) er
            ∙ onto_more (take i rows) x (table_from f (16 - (i + 1)) us)
            ∙ ap (λ xs. onto xs (table_from f (16 - (i + 1)) us)) (sym (take_more_set rows i x room));
      }

  -- a word that is no entry
  pub stop : (ws : List (List ℕ)) (i : ℕ) (rows : List ℕ) (vs : List (List ℕ)) (w : List ℕ) (us : List (List ℕ)) (e : LineError) → i < 16 → vs ≡ w ∷ us → f w ≡ Err e → Sofar ws i rows vs → table_from f 16 ws ≡ Err e
  stop ws i rows vs w us e lt ev er s =
      s.left ∙ one_left i rows vs lt
      ∙ ap (λ l. onto (take i rows) (table_from f (suc (16 - (i + 1))) l)) ev
      ∙ ap (λ r. onto (take i rows) (then r (λ y. then (table_from f (16 - (i + 1)) us) (λ p. Ok (y ∷ p.0, p.1))))) er

  -- no word is left
  pub short : (ws : List (List ℕ)) (i : ℕ) (rows : List ℕ) (vs us : List (List ℕ)) → i < 16 → vs ≡ [] → us ≡ [] → Sofar ws i rows vs → table_from f 16 ws ≡ Ok (rows, us)
  short ws i rows vs us lt ev eu s =
      let k : suc (16 - (i + 1)) ≡ 16 - i = omega arith in
      s.left ∙ one_left i rows vs lt
      ∙ ap (λ l. onto (take i rows) (table_from f (suc (16 - (i + 1))) l)) ev
      ∙ ap (λ n. Ok (take i rows ++ replicate n 0, [])) k
      ∙ ap (λ l. Ok (take i rows ++ l, [])) (sym s.unused)
      ∙ ap (λ l. Ok (l, [])) (take-append-drop i rows)
      ∙ ap (λ l. Ok (rows, l)) (sym eu)

  -- the table is full
  pub done : (ws : List (List ℕ)) (i : ℕ) (rows : List ℕ) (vs : List (List ℕ)) → i ≡ 16 → Sofar ws i rows vs → table_from f 16 ws ≡ Ok (rows, vs)
  done ws i rows vs e s =
      s.left ∙ ap (λ j. onto (take j rows) (table_from f (16 - j) vs)) e ∙ ap (λ l. Ok (l, vs)) (append-nil (take 16 rows) ∙ take_all 16 rows (omega (arith, s.size)))
