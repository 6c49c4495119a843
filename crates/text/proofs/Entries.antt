-- Entries one after another, 16 at most, as a list; of a table of them Rows.antt. Assumes nothing.
use Rattle.std.proofs.Common.{◌≡◌, ℕ, suc, ◌+◌, ◌-◌, ◌<◌, List, [], ◌∷◌, ◌++◌, length, drop, replicate, Ok, Err, Result, sym, refl, ap, ◌∙◌, append_assoc, arith}
use Rattle.text.specs.declared.error.LineError.{LineError}
use Rattle.std.proofs.lemmas.List.{drop-replicate}
use Rattle.text.specs.Answers.{then}
use Rattle.text.specs.Arguments.{entries_from, table_from}
use Rattle.text.proofs.Given.{table_filled}

-- what is still to be read, with the entries before it in front
abbrev pub onto : List ℕ → Result (List ℕ × List (List ℕ)) LineError → Result (List ℕ × List (List ℕ)) LineError
onto xs r = then r (λ p. Ok (xs ++ p.0, p.1))

-- an entry more in front
onto_more : (xs : List ℕ) (x : ℕ) (r : Result (List ℕ × List (List ℕ)) LineError) → onto xs (then r (λ p. Ok (x ∷ p.0, p.1))) ≡ onto (xs ++ x ∷ []) r
onto_more xs x (Ok p) = ap (λ l. Ok (l, p.1)) (sym (append_assoc xs (x ∷ []) p.0))
onto_more xs x (Err e) = refl

module _ (f : List ℕ → Result ℕ LineError) where
  -- the entries xs of the first i words are read, and the words vs are left
  pub record Sofar (ws : List (List ℕ)) (i : ℕ) (xs : List ℕ) (vs : List (List ℕ)) : Type 0 where
    pub left : entries_from f 16 ws ≡ onto xs (entries_from f (16 - i) vs)

  -- one entry is left at least
  one_left : (i : ℕ) (vs us : List (List ℕ)) → i < 16 → vs ≡ us → entries_from f (16 - i) vs ≡ entries_from f (suc (16 - (i + 1))) us
  one_left i vs us lt e = let k : 16 - i ≡ suc (16 - (i + 1)) = omega arith in ap (λ n. entries_from f n vs) k ∙ ap (entries_from f (suc (16 - (i + 1)))) e

  -- one more is read
  pub more : (ws : List (List ℕ)) (i j : ℕ) (xs ys : List ℕ) (vs : List (List ℕ)) (w : List ℕ) (us : List (List ℕ)) (x : ℕ) → i < 16 → vs ≡ w ∷ us → f w ≡ Ok x → j ≡ i + 1 → ys ≡ xs ++ x ∷ [] → Sofar ws i xs vs → Sofar ws j ys us
  more ws i j xs ys vs w us x lt ev er next items s = record {
    left = s.left ∙ ap (onto xs) (one_left i vs (w ∷ us) lt ev)
        ∙ ap (λ r. onto xs (then r (λ y. then (entries_from f (16 - (i + 1)) us) (λ p. Ok (y ∷ p.0, p.1))))) er
        ∙ onto_more xs x (entries_from f (16 - (i + 1)) us)
        ∙ ap (λ l. onto l (entries_from f (16 - (i + 1)) us)) (sym items)
        ∙ ap (λ n. onto ys (entries_from f (16 - n) us)) (sym next);
  }

  -- a word that is no entry
  pub stop : (ws : List (List ℕ)) (i : ℕ) (xs : List ℕ) (vs : List (List ℕ)) (w : List ℕ) (us : List (List ℕ)) (e : LineError) → i < 16 → vs ≡ w ∷ us → f w ≡ Err e → Sofar ws i xs vs → entries_from f 16 ws ≡ Err e
  stop ws i xs vs w us e lt ev er s =
      s.left ∙ ap (onto xs) (one_left i vs (w ∷ us) lt ev)
      ∙ ap (λ r. onto xs (then r (λ y. then (entries_from f (16 - (i + 1)) us) (λ p. Ok (y ∷ p.0, p.1))))) er

  -- a table of them
  pub table_ok : (ws vs : List (List ℕ)) (xs ys : List ℕ) (n : ℕ) → entries_from f 16 ws ≡ Ok (xs, vs) → n ≡ length xs → ys ≡ xs → table_from f 16 ws ≡ Ok (ys ++ drop n (replicate 16 0), vs)
  table_ok ws vs xs ys n s len is =
      table_filled f 16 ws ∙ ap (λ r. then r (λ p. Ok (p.0 ++ replicate (16 - length p.0) 0, p.1))) s
      ∙ ap (λ l. Ok (l ++ replicate (16 - length xs) 0, vs)) (sym is)
      ∙ ap (λ k. Ok (ys ++ replicate (16 - k) 0, vs)) (sym len)
      ∙ ap (λ l. Ok (ys ++ l, vs)) (sym (drop-replicate n 16 0))
