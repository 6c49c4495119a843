-- Records one after another, into a table. Assumes nothing.
use Rattle.std.proofs.Common.{◌≡◌, ℕ, suc, ◌+◌, ◌-◌, ◌<◌, List, [], ◌∷◌, ◌++◌, length, take, set, Ok, Err, Result, sym, refl, ap, ◌∙◌, append_assoc, arith}
use Rattle.std.proofs.lemmas.List.{take_more_set}
use Rattle.refusal.specs.declared.Fault.{Fault}
use Rattle.format.specs.Reading.{and_then, read_many}
use Rattle.reader.specs.declared.unread.Unread.{Unread}

-- what is still to be read, with the records before it in front
abbrev onto : {X : Type 0} → List X → Result (List X × List ℕ) Fault → Result (List X × List ℕ) Fault
onto xs r = and_then r (λ y. Ok (xs ++ y.0, y.1))

onto_more : {X : Type 0} (xs : List X) (x : X) (r : Result (List X × List ℕ) Fault) → onto xs (and_then r (λ y. Ok (x ∷ y.0, y.1))) ≡ onto (xs ++ x ∷ []) r
onto_more xs x (Ok y) = ap (λ l. Ok (l, y.1)) (sym (append_assoc xs (x ∷ []) y.0))
onto_more xs x (Err f) = refl

module _ {X : Type 0} (one : ℕ → ℕ → List ℕ → Result (X × List ℕ) Fault) (k end : ℕ) (bs : List ℕ) where
  -- the first i of k records are the first i of the table, and rest is left of the file of length end
  pub record Sofar (i : ℕ) (table : List X) (rest : Unread) : Type 0 where
    pub same : rest.end ≡ end
    pub left : read_many (one end) k 0 bs ≡ onto (take i table) (read_many (one end) (k - i) i rest.bytes.now)

  -- what one record makes of those that are left
  step : (i : ℕ) (table : List X) (rest : Unread) (r : Result (X × List ℕ) Fault) → i < k → one rest.end i rest.bytes.now ≡ r → Sofar i table rest → read_many (one end) k 0 bs ≡ onto (take i table) (and_then r (λ x. and_then (read_many (one end) (k - (i + 1)) (i + 1) x.1) (λ y. Ok (x.0 ∷ y.0, y.1))))
  step i table rest r lt e s =
      let more : k - i ≡ suc (k - (i + 1)) = omega arith in
      let here : one end i rest.bytes.now ≡ r = ap (λ n. one n i rest.bytes.now) (sym s.same) ∙ e in
      s.left
      ∙ ap (λ j. onto (take i table) (read_many (one end) j i rest.bytes.now)) more
      ∙ ap (λ r. onto (take i table) (and_then r (λ x. and_then (read_many (one end) (k - (i + 1)) (i + 1) x.1) (λ y. Ok (x.0 ∷ y.0, y.1))))) here

  -- one record more
  pub more : (i : ℕ) (table : List X) (rest : Unread) (x : X) (after : Unread) → i < k → k ≡ length table → after.end ≡ rest.end → one rest.end i rest.bytes.now ≡ Ok (x, after.bytes.now) → Sofar i table rest → Sofar (i + 1) (set table i x) after
  more i table rest x after lt size same e s =
      let room : i < length table = omega arith in
      record {
        same = same ∙ s.same;
        left = step i table rest (Ok (x, after.bytes.now)) lt e s
            ∙ onto_more (take i table) x (read_many (one end) (k - (i + 1)) (i + 1) after.bytes.now)
            ∙ ap (λ xs. onto xs (read_many (one end) (k - (i + 1)) (i + 1) after.bytes.now)) (sym (take_more_set table i x room));
      }
