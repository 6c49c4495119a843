-- A table of capacities, and those of them that are given. Assumes nothing.
use Rattle.std.proofs.Common.{◌≡◌, ℕ, zero, suc, ◌-◌, ◌<◌, ◌≤◌, cond, List, [], ◌∷◌, ◌++◌, length, take, replicate, slice_index, Ok, Err, Option, Result, ◌==◌, inl, inr, ⊎_elim, true, false, sym, subst, refl, ap, ◌∙◌, arith, rules}
use Rattle.text.specs.declared.error.LineError.{LineError}
use Rattle.text.specs.Answers.{then}
use Rattle.text.specs.Arguments.{before_zero, bounded, capacity_of, entries_from, table_from, Listed, Takes}
use Rattle.text.specs.Numbers.{number_in}

-- entries that are not 0 up to one that is, or to the end, are those before the first 0
pub all_before : (n : ℕ) (xs : List ℕ) → n ≤ length xs → ((k : ℕ) → k < n → (slice_index xs k == 0) ≡ false) → (n < length xs → (slice_index xs n == 0) ≡ true) → take n xs ≡ before_zero xs
all_before zero [] within some stops = refl
all_before zero (x ∷ xs) within some stops = let e : (x == 0) ≡ true = stops (omega arith) in rw e refl
all_before (suc n) [] within some stops = absurd (omega arith)
all_before (suc n) (x ∷ xs) within some stops =
    let e : (x == 0) ≡ false = some 0 (omega arith) in
    rw e (ap (x ∷◌) (all_before n xs (omega arith) (λ k lt. some (suc k) (omega arith)) (λ lt. stops (omega arith))))

-- no capacity is 0
bounded_some : (o : Option ℕ) (x : ℕ) → bounded o ≡ Ok x → (x == 0) ≡ false
bounded_some o x e = search rules

-- the entries that were read, and then 0, k in all
abbrev pub filled : ℕ → Result (List ℕ × List (List ℕ)) LineError → Result (List ℕ × List (List ℕ)) LineError
filled k r = then r (λ p. Ok (p.0 ++ replicate (k - length p.0) 0, p.1))

-- one entry in front of others
one_entry : (q : Result ℕ LineError) (es ts : Result (List ℕ × List (List ℕ)) LineError) (k : ℕ) → ts ≡ filled k es → then q (λ r. then ts (λ p. Ok (r ∷ p.0, p.1))) ≡ filled (suc k) (then q (λ r. then es (λ p. Ok (r ∷ p.0, p.1))))
one_entry (Err e) es ts k is = refl
one_entry (Ok x) (Err e) ts k is = ap (λ r. then r (λ p. Ok (x ∷ p.0, p.1))) is
one_entry (Ok x) (Ok p) ts k is =
    let n : k - length p.0 ≡ suc k - suc (length p.0) = omega arith in
    ap (λ r. then r (λ t. Ok (x ∷ t.0, t.1))) is ∙ ap (λ m. Ok (x ∷ (p.0 ++ replicate m 0), p.1)) n

-- a table is the entries that are given, and then 0
pub table_filled : (f : List ℕ → Result ℕ LineError) (k : ℕ) (ws : List (List ℕ)) → table_from f k ws ≡ filled k (entries_from f k ws)
table_filled f zero ws = refl
table_filled f (suc k) [] = let n : suc k ≡ suc k - 0 = omega arith in ap (λ m. Ok (replicate m 0, [])) n
table_filled f (suc k) (w ∷ ws) = one_entry (f w) (entries_from f k ws) (table_from f k ws) k (table_filled f k ws)

-- of what was read, the entries before the first that is 0
abbrev pub listed : Result (List ℕ × List (List ℕ)) LineError → Result (List ℕ × List (List ℕ)) LineError
listed r = then r (λ p. Ok (before_zero p.0, p.1))

-- an entry that is not 0, in front of others
one_more : (q : Result ℕ LineError) (es ts : Result (List ℕ × List (List ℕ)) LineError) → ((x : ℕ) → q ≡ Ok x → (x == 0) ≡ false) → es ≡ listed ts → then q (λ r. then es (λ p. Ok (r ∷ p.0, p.1))) ≡ listed (then q (λ r. then ts (λ p. Ok (r ∷ p.0, p.1))))
one_more (Err e) es ts some is = refl
one_more (Ok x) es (Err e) some is = ap (λ r. then r (λ p. Ok (x ∷ p.0, p.1))) is
one_more (Ok x) es (Ok p) some is = ap (λ r. then r (λ t. Ok (x ∷ t.0, t.1))) is ∙ ap (λ b. Ok (cond b [] (x ∷ before_zero p.0), p.1)) (sym (some x refl))

-- the capacities that are given are those of the table before the first 0
given_capacities : (k : ℕ) (ws : List (List ℕ)) → entries_from capacity_of k ws ≡ listed (table_from capacity_of k ws)
given_capacities zero ws = refl
given_capacities (suc k) [] = refl
given_capacities (suc k) (w ∷ ws) = one_more (capacity_of w) (entries_from capacity_of k ws) (table_from capacity_of k ws) (bounded_some (number_in 10 w)) (given_capacities k ws)

-- the list of a table that was read from words is the list of the capacities that they give
pub list_taken : {X : Type 0} (view : X → List ℕ) (ws vs : List (List ℕ)) (t : Result (List ℕ) LineError) (r : Result X LineError) → Takes (λ l. l) (table_from capacity_of 16 ws) t vs → Listed view t r → Takes view (entries_from capacity_of 16 ws) r vs
list_taken view ws vs (Ok t) (Ok x) read list = given_capacities 16 ws ∙ ap listed read ∙ ap (λ q. then q (λ l. Ok (l, vs))) list
list_taken view ws vs (Ok t) (Err e) read list = ⊎_elim (λ m. inl m) (λ d. inr (given_capacities 16 ws ∙ ap listed read ∙ ap (λ q. then q (λ l. Ok (l, vs))) d)) list
list_taken view ws vs (Err e) r read list =
    subst (λ q. Takes view (entries_from capacity_of 16 ws) q vs) (sym list) (⊎_elim (λ m. inl m) (λ d. inr (given_capacities 16 ws ∙ ap listed d)) read)
