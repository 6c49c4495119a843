-- The first entry of a channel: where it stands, and what is left without it. Assumes nothing.
use Rattle.std.proofs.Common.{Some, None, sym, ◌≡◌, ℕ, suc, ◌+◌, ◌-◌, ◌<◌, ◌≤◌, true, false, cond, eqb, ltb, ◌⊎◌, List, [], ◌∷◌, ◌++◌, length, get_or, take, drop, ℤ, Ok, refl, ap, ◌∙◌, inl, inr, arith, length-append, length-drop, length-take}
use lib.Seq.{paste}
use Rattle.std.proofs.lemmas.Bool.Decides.{nat_tests, eqb_tells}
use Rattle.std.specs.List.{position, position_or_len}
use Rattle.std.specs.Option.{unwrap_or}
use Rattle.std.proofs.lemmas.List.{take-take, take_at}
use Rattle.std.proofs.lemmas.List.Recursion.{is_position_or_len}
use Rattle.std.proofs.lemmas.Slice.{between_is}
use Rattle.host.specs.Channels.{oldest, rest}
use Rattle.strip.specs.Entries.{listed, known, none, place, without, entries_taken}
use Rattle.strip.specs.declared.entry.Entry.{Entry}
use Rattle.strip.proofs.Counting.{by_bool, and_both}

-- the place of the first entry of a channel, as a search finds it
place_is : (c : ℕ) (es : List Entry) → place c es ≡ position_or_len (λ e. eqb e.channel c) es
place_is c = is_position_or_len (place c) (λ e. eqb e.channel c) refl (λ e es. let k : suc (place c es) ≡ 1 + place c es = omega arith in ap (cond (eqb e.channel c) 0) k)

place_most : (c : ℕ) (es : List Entry) → place c es ≤ length es
place_most c [] = omega arith
place_most c (e ∷ es) =
    let h = place_most c es in
    by_bool (λ b. cond b 0 (suc (place c es)) ≤ suc (length es)) (omega arith) (omega arith) (eqb e.channel c)

least : (k n : ℕ) → k ≤ n → unwrap_or (cond (ltb k n) (Some k) None) n ≡ k
least k n le = grind (arith, nat_tests)

-- and where there is none it is the length
pub found_at : (c : ℕ) (es : List Entry) → unwrap_or (position (λ e. eqb e.channel c) es) (length es) ≡ place c es
found_at c es =
    let k = position_or_len (λ e. eqb e.channel c) es in
    let is = place_is c es in
    let le : k ≤ length es = omega (arith, place_most c es) in
    least k (length es) le ∙ sym is

-- where a channel has a value, its oldest stands at the place
pub oldest_at : (c : ℕ) (es : List Entry) → 0 < length (listed c es) → (oldest (listed c es) ≡ Ok (get_or es (place c es) none).value) × (place c es < length es)
oldest_at c [] h = absurd (omega arith)
oldest_at c (e ∷ es) h =
    by_bool (λ b. 0 < length (cond b (e.value ∷ listed c es) (listed c es)) → (oldest (cond b (e.value ∷ listed c es) (listed c es)) ≡ Ok (get_or (e ∷ es) (cond b 0 (suc (place c es))) none).value) × (cond b 0 (suc (place c es)) < suc (length es)))
    (λ k. (refl, omega arith))
    (λ k. let r = oldest_at c es k in (r.0, omega (arith, r.1)))
    (eqb e.channel c) h

-- that place is among the entries in use
pub place_within : (n c : ℕ) (es : List Entry) → n ≤ length es → 0 < length (listed c (take n es)) → place c (take n es) < n
place_within n c es h k = let o = (oldest_at c (take n es) k).1 in let l = length-take n es in omega arith

-- what is left stands before and behind the place
pub without_at : (c : ℕ) (es : List Entry) → without c es ≡ take (place c es) es ++ drop (suc (place c es)) es
without_at c [] = refl
without_at c (e ∷ es) =
    by_bool (λ b. cond b es (e ∷ without c es) ≡ take (cond b 0 (suc (place c es))) (e ∷ es) ++ drop (suc (cond b 0 (suc (place c es)))) (e ∷ es))
    refl (ap (λ l. e ∷ l) (without_at c es)) (eqb e.channel c)

-- one entry fewer is left
pub length_without : (c : ℕ) (es : List Entry) → 0 < length (listed c es) → suc (length (without c es)) ≡ length es
length_without c [] h = absurd (omega arith)
length_without c (e ∷ es) h =
    by_bool (λ b. 0 < length (cond b (e.value ∷ listed c es) (listed c es)) → suc (length (cond b es (e ∷ without c es))) ≡ suc (length es))
    (λ k. refl) (λ k. ap suc (length_without c es k)) (eqb e.channel c) h

-- and all of them are of channels that there are
pub known_without : (n c : ℕ) (es : List Entry) → known n es ≡ true → known n (without c es) ≡ true
known_without n c [] h = refl
known_without n c (e ∷ es) h =
    let p = and_both (ltb e.channel n) (known n es) h in
    by_bool (λ b. known n (cond b es (e ∷ without c es)) ≡ true)
    p.1 (rw p.0 (known_without n c es p.1)) (eqb e.channel c)

-- a channel's list loses its first value, and every other list stays
pub listed_without : (c : ℕ) (es : List Entry) (d : ℕ) → listed d (without c es) ≡ cond (eqb d c) (rest (listed c es)) (listed d es)
listed_without c [] d = by_bool (λ b. ◌≡◌ {A = List ℤ} [] (cond b [] [])) refl refl (eqb d c)
listed_without c (e ∷ es) d = by (eqb_tells e.channel c) (eqb_tells d c) (listed_without c es d)
  where
    by : ((eqb e.channel c ≡ true) × (e.channel ≡ c)) ⊎ ((eqb e.channel c ≡ false) × (e.channel ≡ c → ⊥)) → ((eqb d c ≡ true) × (d ≡ c)) ⊎ ((eqb d c ≡ false) × (d ≡ c → ⊥)) → listed d (without c es) ≡ cond (eqb d c) (rest (listed c es)) (listed d es) → listed d (without c (e ∷ es)) ≡ cond (eqb d c) (rest (listed c (e ∷ es))) (listed d (e ∷ es))
    by (inl (t, s)) (inl (u, v)) h = rw (t, u) (ap (λ n. listed n es) v)
    by (inl (t, s)) (inr (u, v)) h = let w : eqb e.channel d ≡ false = grind (arith, nat_tests) in rw (t, u, w)
    by (inr (t, s)) (inl (u, v)) h = let w : eqb e.channel d ≡ false = grind (arith, nat_tests) in rw (t, u, w) (rw u at h)
    by (inr (t, s)) (inr (u, v)) h = let k : listed d (without c es) ≡ listed d es = rw u at h in rw (t, u) (rw k)

-- the held entries are the first of what a take leaves
pub held_taken : (n c : ℕ) (es : List Entry) → n ≤ length es → 0 < length (listed c (take n es)) → take (n - 1) (entries_taken n c es) ≡ without c (take n es)
held_taken n c es h k = let l = length_without c (take n es) k in let m = length-take n es in take_at (without c (take n es)) (drop (n - 1) es) (n - 1) (omega arith)

-- what the move of the later entries leaves
pub moved : (n c at : ℕ) (es : List Entry) → n ≤ length es → at ≡ place c (take n es) → at < n → paste es at (drop (at + 1) es) (n - (at + 1)) ≡ entries_taken n c es
moved n c at es h e l =
    let s : suc at ≡ at + 1 = omega arith in
    let z : at + (n - (at + 1)) ≡ n - 1 = omega arith in
    let o : at ≤ n = omega arith in
    let w : without c (take n es) ≡ take at (take n es) ++ drop (suc at) (take n es) = rw e (without_at c (take n es)) in
    rw (z, w, s, take-take at n es o, ← between_is es (at + 1) n)

-- no entry is lost or won
pub length_taken : (n c : ℕ) (es : List Entry) → n ≤ length es → 0 < length (listed c (take n es)) → length (entries_taken n c es) ≡ length es
length_taken n c es h k =
    let l = length_without c (take n es) k in
    let m = length-take n es in
    length-append (without c (take n es)) (drop (n - 1) es) ∙ omega (arith, length-drop (n - 1) es)
