-- How many entries there are, by channel. Assumes nothing.
use Rattle.std.proofs.Common.{◌≡◌, ℕ, zero, suc, ◌+◌, ◌*◌, ◌<◌, ◌≤◌, Bool, true, false, cond, ◌&&◌, eqb, ltb, ◌⊎◌, List, [], ◌∷◌, ◌++◌, length, sym, refl, ap, ◌∙◌, inl, inr, append-nil, suc-mul, arith}
use Rattle.std.proofs.lemmas.Bool.Decides.{nat_tests, eqb_tells}
use Rattle.strip.specs.Entries.{listed, known}
use Rattle.strip.specs.declared.entry.Entry.{Entry}

-- a test goes one way or the other
pub by_bool : (P : Bool → Type 0) → P true → P false → (b : Bool) → P b
by_bool P t f true = t
by_bool P t f false = f

-- the list of a channel over two parts
listed_append : (c : ℕ) (xs ys : List Entry) → listed c (xs ++ ys) ≡ listed c xs ++ listed c ys
listed_append c [] ys = refl
listed_append c (x ∷ xs) ys =
    let h = listed_append c xs ys in
    by_bool (λ b. cond b (x.value ∷ listed c (xs ++ ys)) (listed c (xs ++ ys)) ≡ cond b (x.value ∷ listed c xs) (listed c xs) ++ listed c ys)
    (ap (λ l. x.value ∷ l) h) h (eqb x.channel c)

-- the entries that are not of a channel
others : ℕ → List Entry → List Entry
others c [] = []
others c (e ∷ es) = cond (eqb e.channel c) (others c es) (e ∷ others c es)

-- each entry is of the channel or of the others
split : (c : ℕ) (es : List Entry) → length es ≡ length (listed c es) + length (others c es)
unfolding others
split c [] = omega arith
split c (e ∷ es) =
    let h = split c es in
    by_bool (λ b. suc (length es) ≡ length (cond b (e.value ∷ listed c es) (listed c es)) + length (cond b (others c es) (e ∷ others c es)))
    (omega arith) (omega arith) (eqb e.channel c)

-- leaving out a channel makes no list longer
fewer : (c d : ℕ) (es : List Entry) → length (listed d (others c es)) ≤ length (listed d es)
unfolding others
fewer c d [] = omega arith
fewer c d (e ∷ es) =
    let h = fewer c d es in
    by_bool (λ b. length (listed d (cond b (others c es) (e ∷ others c es))) ≤ length (listed d (e ∷ es)))
    (by_bool (λ b. length (listed d (others c es)) ≤ length (cond b (e.value ∷ listed d es) (listed d es))) (omega arith) (omega arith) (eqb e.channel d))
    (by_bool (λ b. length (cond b (e.value ∷ listed d (others c es)) (listed d (others c es))) ≤ length (cond b (e.value ∷ listed d es) (listed d es))) (omega arith) (omega arith) (eqb e.channel d))
    (eqb e.channel c)

-- both of two tests hold
pub and_both : (a b : Bool) → (a && b) ≡ true → (a ≡ true) × (b ≡ true)
and_both true b e = (refl, e)
and_both false b e = absurd (let z : ◌≡◌ {A = ℕ} 0 1 = cc in omega arith)

-- without the last channel, all are of one below it
known_others : (m : ℕ) (es : List Entry) → known (suc m) es ≡ true → known m (others m es) ≡ true
unfolding others
known_others m [] h = refl
known_others m (e ∷ es) h =
    let p = and_both (ltb e.channel (suc m)) (known (suc m) es) h in
    let q = known_others m es p.1 in
    by p.0 q (eqb_tells e.channel m)
  where
    by : ltb e.channel (suc m) ≡ true → known m (others m es) ≡ true → ((eqb e.channel m ≡ true) × (e.channel ≡ m)) ⊎ ((eqb e.channel m ≡ false) × (e.channel ≡ m → ⊥)) → known m (cond (eqb e.channel m) (others m es) (e ∷ others m es)) ≡ true
    by lt q (inl (t, s)) = rw t q
    by lt q (inr (f, s)) = let b : ltb e.channel m ≡ true = grind (arith, nat_tests) in rw f (rw b q)

-- without channels there are no entries
nobody : (es : List Entry) → known 0 es ≡ true → length es ≡ 0
nobody [] h = refl
nobody (e ∷ es) h = let p = (and_both (ltb e.channel 0) (known 0 es) h).0 in absurd (grind (arith, nat_tests))

-- where no channel holds more than k, there are at most n times k entries
within_all : (n k : ℕ) (es : List Entry) → known n es ≡ true → ((d : ℕ) → length (listed d es) ≤ k) → length es ≤ n * k
within_all zero k es h b = let z = nobody es h in omega arith
within_all (suc m) k es h b =
    let r = within_all m k (others m es) (known_others m es h) (λ d. let f = fewer m d es in let g = b d in omega arith) in
    let s = split m es in
    let t = b m in
    omega (arith, suc-mul m k)

-- where one channel has room there is an entry left
pub crowded : (n k c : ℕ) (es : List Entry) → c < n → known n es ≡ true → ((d : ℕ) → length (listed d es) ≤ k) → length (listed c es) < k → length es < n * k
crowded zero k c es l h b r = absurd (omega arith)
crowded (suc m) k c es l h b r = by (eqb_tells c m) (λ l' r'. crowded m k c (others m es) l' (known_others m es h) below r')
  where
    below : (d : ℕ) → length (listed d (others m es)) ≤ k
    below d = let f = fewer m d es in let g = b d in omega arith

    by : ((eqb c m ≡ true) × (c ≡ m)) ⊎ ((eqb c m ≡ false) × (c ≡ m → ⊥)) → (c < m → length (listed c (others m es)) < k → length (others m es) < m * k) → length es < suc m * k
    by (inl (t, e)) again =
        let a = within_all m k (others m es) (known_others m es h) below in
        let s = split m es in
        let u : length (listed m es) < k = rw (sym e) r in
        omega (arith, suc-mul m k)
    by (inr (t, e)) again =
        let f = fewer m c es in
        let a = again (omega arith) (omega arith) in
        let s = split m es in
        let u = b m in
        omega (arith, suc-mul m k)

-- an entry of the channel
one_listed : (c : ℕ) (e : Entry) → e.channel ≡ c → listed c (e ∷ []) ≡ e.value ∷ []
one_listed c e h = let t : eqb e.channel c ≡ true = grind (arith, nat_tests) in rw t

-- an entry of another channel
none_listed : (c : ℕ) (e : Entry) → (e.channel ≡ c → ⊥) → listed c (e ∷ []) ≡ []
none_listed c e h = let t : eqb e.channel c ≡ false = grind (arith, nat_tests) in rw t

-- one entry more, of a channel that there is
pub known_push : (n : ℕ) (xs : List Entry) (e : Entry) → known n xs ≡ true → e.channel < n → known n (xs ++ (e ∷ [])) ≡ true
known_push n [] e k h = let t : ltb e.channel n ≡ true = grind (arith, nat_tests) in rw t
known_push n (x ∷ xs) e k h =
    let p = and_both (ltb x.channel n) (known n xs) k in
    rw p.0 (known_push n xs e p.1 h)

-- the lists with one entry more
pub listed_put : (xs : List Entry) (e : Entry) (d : ℕ) → listed d (xs ++ (e ∷ [])) ≡ cond (eqb d e.channel) (listed e.channel xs ++ (e.value ∷ [])) (listed d xs)
listed_put xs e d = listed_append d xs (e ∷ []) ∙ by (eqb_tells d e.channel)
  where
    by : ((eqb d e.channel ≡ true) × (d ≡ e.channel)) ⊎ ((eqb d e.channel ≡ false) × (d ≡ e.channel → ⊥)) → listed d xs ++ listed d (e ∷ []) ≡ cond (eqb d e.channel) (listed e.channel xs ++ (e.value ∷ [])) (listed d xs)
    by (inl (t, s)) = rw t (ap (λ l. listed d xs ++ l) (one_listed d e (sym s)) ∙ ap (λ c. listed c xs ++ (e.value ∷ [])) s)
    by (inr (f, s)) = rw f (ap (λ l. listed d xs ++ l) (none_listed d e (λ q. s (sym q))) ∙ append-nil (listed d xs))
