-- Steps of the loops over hex text. Assumes nothing.
use Rattle.std.proofs.Common.{◌≡◌, ℕ, zero, suc, ◌+◌, ◌*◌, ◌/◌, ◌<◌, ◌≤◌, List, [], ◌∷◌, ◌++◌, length, get_or, drop, Some, Ok, Err, Option, Result, sym, refl, ap, ◌∙◌, append_assoc, arith}
use Rattle.std.proofs.lemmas.List.{drop_more}
use Rattle.std.specs.Simd.{first_chunks}
use Rattle.text.specs.declared.error.LineError.{LineError}
use Rattle.text.specs.Hex.{before, byte_of, decoded}

-- the bytes xs, and what the rest of the text gives after them
abbrev pub after : List ℕ → Result (List ℕ) LineError → Result (List ℕ) LineError
after xs (Ok ys) = Ok (xs ++ ys)
after xs (Err e) = Err e

pub after_more : (xs : List ℕ) (b : ℕ) (r : Result (List ℕ) LineError) → after xs (before (Some b) r) ≡ after (xs ++ b ∷ []) r
after_more xs b (Ok ys) = ap Ok (sym (append_assoc xs (b ∷ []) ys))
after_more xs b (Err e) = refl

-- the bytes of the pairs ps, and then of the text t
abbrev pub paired : List (List ℕ) → List ℕ → Result (List ℕ) LineError
paired [] t = decoded t
paired (p ∷ ps) t = before (byte_of (get_or p 0 0) (get_or p 1 0)) (paired ps t)

-- a text is its pairs and what is left
pub of_pairs : (k : ℕ) (t : List ℕ) → k * 2 ≤ length t → paired (first_chunks 2 k t) (drop (k * 2) t) ≡ decoded t
of_pairs zero t h = refl
of_pairs (suc k) [] h = absurd (omega arith)
of_pairs (suc k) (x ∷ []) h = absurd (omega arith)
of_pairs (suc k) (x ∷ y ∷ t) h =
    let two : suc k * 2 ≡ suc (suc (k * 2)) = omega arith in
    ap (λ n. paired (first_chunks 2 (suc k) (x ∷ y ∷ t)) (drop n (x ∷ y ∷ t))) two ∙ ap (before (byte_of x y)) (of_pairs k t (omega arith))

after_nil : (r : Result (List ℕ) LineError) → after [] r ≡ r
after_nil (Ok ys) = refl
after_nil (Err e) = refl

pub begins : (t u xs : List ℕ) (ps : List (List ℕ)) → xs ≡ [] → ps ≡ first_chunks 2 (length t / 2) t → u ≡ drop (length t / 2 * 2) t → after xs (paired ps u) ≡ decoded t
begins t u xs ps none front back =
    ap (λ l. after l (paired ps u)) none ∙ after_nil (paired ps u) ∙ ap (λ l. paired l u) front ∙ ap (paired (first_chunks 2 (length t / 2) t)) back ∙ of_pairs (length t / 2) t (omega arith)

module _ (ps : List (List ℕ)) (t xs : List ℕ) (i : ℕ) (d : Result (List ℕ) LineError) (inv : after xs (paired (drop i ps) t) ≡ d) where
  abbrev pub at : Option ℕ
  at = byte_of (get_or (get_or ps i []) 0 0) (get_or (get_or ps i []) 1 0)

  here : i < length ps → after xs (before at (paired (drop (i + 1) ps) t)) ≡ d
  here lt = ap (λ l. after xs (paired l t)) (sym (drop_more ps i [] lt)) ∙ inv

  -- one turn of `decode`
  pub more : (ys : List ℕ) (b : ℕ) → i < length ps → Some b ≡ at → ys ≡ xs ++ b ∷ [] → after ys (paired (drop (i + 1) ps) t) ≡ d
  more ys b lt is items =
      let rest = paired (drop (i + 1) ps) t in
      ap (λ l. after l rest) items ∙ sym (after_more xs b rest) ∙ ap (λ o. after xs (before o rest)) is ∙ here lt
