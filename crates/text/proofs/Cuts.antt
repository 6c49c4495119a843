-- The first word of a text. Assumes nothing.
use Rattle.std.proofs.Common.{◌≡◌, ℕ, zero, suc, ◌+◌, ◌<◌, ◌≤◌, true, false, List, [], ◌∷◌, ◌++◌, length, get_or, take, drop, sym, refl, ap, ◌∙◌, subst, ⊎_elim, append_assoc, append-nil, add-zero, arith}
use Rattle.std.specs.Char.{is_ascii_whitespace}
use Rattle.std.proofs.lemmas.List.{nil_from_length, length-take-le, length-drop, get_or-drop}
use Rattle.std.proofs.lemmas.Bool.{cond-true, cond-false, both_ways, cases_lt}
use Rattle.text.specs.Words.{after, words_from, words_of, Cut}

-- blanks in front do not matter
skip_blanks : (t : List ℕ) (n : ℕ) → ((i : ℕ) → i < n → is_ascii_whitespace (get_or t i 0) ≡ true) → words_of t ≡ words_of (drop n t)
skip_blanks t zero h = refl
skip_blanks [] (suc n) h = refl
skip_blanks (c ∷ t) (suc n) h = cond-true (is_ascii_whitespace c) _ _ (h 0 (omega arith)) ∙ skip_blanks t n (λ i l. h (suc i) (omega arith))

-- a word takes up what is solid
take_solid : (t w : List ℕ) (n : ℕ) → n ≤ length t → ((i : ℕ) → i < n → is_ascii_whitespace (get_or t i 0) ≡ false) → words_from w t ≡ words_from (w ++ take n t) (drop n t)
take_solid t w zero l h = ap (λ v. words_from v t) (sym (append-nil w))
take_solid [] w (suc n) l h = absurd (omega arith)
take_solid (c ∷ t) w (suc n) l h =
    cond-false (is_ascii_whitespace c) _ _ (h 0 (omega arith)) ∙ take_solid t (w ++ c ∷ []) n (omega arith) (λ i m. h (suc i) (omega arith)) ∙ ap (λ v. words_from v (drop n t)) (append_assoc w (c ∷ []) (take n t))

-- and ends at a blank or with the text
end_word : (w t : List ℕ) → (0 < length t → is_ascii_whitespace (get_or t 0 0) ≡ true) → words_from w t ≡ after w (words_of t)
end_word w [] h = refl
end_word w (c ∷ t) h =
    let blank = h (omega arith) in
    cond-true (is_ascii_whitespace c) _ _ blank ∙ ap (after w) (sym (cond-true (is_ascii_whitespace c) _ _ blank))

after_some : (w : List ℕ) (ws : List (List ℕ)) → 0 < length w → after w ws ≡ w ∷ ws
after_some [] ws h = absurd (omega arith)
after_some (c ∷ w) ws h = refl

-- a text that begins with no blank, cut after n solid bytes
cut_at : (t : List ℕ) (n : ℕ) → n ≤ length t → ((i : ℕ) → i < n → is_ascii_whitespace (get_or t i 0) ≡ false) → (n < length t → is_ascii_whitespace (get_or t n 0) ≡ true) → (0 < length t → is_ascii_whitespace (get_or t 0 0) ≡ false) → Cut (words_of t) (take n t) (words_of (drop n t))
cut_at t n l solid stops opens = (none, some)
  where
    ends : 0 < length (drop n t) → is_ascii_whitespace (get_or (drop n t) 0 0) ≡ true
    ends h = ap is_ascii_whitespace (get_or-drop n t 0 0 ∙ ap (λ k. get_or t k 0) (add-zero n)) ∙ stops (omega (arith, length-drop n t))

    split : words_of t ≡ after (take n t) (words_of (drop n t))
    split = take_solid t [] n l solid ∙ end_word (take n t) (drop n t) ends

    some : 0 < length (take n t) → words_of t ≡ take n t ∷ words_of (drop n t)
    some h = split ∙ after_some (take n t) _ h

    none : length (take n t) ≡ 0 → (words_of t ≡ []) × (words_of (drop n t) ≡ [])
    none e =
        let zeroth : n ≡ 0 = omega (arith, length-take-le n t l) in
        let blank : length t ≡ 0 =
        ⊎_elim (λ h. absurd (both_ways (is_ascii_whitespace (get_or t 0 0)) (opens h) (subst (λ k. is_ascii_whitespace (get_or t k 0) ≡ true) zeroth (stops (omega arith))))) (λ h. omega arith) (cases_lt 0 (length t)) in
        (ap words_of (nil_from_length t blank), ap words_of (nil_from_length (drop n t) (omega (arith, length-drop n t))))

-- the text s without the k blanks before it is t, which is cut into w and r
pub cut_word : (s t w r : List ℕ) (n : ℕ) → ((k : ℕ) × (t ≡ drop k s) × (length t + k ≡ length s) × ((i : ℕ) → i < k → is_ascii_whitespace (get_or s i 0) ≡ true) × (k < length s → is_ascii_whitespace (get_or s k 0) ≡ false)) → n ≤ length t → ((i : ℕ) → i < n → is_ascii_whitespace (get_or t i 0) ≡ false) → (n < length t → is_ascii_whitespace (get_or t n 0) ≡ true) → w ≡ take n t → r ≡ drop n t → Cut (words_of s) w (words_of r)
cut_word s t w r n (k, is, long, blanks, opens) l solid stops front back =
    let first : 0 < length t → is_ascii_whitespace (get_or t 0 0) ≡ false = λ h. ap is_ascii_whitespace (ap (λ v. get_or v 0 0) is ∙ get_or-drop k s 0 0 ∙ ap (λ i. get_or s i 0) (add-zero k)) ∙ opens (omega arith) in
    let same = sym (skip_blanks s k blanks ∙ ap words_of (sym is)) in
    let cut = cut_at t n l solid stops first in
    subst (λ v. Cut (words_of s) w (words_of v)) (sym back) (subst (λ v. Cut (words_of s) v (words_of (drop n t))) (sym front) (subst (λ ws. Cut ws (take n t) (words_of (drop n t))) same cut))
