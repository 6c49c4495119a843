-- Reading a number digit by digit. Assumes nothing.
use Rattle.std.proofs.Common.{◌≡◌, ℕ, ◌+◌, ◌*◌, ◌^◌, ◌<◌, ◌≤◌, Bool, true, false, cond, ◌&&◌, ltb, List, [], ◌∷◌, length, Some, None, Option, sym, refl, ◌∙◌, mul-le-mul_left, arith}
use Rattle.std.proofs.lemmas.Bool.{ltb-true, ltb-false, le-ltb, lt-ltb, and_right, cond-true, cond-false}
use Rattle.text.specs.Numbers.{digit_value, all_in, value_from, number_in, pushed}

module _ (base : ℕ) (some : 1 ≤ base) where
  abbrev step : Option ℕ → ℕ → Option ℕ
  step None c = None
  step (Some n) c = pushed base n c

  -- the number so far, and then the digits of a text
  abbrev pub read_from : Option ℕ → List ℕ → Option ℕ
  read_from o [] = o
  read_from o (c ∷ cs) = read_from (step o c) cs

  pub from_none : (cs : List ℕ) → read_from None cs ≡ None
  from_none [] = refl
  from_none (c ∷ cs) = from_none cs

  -- a number grows with each digit
  value_ge : (n : ℕ) (cs : List ℕ) → n ≤ value_from base n cs
  value_ge n [] = omega arith
  value_ge n (c ∷ cs) = omega (arith, value_ge (n * base + digit_value c) cs, mul-le-mul_left {m = 1} {n = base} n some)

  abbrev whole : ℕ → List ℕ → Option ℕ
  whole n cs = cond (all_in base cs && ltb (value_from base n cs) (2 ^ 64)) (Some (value_from base n cs)) None

  -- a digit, if b, that makes the number m, which fits if t
  digit_whole : (m : ℕ) (cs : List ℕ) (b t : Bool) → ltb m (2 ^ 64) ≡ t → (m < 2 ^ 64 → read_from (Some m) cs ≡ whole m cs) → read_from (cond (b && t) (Some m) None) cs ≡ cond ((b && all_in base cs) && ltb (value_from base m cs) (2 ^ 64)) (Some (value_from base m cs)) None
  digit_whole m cs false t e ih = from_none cs
  digit_whole m cs true true e ih = ih (ltb-true m (2 ^ 64) e)
  digit_whole m cs true false e ih =
      let large = ltb-false m (2 ^ 64) e in
      let far : ltb (value_from base m cs) (2 ^ 64) ≡ false = le-ltb (value_from base m cs) (2 ^ 64) (omega (arith, value_ge m cs)) in
      from_none cs ∙ sym (cond-false _ _ _ (and_right (all_in base cs) _ far))

  read_whole : (n : ℕ) (cs : List ℕ) → n < 2 ^ 64 → read_from (Some n) cs ≡ whole n cs
  read_whole n [] h = sym (cond-true _ _ _ (lt-ltb n (2 ^ 64) h))
  read_whole n (c ∷ cs) h =
      let m = n * base + digit_value c in
      digit_whole m cs (ltb (digit_value c) base) (ltb m (2 ^ 64)) refl (read_whole m cs)

  pub read_all : (t : List ℕ) → 0 < length t → read_from (Some 0) t ≡ number_in base t
  read_all [] h = absurd (omega arith)
  read_all (c ∷ cs) h = read_whole 0 (c ∷ cs) (omega arith)
