-- What is written where. Assumes nothing.
use Rattle.std.proofs.Common.{◌≡◌, ℕ, ◌+◌, ◌<◌, ◌≤◌, List, [], ◌++◌, length, get_or, take, sym, ap, ◌∙◌, subst, arith}
use Rattle.std.specs.List.{flat_map}
use Rattle.std.proofs.lemmas.List.Folds.{length-flat_map-take}
use Rattle.std.proofs.lemmas.List.{take_more, flat_map_more, take_all}
use Rattle.record_writer.specs.Written.{written}
use Rattle.record_writer.proofs.Puts.{Sofar, sofar_more, length_written}

module _ {X : Type 0} (enc : X → List ℕ) (xs : List X) where
  -- the records up to i and then record i
  joined_next : (i : ℕ) (d : X) → i < length xs → flat_map enc (take (i + 1) xs) ≡ flat_map enc (take i xs) ++ enc (get_or xs i d)
  joined_next i d h = ap (flat_map enc) (take_more xs i d h) ∙ sym (flat_map_more enc [] (take i xs) (get_or xs i d))

  -- there is room for record i
  pub room : (p at : ℕ) (old new : List ℕ) (i : ℕ) (x : X) → i < length xs → x ≡ get_or xs i x → p + length (flat_map enc xs) ≤ length old → Sofar p (flat_map enc (take i xs)) old at new → at + length (enc x) ≤ length new
  room p at old new i x lt e fits s =
      let item : length (enc x) ≡ length (enc (get_or xs i x)) = ap (λ y. length (enc y)) e in
      let short = length-flat_map-take enc xs i x lt in
      let size : length new ≡ length old = ap length s.1 ∙ length_written p (flat_map enc (take i xs)) old (omega arith) in
      omega (arith, s.0)

  -- record i is written after those before it
  pub one_more : (p : ℕ) (old : List ℕ) (at : ℕ) (new : List ℕ) (at' : ℕ) (new' : List ℕ) (i : ℕ) (x : X) → p ≤ length old → i < length xs → x ≡ get_or xs i x → Sofar p (flat_map enc (take i xs)) old at new → at' ≡ at + length (enc x) → new' ≡ written at (enc x) new → Sofar p (flat_map enc (take (i + 1) xs)) old at' new'
  one_more p old at new at' new' i x le lt e s ea ew =
      let here = sofar_more p (flat_map enc (take i xs)) old at new (enc x) at' new' le s ea ew in
      let same : flat_map enc (take i xs) ++ enc x ≡ flat_map enc (take (i + 1) xs) = ap (λ y. flat_map enc (take i xs) ++ enc y) e ∙ sym (joined_next i x lt) in
      subst (λ l. Sofar p l old at' new') same here

  -- all records are written
  pub all_written : (p : ℕ) (old : List ℕ) (at : ℕ) (new : List ℕ) (i : ℕ) → length xs ≤ i → Sofar p (flat_map enc (take i xs)) old at new → Sofar p (flat_map enc xs) old at new
  all_written p old at new i le s = subst (λ l. Sofar p (flat_map enc l) old at new) (take_all i xs le) s
