-- What a list of the host holds. Assumes nothing.
use Rattle.std.proofs.Common.{◌≡◌, suc, ltb, List, [], ◌∷◌, length, ℤ, is_some, refl, arith}
use Rattle.std.proofs.lemmas.Bool.{lt-ltb}
use Rattle.meaning.specs.Copies.{nth}

-- a list holds something exactly where it has a first value
pub some_held : (vs : List ℤ) → ltb 0 (length vs) ≡ is_some (nth vs 0)
some_held [] = refl
some_held (v ∷ vs) = lt-ltb 0 (suc (length vs)) (omega arith)
