-- The channels of the lanes. Assumes nothing.
use Rattle.std.proofs.Common.{◌≡◌, ℕ, zero, suc, ◌<◌, false, cond, eqb, List, [], ◌∷◌, ◌++◌, map, length, get_or, set, ℤ, sym, refl, ap, ◌∙◌, arith}
use mathlib.Core.Path.{fun_ext}
use Rattle.std.proofs.lemmas.List.{length-append}
use Rattle.std.proofs.lemmas.Bool.Decides.{nat_tests}
use Rattle.host.specs.Channels.{with_list}
use Rattle.host.proofs.Lists.{at_is}
use Rattle.host.proofs.Queued.{changes as queue_changes}
use Rattle.own_host.specs.declared.lanes.Lane.{Lane}
use Rattle.own_host.specs.Added.{added}
use Rattle.own_host.specs.Lanes.{contents, room, lanes}

-- what a channel holds is what its lane holds
pub holds : (ls : List Lane) (i : ℕ) (l : Lane) → i < length ls → l ≡ get_or ls i l → contents l ≡ (lanes ls).list i
holds ls i l lt e = sym (at_is contents ls i l [] lt e)

-- and its capacity is the lane's
pub fits : (ls : List Lane) (i : ℕ) (l : Lane) → i < length ls → l ≡ get_or ls i l → room l ≡ (lanes ls).capacity i
fits ls i l lt e = sym (at_is room ls i l 1 lt e)

-- a lane that changes but for its capacity changes one channel
pub changes : (ls : List Lane) (i : ℕ) (l : Lane) (vs : List ℤ) → i < length ls → contents l ≡ vs → room l ≡ (lanes ls).capacity i → lanes (set ls i l) ≡ with_list (lanes ls) i vs
changes ls i l vs lt e k = queue_changes contents room 1 ls i l lt k ∙ ap (with_list (lanes ls) i) e

-- what stands at a place of a list with one element more
pub at_more : {A B : Type 0} (f : A → B) (l : List A) (a : A) (z : B) (d : ℕ) → get_or (map f (l ++ (a ∷ []))) d z ≡ cond (eqb d (length l)) (f a) (get_or (map f l) d z)
at_more f [] a z zero = refl
at_more f [] a z (suc d) = let e : eqb (suc d) 0 ≡ false = grind (arith, nat_tests) in simp e
at_more f (y ∷ ys) a z zero = let e : eqb 0 (suc (length ys)) ≡ false = grind (arith, nat_tests) in simp e
at_more f (y ∷ ys) a z (suc d) =
    let e : eqb (suc d) (suc (length ys)) ≡ eqb d (length ys) = grind (arith, nat_tests) in
    simp e (at_more f ys a z d)

-- a lane more is a channel more
pub grows : (ls : List Lane) (l : Lane) → lanes (ls ++ (l ∷ [])) ≡ added (lanes ls) (room l) (contents l)
grows ls l =
    let n : length (ls ++ (l ∷ [])) ≡ suc (length ls) = length-append ls (l ∷ []) ∙ omega arith in
    ap (λ m. record { count = m; capacity = (lanes (ls ++ (l ∷ []))).capacity; list = (lanes (ls ++ (l ∷ []))).list }) n
    ∙ ap (λ h. record { count = suc (length ls); capacity = h; list = (lanes (ls ++ (l ∷ []))).list }) (fun_ext (at_more room ls l 1))
    ∙ ap (λ h. record { count = suc (length ls); capacity = (added (lanes ls) (room l) (contents l)).capacity; list = h }) (fun_ext (at_more contents ls l []))
