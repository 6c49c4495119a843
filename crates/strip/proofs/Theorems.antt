-- The laws of the strip. Assumes nothing.
use Rattle.std.proofs.Common.{◌≡◌, ℕ, zero, suc, ◌-◌, ◌/◌, ◌≤◌, min, true, false, cond, eqb, List, [], ◌∷◌, ◌++◌, length, take, drop, refl, ap, ◌∙◌, le-div_iff_mul-le, arith, length-append}
use native.Mathlib.Nat.{mul-div-le, lt-mul-div-succ}
use lib.Seq.{take-append_seam}
use Rattle.std.proofs.lemmas.List.{take_more_set}
use Rattle.std.proofs.lemmas.Bool.{cond-true, cond-false}
use Rattle.std.proofs.lemmas.Bool.Decides.{nat_tests}
use Rattle.strip.specs.Entries.{listed, without}
use Rattle.strip.specs.Laws.{AddsNewest, ByExample, Fair, FairShares, MovesForward, NeverCrowded, NeverFull, StoresNext, TakesOldest, last_of}
use Rattle.strip.specs.Sizes.{strip_capacity, strip_count}
use Rattle.strip.specs.declared.entry.Entry.{Entry}
use Rattle.strip.proofs.Counting.{by_bool, crowded, listed_put}
use Rattle.strip.proofs.Removing.{held_taken, length_taken, listed_without}
use Rattle.strip.proofs.Tied.{room_left}

-- a share of the entries, where there are no more channels than entries
share : (n given : ℕ) → n ≤ 16 → n ≤ given → Fair n (strip_capacity n given) given
share zero given few le = record { fits = omega arith; largest = λ p. absurd (omega arith); roomy = λ p. absurd (omega arith); undivided = λ _. refl }
share (suc n) given few le =
    let m = suc n in
    let some : eqb m 0 ≡ false = grind (arith, nat_tests) in
    let is : strip_capacity m given ≡ min 512 given / m = cond-false _ _ _ some in
    record {
      fits = rw is (mul-div-le (min 512 given) m);
      largest = λ p. rw is (lt-mul-div-succ (min 512 given) p);
      roomy = λ p. rw is ((le-div_iff_mul-le {k = m} {x = 1} {y = min 512 given} p).1 (omega arith));
      undivided = λ e. absurd (omega arith);
    }

pub fair_shares : FairShares
fair_shares asked given = share (strip_count asked given) given (omega arith) (omega arith)

pub never_crowded : NeverCrowded
never_crowded n k c es h b l r = crowded n k c es l h b r

pub never_full : NeverFull
never_full h = record { numbered = h.numbered; within = λ c. let t = h.tied c in let b = h.bounded c in omega arith; enough = h.enough; left = room_left h }

pub stores_next : StoresNext
stores_next c v [] x unused = refl
stores_next c v (e ∷ used) x unused = ap (λ l. e ∷ l) (stores_next c v used x unused)

pub adds_newest : AddsNewest
adds_newest n c v es lt =
    let e : Entry = record { channel = c; value = v } in
    let here : eqb c c ≡ true = grind (arith, nat_tests) in
    record {
      own = ap (listed c) (take_more_set es n e lt) ∙ listed_put (take n es) e c ∙ cond-true _ _ _ here;
      others = λ d ne. let other : eqb d c ≡ false = grind (arith, nat_tests) in ap (listed d) (take_more_set es n e lt) ∙ listed_put (take n es) e d ∙ cond-false _ _ _ other;
    }

pub takes_oldest : TakesOldest
takes_oldest n c es le some =
    let here : eqb c c ≡ true = grind (arith, nat_tests) in
    record {
      own = ap (listed c) (held_taken n c es le some) ∙ listed_without c (take n es) c ∙ cond-true _ _ _ here;
      others = λ d ne. let other : eqb d c ≡ false = grind (arith, nat_tests) in ap (listed d) (held_taken n c es le some) ∙ listed_without c (take n es) d ∙ cond-false _ _ _ other;
      size = length_taken n c es le some;
    }

-- all but the first entry of a channel, where that entry is known
without_is : (c : ℕ) (before : List Entry) (e : Entry) (after : List Entry) → listed c before ≡ [] → e.channel ≡ c → without c (before ++ (e ∷ after)) ≡ before ++ after
without_is c [] e after none same = let here : eqb e.channel c ≡ true = grind (arith, nat_tests) in cond-true _ _ _ here
without_is c (x ∷ before) e after none same =
    by_bool (λ b. cond b (x.value ∷ listed c before) (listed c before) ≡ [] → cond b (before ++ (e ∷ after)) (x ∷ without c (before ++ (e ∷ after))) ≡ x ∷ (before ++ after))
    (λ n. let z : suc (length (listed c before)) ≡ 0 = ap length n in absurd (omega arith))
    (λ n. ap (λ l. x ∷ l) (without_is c before e after n same))
    (eqb x.channel c) none

-- the last of a list stands behind the others
last_is : (before : List Entry) (e : Entry) (after unused : List Entry) → drop (length (before ++ (e ∷ after)) - 1) ((before ++ (e ∷ after)) ++ unused) ≡ last_of e after ∷ unused
last_is [] e [] unused = refl
last_is [] e (x ∷ after) unused =
    let n : suc (suc (length after)) - 1 ≡ suc (suc (length after) - 1) = omega arith in
    ap (λ m. drop m (e ∷ (x ∷ (after ++ unused)))) n ∙ last_is [] x after unused
last_is (y ∷ before) e after unused =
    let n : suc (length (before ++ (e ∷ after))) - 1 ≡ suc (length (before ++ (e ∷ after)) - 1) = omega (arith, length-append before (e ∷ after)) in
    ap (λ m. drop m (y ∷ ((before ++ (e ∷ after)) ++ unused))) n ∙ last_is before e after unused

pub moves_forward : MovesForward
moves_forward c before e after unused none same =
    ap (λ l. without c l ++ drop (length (before ++ (e ∷ after)) - 1) ((before ++ (e ∷ after)) ++ unused)) (take-append_seam (before ++ (e ∷ after)) unused)
    ∙ ap (λ l. l ++ drop (length (before ++ (e ∷ after)) - 1) ((before ++ (e ∷ after)) ++ unused)) (without_is c before e after none same)
    ∙ ap (λ l. (before ++ after) ++ l) (last_is before e after unused)

pub by_example : ByExample
by_example x y = (refl, refl)
