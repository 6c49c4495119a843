-- Values that are added late come in time. Assumes nothing.
use Rattle.std.proofs.Common.{◌≡◌, ℕ, suc, ◌+◌, Bool, true, false, cond, eqb, ltb, List, [], ◌∷◌, ◌++◌, ℤ, Some, None, Option, sym, refl, ap, ◌∙◌, append_assoc, append-nil, arith}
use Rattle.script.specs.declared.parts.Instruction.{Instruction}
use Rattle.script.specs.declared.parts.Instruction.TheVariants.{Skip, Set, Compute, Jump, Input, Output, Stop}
use Rattle.meaning.specs.Copies.{Copy, Plain, nth, plain_input, plain_read, plain_do, plain_step, plain_run}
use Rattle.meaning.specs.Programs.{Program, instruction_at}
use Rattle.meaning.specs.Visits.{put_on}
use Rattle.meaning.proofs.Lists.{nth_more, put_adds}
use Rattle.preview.specs.Acts.{did_read, did_by, did}
use Rattle.preview.specs.Previews.{told_on, moved, moves, Fed, begins, steps, adds, EveryLateValue}
use Rattle.preview.specs.declared.acts.Did.{Did}
use Rattle.preview.specs.declared.acts.Did.TheVariants.{Inner, Got, Defaulted, Wrote, Waits, Ended}
use Rattle.preview.proofs.Told.{told_after}

-- lists that go on from others
abbrev Extends : (ℕ → List ℤ) → (ℕ → List ℤ) → Type 0
Extends f g = (k : ℕ) → (more : List ℤ) × (g k ≡ f k ++ more)

-- lists that go on from those with a value more go on from those without it
extends_added : (f : ℕ → List ℤ) (j : ℕ) (v : ℤ) (g : ℕ → List ℤ) → Extends (put_on j v f) g → Extends f g
extends_added f j v g e k =
    let one : List ℤ = cond (eqb k j) (v ∷ []) [] in
    (one ++ (e k).0, (e k).1 ∙ ap (λ (vs : List ℤ). vs ++ (e k).0) (sym (put_adds f j k v)) ∙ append_assoc (f k) one (e k).0)

-- the first where a step waited, and else the second
abbrev chosen : Did → Plain → Plain → Plain
chosen Inner p q = q
chosen (Got k v) p q = q
chosen (Defaulted k) p q = q
chosen (Wrote k v) p q = q
chosen (Waits k) p q = p
chosen Ended p q = q

module _ (sc : Program) (given : ℕ → Bool) (f g : ℕ → List ℤ) (more : Extends f g) (p : Plain) where
  -- an in that does not wait is the same over lists that go on
  same_read : (t k : ℕ) (b early : Bool) (next : Option ℤ) → nth (f k) (p.copy.positions k) ≡ next →
      plain_read p t k (plain_input b early next)
      ≡ chosen (did_read k (plain_input b early next)) p (plain_read p t k (plain_input b early (nth (g k) (p.copy.positions k))))
  same_read t k false early next e = refl
  same_read t k true false next e = refl
  same_read t k true true (Some v) e =
      let found : nth (g k) (p.copy.positions k) ≡ Some v =
      ap (λ (vs : List ℤ). nth vs (p.copy.positions k)) (more k).1 ∙ nth_more (f k) (more k).0 (p.copy.positions k) v e in
      ap (λ (n : Option ℤ). plain_read p t k (plain_input true true n)) (sym found)
  same_read t k true true None e = refl

  -- so is an instruction
  same_do : (b : Bool) (i : Instruction) →
      cond b (plain_do sc given f p i) p ≡ chosen (cond b (did_by sc given f p.copy i) Ended) p (cond b (plain_do sc given g p i) p)
  same_do false i = refl
  same_do true Skip = refl
  same_do true (Set t v) = refl
  same_do true (Compute o t a b) = refl
  same_do true (Jump a i) = refl
  same_do true (Input t k) = same_read t k (given k) (ltb (p.copy.positions k) 64) (nth (f k) (p.copy.positions k)) refl
  same_do true (Output a k) = refl
  same_do true Stop = refl

  -- and a step
  same_step : plain_step sc given f p ≡ chosen (did sc given f p.copy) p (plain_step sc given g p)
  same_step = same_do (ltb p.copy.next sc.instruction_count) (instruction_at sc p.copy.next)

module _ (sc : Program) (given : ℕ → Bool) (g : ℕ → List ℤ) (n : ℕ) (p : Plain) (e : p ≡ plain_run sc given g n) where
  -- a step of the plain run is one more
  one_more : plain_step sc given g p ≡ plain_run sc given g (1 + n)
  one_more = let next : suc n ≡ 1 + n = omega arith in ap (plain_step sc given g) e ∙ ap (plain_run sc given g) next

  -- it goes on by a step that did not wait, and stays at one that waited
  goes : (r : Did) → chosen r p (plain_step sc given g p) ≡ plain_run sc given g (moved r + n)
  goes Inner = one_more
  goes (Got k v) = one_more
  goes (Defaulted k) = one_more
  goes (Wrote k v) = one_more
  goes (Waits k) = let same : n ≡ 0 + n = omega arith in e ∙ ap (plain_run sc given g) same
  goes Ended = one_more

-- the last step counted first
moves_last : (rs : List Did) (r : Did) → moved r + moves rs ≡ moves (rs ++ (r ∷ []))
moves_last [] r = refl
moves_last (q ∷ rs) r = let e = moves_last rs r in omega (arith, e)

-- whatever is added after that
over_more : (sc : Program) (given : ℕ → Bool) (list : ℕ → List ℤ) (rs : List Did) (c : Copy) → Fed sc given rs list c → (g : ℕ → List ℤ) → Extends list g →
    record { copy = c; written = λ k. told_on k rs } ≡ plain_run sc given g (moves rs)
over_more sc given _ _ _ (begins list) g more = refl
over_more sc given _ _ _ (steps rs r list c d before step) g more =
    let w : ℕ → List ℤ = λ k. told_on k rs in
    let p : Plain = record { copy = c; written = w } in
    ap (λ (x : ℕ → List ℤ). record { copy = d; written = x }) (told_after rs r)
    ∙ step.after w
    ∙ same_step sc given list g more p
    ∙ ap (λ (x : Did). chosen x p (plain_step sc given g p)) (sym step.told)
    ∙ goes sc given g (moves rs) p (over_more sc given list rs c before g more) r
    ∙ ap (plain_run sc given g) (moves_last rs r)
over_more sc given _ _ _ (adds rs list c k v before) g more = over_more sc given list rs c before g (extends_added list k v g more)

-- and so over the lists themselves
pub every_late_value : EveryLateValue
every_late_value sc given list rs c fed = over_more sc given list rs c fed list (λ k. ([], sym (append-nil (list k))))
