-- What no log exceeds, and what a tape holds. Assumes nothing.
use Rattle.std.proofs.Common.{◌≡◌, ℕ, suc, ◌<◌, ◌≤◌, Bool, true, false, cond, eqb, List, [], ◌∷◌, ◌++◌, length, ℤ, sym, ap, ◌∙◌, subst, append_assoc, append-nil, arith, length-append}
use Rattle.meaning.specs.Answers.{Call}
use Rattle.meaning.specs.Copies.{Copy}
use Rattle.meaning.specs.Logs.{after, log, takes, by_move, taken_by_copies}
use Rattle.meaning.specs.Programs.{Sound}
use Rattle.meaning.specs.Promises.{Limits, Limited, Tapes}
use Rattle.meaning.specs.Visits.{Opening, Frame, framed, State, opened, Reply, tapes_after, counted, acted, plan, go, respond}
use Rattle.meaning.specs.declared.answers.Act.{Act}
use Rattle.meaning.specs.declared.answers.Act.TheVariants.{Inner, Took, Reused, Defaulted, Wrote, Withheld}
use Rattle.meaning.proofs.Lists.{nth_below, nth_past, with_at_keeps, put_adds}
use Rattle.meaning.proofs.Outcomes.{Outcome, refuses, feeds, collects, idles, goes_on, tells, outcome}
use Rattle.meaning.proofs.Stepping.{Step, computes, defaults, reuses, takes_one, writes, withholds, step_of}

-- an act adds to each tape what it takes from its channel
pub tape_adds : (act : Act) (tape : ℕ → List ℤ) (k : ℕ) → tapes_after act tape k ≡ tape k ++ takes k act
tape_adds Inner tape k = sym (append-nil (tape k))
tape_adds (Took j v) tape k = sym (put_adds tape j k v)
tape_adds (Reused j v) tape k = sym (append-nil (tape k))
tape_adds (Defaulted j v) tape k = sym (append-nil (tape k))
tape_adds (Wrote j v) tape k = sym (append-nil (tape k))
tape_adds (Withheld j v) tape k = sym (append-nil (tape k))

-- and so makes none shorter
pub tape_longer : (act : Act) (tape : ℕ → List ℤ) (k : ℕ) → length (tape k) ≤ length (tapes_after act tape k)
tape_longer act tape k = omega (arith, ap length (tape_adds act tape k) ∙ length-append (tape k) (takes k act))

module _ (f : Frame) (s : State) (limits : Limits f s) (l : ℕ) where
  -- an act lengthens no tape past 64
  act_tapes : (act : Act) (d : Copy) → Step f s l (s.copy l) act d → (k : ℕ) → length (tapes_after act s.tape k) ≤ 64
  act_tapes act d (computes e p) = limits.tape
  act_tapes act d (defaults t k h) = limits.tape
  act_tapes act d (reuses t k v p q) = limits.tape
  act_tapes act d (takes_one t k v own early past first) =
      let end : length (s.tape k) ≤ (s.copy l).positions k = nth_past (s.tape k) ((s.copy l).positions k) past in
      with_at_keeps (λ j (vs : List ℤ). length vs ≤ 64) s.tape k (s.tape k ++ (v ∷ [])) (omega (arith, length-append (s.tape k) (v ∷ []))) limits.tape
  act_tapes act d (writes k v own) = limits.tape
  act_tapes act d (withholds k v other) = limits.tape

  -- and leaves the copy in each tape, or at its end
  act_positions : (act : Act) (d : Copy) → Step f s l (s.copy l) act d → (k : ℕ) → d.positions k ≤ length (tapes_after act s.tape k)
  act_positions act d (computes e p) k = subst (λ (at : ℕ → ℕ). at k ≤ length (s.tape k)) (sym p) (limits.position l k)
  act_positions act d (defaults t j h) k = limits.position l k
  act_positions act d (reuses t j v p q) k =
      with_at_keeps (λ i n. n ≤ length (s.tape i)) (s.copy l).positions j (suc ((s.copy l).positions j)) (nth_below (s.tape j) ((s.copy l).positions j) v q) (limits.position l) k
  act_positions act d (takes_one t j v own early past first) k = at_test (eqb k j)
    where
      at_test : (b : Bool) → cond b (suc ((s.copy l).positions j)) ((s.copy l).positions k) ≤ length (cond b (s.tape j ++ (v ∷ [])) (s.tape k))
      at_test true = let h = limits.position l j in omega (arith, length-append (s.tape j) (v ∷ []))
      at_test false = limits.position l k
  act_positions act d (writes j v own) k = limits.position l k
  act_positions act d (withholds j v other) k = limits.position l k

  -- so a turn that moves the copy keeps the limits
  act_limits : Sound f.script → (act : Act) (d : Copy) → plan f s l ≡ go act d → s.turns < 1000000 → Limits f (counted (acted s l act d))
  act_limits sound act d e left =
      record {
        turns = left;
        tape = act_tapes act d step.0;
        position = λ a k.
            with_at_keeps (λ j (c : Copy). c.positions k ≤ length (tapes_after act s.tape k)) s.copy l d (act_positions act d step.0 k)
            (λ j. omega (arith, limits.position j k, tape_longer act s.tape k)) a;
        next = with_at_keeps (λ j (c : Copy). c.next ≤ f.script.instruction_count) s.copy l d step.1 limits.next;
        steps = with_at_keeps (λ j n. n ≤ suc s.turns) s.steps l (suc (s.steps l)) (omega (arith, limits.steps l)) (λ j. omega (arith, limits.steps j));
      }
    where
      step : Step f s l (s.copy l) act d × (d.next ≤ f.script.instruction_count)
      step = step_of f s l sound act d e

-- each call keeps the limits
pub call_limits : (f : Frame) → Sound f.script → (s : State) → Limits f s → (x : Call) (r : Reply) → Outcome f s x r → Limits f r.0
call_limits f sound s limits x r (refuses y e h) = limits
call_limits f sound s limits x r (feeds k v p q) =
    record { turns = limits.turns; tape = limits.tape; position = limits.position; next = limits.next; steps = limits.steps }
call_limits f sound s limits x r (collects k v p q first) =
    record { turns = limits.turns; tape = limits.tape; position = limits.position; next = limits.next; steps = limits.steps }
call_limits f sound s limits x r (idles none left) =
    record { turns = left; tape = limits.tape; position = limits.position; next = limits.next; steps = λ l. omega (arith, limits.steps l) }
call_limits f sound s limits x r (goes_on a act d q p left) = act_limits f s limits a sound act d p left
call_limits f sound s limits x r (tells a h) = limits

-- and so do calls from any state on
calls_limits : (f : Frame) → Sound f.script → (calls : List Call) (s : State) → Limits f s → Limits f (after f s calls)
calls_limits f sound [] s limits = limits
calls_limits f sound (x ∷ xs) s limits = calls_limits f sound xs (respond f s x).0 (call_limits f sound s limits x (respond f s x) (outcome f s x))

-- and an opening is within them
pub opened_limits : (o : Opening) → Limits (framed o) (opened o)
opened_limits o =
    record { turns = omega arith; tape = λ k. omega arith; position = λ l k. omega arith; next = λ l. omega arith; steps = λ l. omega arith }

-- so no log exceeds them
pub limited : (o : Opening) → Sound o.script → Limited o
limited o sound calls = calls_limits (framed o) sound calls (opened o) (opened_limits o)

-- one call adds to a tape what copies take by it
call_tapes : (f : Frame) (s : State) (k : ℕ) (x : Call) (r : Reply) → Outcome f s x r → r.0.tape k ≡ s.tape k ++ by_move (λ a act. takes k act) [] r.1
call_tapes f s k x r (refuses y e h) = sym (append-nil (s.tape k))
call_tapes f s k x r (feeds j v p q) = sym (append-nil (s.tape k))
call_tapes f s k x r (collects j v p q first) = sym (append-nil (s.tape k))
call_tapes f s k x r (idles none left) = sym (append-nil (s.tape k))
call_tapes f s k x r (goes_on a act d q p left) = tape_adds act s.tape k
call_tapes f s k x r (tells a h) = sym (append-nil (s.tape k))

-- and so do calls from any state on
calls_tapes : (f : Frame) (calls : List Call) (s : State) (k : ℕ) → (after f s calls).tape k ≡ s.tape k ++ taken_by_copies k (log f s calls)
calls_tapes f [] s k = sym (append-nil (s.tape k))
calls_tapes f (x ∷ xs) s k =
    let r : Reply = respond f s x in
    let more : List ℤ = taken_by_copies k (log f r.0 xs) in
    calls_tapes f xs r.0 k ∙ ap (λ (l : List ℤ). l ++ more) (call_tapes f s k x r (outcome f s x)) ∙ append_assoc (s.tape k) (by_move (λ a act. takes k act) [] r.1) more

-- a tape of an opening begins empty
pub tapes : (o : Opening) → Tapes o
tapes o calls k = calls_tapes (framed o) calls (opened o) k
