-- Each copy is where the plain run of its level is, on the tapes, however these go on. Assumes nothing.
use Rattle.std.proofs.Common.{◌≡◌, ℕ, suc, ◌≤◌, Bool, true, false, cond, eqb, ltb, List, [], ◌∷◌, ◌++◌, length, ℤ, Some, None, Option, sym, refl, ap, ◌∙◌, subst, ap₂, append_assoc, append-nil, arith}
use Rattle.std.proofs.lemmas.Bool.{eqb-true, eqb-false}
use Rattle.script.specs.declared.parts.Instruction.{Instruction}
use Rattle.script.specs.declared.parts.Instruction.TheVariants.{Skip, Set, Compute, Jump, Input, Output, Stop}
use Rattle.meaning.specs.Answers.{Call, Answer}
use Rattle.meaning.specs.Copies.{Copy, assign, further, nth, Plain, plain_input, plain_read, plain_write, plain_do, plain_step, plain_run}
use Rattle.meaning.specs.Logs.{after, log, reached, puts, takes, by_move, written_by}
use Rattle.meaning.specs.Programs.{Sound, level_at, instruction_at}
use Rattle.meaning.specs.Promises.{Limits, Agreement}
use Rattle.meaning.specs.Visits.{Opening, Frame, framed, State, opened, Plan, go, lacks_value, lacks_space, ended, got, read_plan, write_plan, plan_do, plan, Reply, put_on, tapes_after, level_of, has_space, respond}
use Rattle.meaning.specs.declared.answers.Act.{Act}
use Rattle.meaning.specs.declared.answers.Act.TheVariants.{Reused, Took}
use Rattle.meaning.proofs.Limiting.{tape_adds, call_limits, opened_limits}
use Rattle.meaning.proofs.Lists.{nth_more, nth_past, nth_added, with_at_here, with_at_other, put_adds}
use Rattle.meaning.proofs.Outcomes.{Outcome, refuses, feeds, collects, idles, goes_on, tells, outcome}

-- lists that go on from others
abbrev Extends : (ℕ → List ℤ) → (ℕ → List ℤ) → Type 0
Extends f g = (k : ℕ) → (more : List ℤ) × (g k ≡ f k ++ more)

-- the tapes after an act go on from those before
act_extends : (act : Act) (tape : ℕ → List ℤ) → Extends tape (tapes_after act tape)
act_extends act tape k = (takes k act, tape_adds act tape k)

-- what goes on from lists that go on goes on from the first
extends_trans : (f g h : ℕ → List ℤ) → Extends f g → Extends g h → Extends f h
extends_trans f g h p q k =
    ((p k).0 ++ (q k).0, (q k).1 ∙ ap (λ (vs : List ℤ). vs ++ (q k).0) (p k).1 ∙ append_assoc (f k) (p k).0 (q k).0)

module _ (f : Frame) (l : ℕ) where
  -- the channels that the plain run of level l is given
  abbrev given : ℕ → Bool
  given k = f.order.flows (level_at f.script k) l

  -- the plain run p has the copy c, and on the channels of level l it wrote w and then what the act puts
  abbrev Agreed : Plain → Act → Copy → (ℕ → List ℤ) → Type 0
  Agreed p act c w = (c ≡ p.copy) × ((k : ℕ) → level_at f.script k ≡ l → w k ++ puts k act ≡ p.written k)

  module _ (s : State) (c : Copy) (inside : (k : ℕ) → c.positions k ≤ length (s.tape k)) where
    -- a plain run at the copy c
    abbrev at_copy : (ℕ → List ℤ) → Plain
    at_copy w = record { copy = c; written = w }

    -- a plan to go on agrees with what the plain run does, on all tapes that go on from those after the act
    abbrev Follows : ((ℕ → List ℤ) → Plain → Plain) → Plan → Type 0
    Follows does (go act d) = (tapes : ℕ → List ℤ) → Extends (tapes_after act s.tape) tapes → (w : ℕ → List ℤ) → Agreed (does tapes (at_copy w)) act d w
    Follows does (lacks_value k) = Unit {0}
    Follows does (lacks_space k) = Unit {0}
    Follows does ended = Unit {0}

    -- an act that puts nothing adds nothing to what was written
    nothing_written : (w : ℕ → List ℤ) (k : ℕ) → level_at f.script k ≡ l → w k ++ [] ≡ w k
    nothing_written w k e = append-nil (w k)

    -- an in of the plain run
    abbrev reads : ℕ → ℕ → Bool → Bool → (ℕ → List ℤ) → Plain → Plain
    reads t k fl early tapes p = plain_read p t k (plain_input fl early (nth (tapes k) (c.positions k)))

    -- agrees where it finds the value that the copy gets
    found_agrees : (t k : ℕ) (v : ℤ) (tapes w : ℕ → List ℤ) (act : Act) → ((j : ℕ) → puts j act ≡ []) → nth (tapes k) (c.positions k) ≡ Some v →
        Agreed (reads t k true true tapes (at_copy w)) act (assign (further c k) t v) w
    found_agrees t k v tapes w act silent found = (
      ap (λ (n : Option ℤ). (plain_read (at_copy w) t k (plain_input true true n)).copy) (sym found),
      λ j h.
          ap (λ (vs : List ℤ). w j ++ vs) (silent j)
          ∙ nothing_written w j h
          ∙ ap (λ (n : Option ℤ). (plain_read (at_copy w) t k (plain_input true true n)).written j) (sym found),
    )

    -- an in agrees: what the copy reuses or takes stands in the tapes
    read_follows : (t k : ℕ) (fl early : Bool) (next : Option ℤ) (own : Bool) (oldest : Option ℤ) → nth (s.tape k) (c.positions k) ≡ next →
        Follows (reads t k fl early) (read_plan c t k (got fl early next own oldest))
    read_follows t k false early next own oldest e = λ tapes more w. (refl, nothing_written w)
    read_follows t k true false next own oldest e = λ tapes more w. (refl, nothing_written w)
    read_follows t k true true (Some v) own oldest e = λ tapes more w.
        found_agrees t k v tapes w (Reused k v) (λ j. refl)
        (ap (λ (vs : List ℤ). nth vs (c.positions k)) (more k).1 ∙ nth_more (s.tape k) (more k).0 (c.positions k) v e)
    read_follows t k true true None true (Some v) e = λ tapes more w.
        let whole : tapes k ≡ s.tape k ++ (v ∷ (more k).0) =
        (more k).1 ∙ ap (λ (vs : List ℤ). vs ++ (more k).0) (with_at_here s.tape k (s.tape k ++ (v ∷ []))) ∙ append_assoc (s.tape k) (v ∷ []) (more k).0 in
        let last : c.positions k ≡ length (s.tape k) = omega (arith, inside k, nth_past (s.tape k) (c.positions k) e) in
        found_agrees t k v tapes w (Took k v) (λ j. refl)
        (ap₂ (λ (vs : List ℤ) (n : ℕ). nth vs n) whole last ∙ nth_added (s.tape k) (more k).0 v)
    read_follows t k true true None true None e = tt
    read_follows t k true true None false oldest e = tt

    -- what is written on a channel of another level is nothing to the channels of level l
    elsewhere : (k : ℕ) (v : ℤ) (w : ℕ → List ℤ) → (level_at f.script k ≡ l → ⊥) → (j : ℕ) → level_at f.script j ≡ l → w j ++ [] ≡ put_on k v w j
    elsewhere k v w other j h =
        append-nil (w j) ∙ sym (with_at_other w k (w k ++ (v ∷ [])) j (λ e. other (ap (level_at f.script) (sym e) ∙ h)))

    -- an out agrees on the channels of level l: what is withheld is on another
    write_follows : (k : ℕ) (v : ℤ) (own space : Bool) → eqb (level_at f.script k) l ≡ own → Follows (λ tapes p. plain_write p k v) (write_plan c k v own space)
    write_follows k v false space e = λ tapes more w. (refl, elsewhere k v w (eqb-false (level_at f.script k) l e))
    write_follows k v true true e = λ tapes more w. (refl, λ j h. put_adds w k j v)
    write_follows k v true false e = tt

    -- each instruction agrees
    do_follows : (i : Instruction) → Follows (λ tapes p. plain_do f.script given tapes p i) (plan_do f s l c i)
    do_follows Skip = λ tapes more w. (refl, nothing_written w)
    do_follows (Set t v) = λ tapes more w. (refl, nothing_written w)
    do_follows (Compute o t a b) = λ tapes more w. (refl, nothing_written w)
    do_follows (Jump a i) = λ tapes more w. (refl, nothing_written w)
    do_follows (Input t k) =
        read_follows t k (given k) (ltb (c.positions k) 64) (nth (s.tape k) (c.positions k)) (eqb (level_of f k) l) (nth (s.lists k) 0) refl
    do_follows (Output a k) = write_follows k (c.registers a) (eqb (level_of f k) l) (has_space f s k) refl
    do_follows Stop = λ tapes more w. (refl, nothing_written w)

    -- so a step of the plain run agrees with a plan
    plan_follows : (b : Bool) (i : Instruction) → Follows (λ tapes p. cond b (plain_do f.script given tapes p i) p) (cond b (plan_do f s l c i) ended)
    plan_follows true i = do_follows i
    plan_follows false i = tt

  -- the plain run after n steps, on all tapes that go on from these, has the copy c, and wrote w
  abbrev Runs : (ℕ → List ℤ) → Copy → ℕ → (ℕ → List ℤ) → Type 0
  Runs tape c n w = (tapes : ℕ → List ℤ) → Extends tape tapes →
      (c ≡ (plain_run f.script given tapes n).copy) × ((k : ℕ) → level_at f.script k ≡ l → w k ≡ (plain_run f.script given tapes n).written k)

  -- nothing more is written
  runs_on : (tape : ℕ → List ℤ) (c : Copy) (n : ℕ) (w : ℕ → List ℤ) → Runs tape c n w → Runs tape c n (λ k. w k ++ [])
  runs_on tape c n w runs tapes more = ((runs tapes more).0, λ k h. append-nil (w k) ∙ (runs tapes more).1 k h)

  -- another copy's act
  runs_other : (act : Act) (tape : ℕ → List ℤ) (c : Copy) (n : ℕ) (w : ℕ → List ℤ) → Runs tape c n w → Runs (tapes_after act tape) c n (λ k. w k ++ [])
  runs_other act tape c n w runs tapes more = runs_on tape c n w runs tapes (extends_trans tape (tapes_after act tape) tapes (act_extends act tape) more)

  -- its own act
  runs_self : (s : State) → Limits f s → (act : Act) (d : Copy) (w : ℕ → List ℤ) → plan f s l ≡ go act d → Runs s.tape (s.copy l) (s.steps l) w →
      Runs (tapes_after act s.tape) d (suc (s.steps l)) (λ k. w k ++ puts k act)
  runs_self s limits act d w e runs tapes more =
      let run : Plain = plain_run f.script given tapes (s.steps l) in
      let old = runs tapes (extends_trans s.tape (tapes_after act s.tape) tapes (act_extends act s.tape) more) in
      let new = follows tapes more run.written in
      let here : Plain = record { copy = c; written = run.written } in
      let whole : here ≡ run = λ i. record { copy = old.0 i; written = run.written } in
      let stepped : plain_step f.script given tapes here ≡ plain_step f.script given tapes run = ap (plain_step f.script given tapes) whole in (
        new.0 ∙ ap (λ (p : Plain). p.copy) stepped,
        λ k h. ap (λ (vs : List ℤ). vs ++ puts k act) (old.1 k h) ∙ new.1 k h ∙ ap (λ (p : Plain). p.written k) stepped,
      )
    where
      c : Copy
      c = s.copy l

      does : (ℕ → List ℤ) → Plain → Plain
      does tapes p = cond (ltb (s.copy l).next f.script.instruction_count) (plain_do f.script given tapes p (instruction_at f.script (s.copy l).next)) p

      follows : Follows s (s.copy l) (limits.position l) does (go act d)
      follows =
          subst (Follows s (s.copy l) (limits.position l) does) e
          (plan_follows s (s.copy l) (limits.position l) (ltb (s.copy l).next f.script.instruction_count) (instruction_at f.script (s.copy l).next))

  -- the copy at l is where the plain run is, and w is what it wrote
  abbrev Holds : State → (ℕ → List ℤ) → Type 0
  Holds s w = Runs s.tape (s.copy l) (s.steps l) w

  -- what an answer says that the copy at l wrote on channel k
  abbrev writes : ℕ → Answer → List ℤ
  writes k = by_move (λ a act. cond (eqb l a) (puts k act) []) []

  -- one call keeps it so
  call_holds : (s : State) → Limits f s → (w : ℕ → List ℤ) → Holds s w → (x : Call) (r : Reply) → Outcome f s x r → Holds r.0 (λ k. w k ++ writes k r.1)
  call_holds s limits w runs x r (refuses y e h) = runs_on s.tape (s.copy l) (s.steps l) w runs
  call_holds s limits w runs x r (feeds k v p q) = runs_on s.tape (s.copy l) (s.steps l) w runs
  call_holds s limits w runs x r (collects k v p q first) = runs_on s.tape (s.copy l) (s.steps l) w runs
  call_holds s limits w runs x r (idles none left) = runs_on s.tape (s.copy l) (s.steps l) w runs
  call_holds s limits w runs x r (goes_on a act d q e left) = at_test (eqb l a) refl
    where
      at_test : (b : Bool) → eqb l a ≡ b → Runs (tapes_after act s.tape) (cond b d (s.copy l)) (cond b (suc (s.steps a)) (s.steps l)) (λ k. w k ++ cond b (puts k act) [])
      at_test true h =
          let here : l ≡ a = eqb-true l a h in
          subst (λ i. Runs (tapes_after act s.tape) d (suc (s.steps i)) (λ k. w k ++ puts k act)) here (runs_self s limits act d w (ap (plan f s) here ∙ e) runs)
      at_test false h = runs_other act s.tape (s.copy l) (s.steps l) w runs
  call_holds s limits w runs x r (tells a h) = runs_on s.tape (s.copy l) (s.steps l) w runs

  -- and so do calls from any state on
  calls_hold : Sound f.script → (calls : List Call) (s : State) → Limits f s → (w : ℕ → List ℤ) → Holds s w → Holds (after f s calls) (λ k. w k ++ written_by l k (log f s calls))
  calls_hold sound [] s limits w runs = runs_on s.tape (s.copy l) (s.steps l) w runs
  calls_hold sound (x ∷ xs) s limits w runs =
      let r : Reply = respond f s x in
      let later = calls_hold sound xs r.0 (call_limits f sound s limits x r (outcome f s x)) (λ k. w k ++ writes k r.1) (call_holds s limits w runs x r (outcome f s x)) in
      subst (Holds (after f r.0 xs)) (λ i k. append_assoc (w k) (writes k r.1) (written_by l k (log f r.0 xs)) i) later

-- an opening begins where the plain run begins
pub agreement : (o : Opening) → Sound o.script → Agreement o
agreement o sound calls l =
    let s : State = reached o calls in
    let start : Holds (framed o) l (opened o) (λ _. []) = λ tapes more. (refl, λ k h. refl) in
    let holds = calls_hold (framed o) l sound calls (opened o) (opened_limits o) (λ _. []) start s.tape (λ k. ([], sym (append-nil (s.tape k)))) in
    record {
      next = ap (λ (c : Copy). c.next) holds.0;
      registers = λ i. ap (λ (c : Copy). c.registers i) holds.0;
      positions = λ k. ap (λ (c : Copy). c.positions k) holds.0;
      written = holds.1;
    }
