-- What a copy that goes on does, as a relation, so that each theorem about acts goes through the cases once. Assumes
-- nothing.
use Rattle.std.proofs.Common.{◌≡◌, ℕ, suc, ◌<◌, ◌≤◌, Bool, true, false, cond, eqb, ltb, ◌⊎◌, ℤ, pos, Some, None, Option, refl, subst, inl, inr, arith}
use Rattle.std.proofs.lemmas.Bool.{eqb-true, eqb-false, ltb-true, ltb-false}
use Rattle.script.specs.declared.parts.Instruction.{Instruction}
use Rattle.script.specs.declared.parts.Instruction.TheVariants.{Skip, Set, Compute, Jump, Input, Output, Stop}
use Rattle.meaning.specs.Arithmetic.{is_zero}
use Rattle.meaning.specs.Copies.{Copy, nth, go_to, go_on, assign, further}
use Rattle.meaning.specs.Programs.{Sound, instruction_at}
use Rattle.meaning.specs.Visits.{Frame, State, Plan, go, lacks_value, lacks_space, ended, got, read_plan, write_plan, level_of, has_space, plan_do, plan}
use Rattle.meaning.specs.declared.answers.Act.{Act}
use Rattle.meaning.specs.declared.answers.Act.TheVariants.{Inner, Took, Reused, Defaulted, Wrote, Withheld}
use Rattle.meaning.proofs.Fitting.{Fits, fits_at}

module _ (f : Frame) (s : State) (l : ℕ) where
  -- a copy c at level l does an act, and then is another copy
  pub data Step (c : Copy) : Act → Copy → Type 0 where
    computes : (d : Copy) → d.positions ≡ c.positions → Step c Inner d
    defaults : (t k : ℕ) → (f.order.flows (level_of f k) l ≡ false) ⊎ (64 ≤ c.positions k) → Step c (Defaulted k (pos 0)) (assign c t (pos 0))
    reuses : (t k : ℕ) (v : ℤ) → f.order.flows (level_of f k) l ≡ true → nth (s.tape k) (c.positions k) ≡ Some v →
        Step c (Reused k v) (assign (further c k) t v)
    takes_one : (t k : ℕ) (v : ℤ) → level_of f k ≡ l → c.positions k < 64 → nth (s.tape k) (c.positions k) ≡ None → nth (s.lists k) 0 ≡ Some v →
        Step c (Took k v) (assign (further c k) t v)
    writes : (k : ℕ) (v : ℤ) → level_of f k ≡ l → Step c (Wrote k v) (go_on c)
    withholds : (k : ℕ) (v : ℤ) → (level_of f k ≡ l → ⊥) → Step c (Withheld k v) (go_on c)

  -- a plan to go on is such a step, and to a place of the script or its end
  abbrev pub Stepping : Copy → Plan → Type 0
  Stepping c (go act d) = Step c act d × (d.next ≤ f.script.instruction_count)
  Stepping c (lacks_value k) = Unit {0}
  Stepping c (lacks_space k) = Unit {0}
  Stepping c ended = Unit {0}

  module _ (c : Copy) (inside : c.next < f.script.instruction_count) where
    -- the plan of an in
    read_stepping : (t k : ℕ) (fl early : Bool) (next : Option ℤ) (own : Bool) (oldest : Option ℤ) →
        f.order.flows (level_of f k) l ≡ fl → ltb (c.positions k) 64 ≡ early → nth (s.tape k) (c.positions k) ≡ next →
        eqb (level_of f k) l ≡ own → nth (s.lists k) 0 ≡ oldest → Stepping c (read_plan c t k (got fl early next own oldest))
    read_stepping t k false early next own oldest p q e u w = (defaults t k (inl p), inside)
    read_stepping t k true false next own oldest p q e u w = (defaults t k (inr (ltb-false (c.positions k) 64 q)), inside)
    read_stepping t k true true (Some v) own oldest p q e u w = (reuses t k v p e, inside)
    read_stepping t k true true None true (Some v) p q e u w = (takes_one t k v (eqb-true (level_of f k) l u) (ltb-true (c.positions k) 64 q) e w, inside)
    read_stepping t k true true None true None p q e u w = tt
    read_stepping t k true true None false oldest p q e u w = tt

    -- the plan of an out
    write_stepping : (k : ℕ) (v : ℤ) (own space : Bool) → eqb (level_of f k) l ≡ own → Stepping c (write_plan c k v own space)
    write_stepping k v false space e = (withholds k v (eqb-false (level_of f k) l e), inside)
    write_stepping k v true true e = (writes k v (eqb-true (level_of f k) l e), inside)
    write_stepping k v true false e = tt

    -- a jump goes on to the next place or to its own
    jump_inside : (b : Bool) (i : ℕ) → i ≤ f.script.instruction_count → cond b (suc c.next) i ≤ f.script.instruction_count
    jump_inside true i h = inside
    jump_inside false i h = h

    -- the plan of each instruction that fits
    do_stepping : (i : Instruction) → Fits f.script i → Stepping c (plan_do f s l c i)
    do_stepping Skip fits = (computes (go_on c) refl, inside)
    do_stepping (Set t v) fits = (computes (assign c t v) refl, inside)
    do_stepping (Compute o t a b) fits = (computes _ refl, inside)
    do_stepping (Jump a i) fits = (computes _ refl, jump_inside (is_zero (c.registers a)) i fits)
    do_stepping (Input t k) fits =
        read_stepping t k (f.order.flows (level_of f k) l) (ltb (c.positions k) 64) (nth (s.tape k) (c.positions k)) (eqb (level_of f k) l) (nth (s.lists k) 0) refl refl refl refl refl
    do_stepping (Output a k) fits = write_stepping k (c.registers a) (eqb (level_of f k) l) (has_space f s k) refl
    do_stepping Stop fits = (computes (go_to c f.script.instruction_count) refl, omega arith)

  -- and so the plan of each copy
  pub plan_stepping : Sound f.script → Stepping (s.copy l) (plan f s l)
  plan_stepping sound = at_test (ltb (s.copy l).next f.script.instruction_count) refl
    where
      at_test : (b : Bool) → ltb (s.copy l).next f.script.instruction_count ≡ b →
          Stepping (s.copy l) (cond b (plan_do f s l (s.copy l) (instruction_at f.script (s.copy l).next)) ended)
      at_test true e =
          let inside : (s.copy l).next < f.script.instruction_count = ltb-true (s.copy l).next f.script.instruction_count e in
          do_stepping (s.copy l) inside (instruction_at f.script (s.copy l).next) (fits_at f.script sound (s.copy l).next inside)
      at_test false e = tt

  -- a copy that plans an act does it by such a step
  pub step_of : Sound f.script → (act : Act) (d : Copy) → plan f s l ≡ go act d → Step (s.copy l) act d × (d.next ≤ f.script.instruction_count)
  step_of sound act d e = subst (Stepping (s.copy l)) e (plan_stepping sound)
