-- What a copy may do, as the tables of a visit ask it, and that no copy then gets ahead of the turns. Assumes nothing.
use Rattle.std.proofs.Common.{◌≡◌, ℕ, suc, ◌<◌, ◌≤◌, true, eqb, sym, subst, arith}
use Rattle.std.proofs.lemmas.Bool.{cond_both, lt-ltb}
use Rattle.meaning.specs.Copies.{with_at}
use Rattle.script.specs.declared.parts.Instruction.{Instruction}
use Rattle.copies.specs.Computed.{targets}
use Rattle.copies.specs.Held.{copies_of, steps_of, may_step, may_go_on, may_assign, may_read, may_compute}
use Rattle.copies.specs.declared.table.Copies.{Copies}
use Rattle.engine.specs.Courses.{MayStep, MayAssign, MayRead}
use Rattle.engine.specs.declared.visit.Course.{Course}

module _ (c : Course) (l : ℕ) where
  -- it may make a step
  pub steps_on : MayStep c l → may_step c.copies l ≡ true
  steps_on may =
      let few : steps_of c.copies l < 4294967295 = omega (arith, may.counted, c.unspent) in
      rw (lt-ltb l 16 may.inside, lt-ltb (steps_of c.copies l) 4294967295 few)

  -- and go on
  pub goes_on : MayStep c l → (copies_of c.copies l).next < 256 → may_go_on c.copies l ≡ true
  goes_on may running =
      let early : (copies_of c.copies l).next < 65535 = omega (arith, running) in
      rw (steps_on may, lt-ltb (copies_of c.copies l).next 65535 early)

  -- and do an instruction that neither takes a value in nor gives one out
  pub computes : (i : Instruction) → MayStep c l → targets i ≡ true → (copies_of c.copies l).next < 256 → may_compute c.copies l i ≡ true
  computes i may sound running =
      let early : (copies_of c.copies l).next < 65535 = omega (arith, running) in
      rw (steps_on may, sound, lt-ltb (copies_of c.copies l).next 65535 early)

  -- and set a register
  pub assigns : (t : ℕ) → MayAssign c l t → may_assign c.copies l t ≡ true
  assigns t may =
      let early : (copies_of c.copies l).next < 65535 = omega (arith, may.running) in
      rw (steps_on may.step, lt-ltb t 16 may.register, lt-ltb (copies_of c.copies l).next 65535 early)

  -- and read on in a tape
  pub reads : (t k : ℕ) → MayRead c l t k → may_read c.copies l t k ≡ true
  reads t k may =
      let before : (copies_of c.copies l).positions k < 255 = omega (arith, may.early) in
      let early : (copies_of c.copies l).next < 65535 = omega (arith, may.assign.running) in
      rw (steps_on may.assign.step, lt-ltb t 16 may.assign.register, lt-ltb (copies_of c.copies l).next 65535 early, lt-ltb k 16 may.port, lt-ltb ((copies_of c.copies l).positions k) 255 before)

  -- after that step there are still as many turns as any copy made steps
  pub paced : MayStep c l → (d : Copies) → steps_of d ≡ with_at (steps_of c.copies) l (suc (steps_of c.copies l)) → (j : ℕ) → steps_of d j ≤ c.turns
  paced may d e j =
      subst (λ (h : ℕ → ℕ). h j ≤ c.turns) (sym e)
      (cond_both (eqb j l) (suc (steps_of c.copies l)) (steps_of c.copies j) (λ m. m ≤ c.turns) (λ _. may.counted) (λ _. c.paced j))
