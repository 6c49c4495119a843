-- What the copies of a visit may do next, and how its course goes on. Assumes nothing.
use Rattle.std.specs.Prelude.{◌≡◌, ℕ, suc, ◌<◌}
use Rattle.copies.specs.Held.{copies_of, steps_of, tapes_of}
use Rattle.meaning.specs.Copies.{Copy, with_at}
use Rattle.meaning.specs.Visits.{tapes_after}
use Rattle.meaning.specs.declared.answers.Act.{Act}
use Rattle.engine.specs.declared.visit.Course.{Course}

-- the copy at level l may make a step: there is such a copy, and it has made fewer steps than there were turns
pub record MayStep (c : Course) (l : ℕ) : Type 0 where
  pub inside : l < 16
  pub counted : steps_of c.copies l < c.turns

-- the copy at level l may make a step that sets register t: there is such a register, and the next instruction is below
-- 256, as where a copy has not ended
pub record MayAssign (c : Course) (l t : ℕ) : Type 0 where
  pub step : MayStep c l
  pub register : t < 16
  pub running : (copies_of c.copies l).next < 256

-- the copy at level l may read on in the tape of channel k: there is such a channel, and the copy has read less than a
-- tape can hold
pub record MayRead (c : Course) (l t k : ℕ) : Type 0 where
  pub assign : MayAssign c l t
  pub port : k < 16
  pub early : (copies_of c.copies l).positions k < 64

-- from c to d the copy at level l made one step, by an act, and is now x; no other copy changed, and no tape but by the act
pub record Went (c d : Course) (l : ℕ) (act : Act) (x : Copy) : Type 0 where
  pub turns : d.turns ≡ c.turns
  pub copies : copies_of d.copies ≡ with_at (copies_of c.copies) l x
  pub steps : steps_of d.copies ≡ with_at (steps_of c.copies) l (suc (steps_of c.copies l))
  pub tapes : tapes_of d.tapes ≡ tapes_after act (tapes_of c.tapes)
