-- What one step of a plain run does, and what its acts tell. Assumes nothing.
use Rattle.std.specs.Prelude.{◌≡◌, ℕ, Bool, cond, List, ℤ, nat_lt}
use Rattle.script.specs.declared.parts.Instruction.{Instruction}
use Rattle.script.specs.declared.parts.Instruction.TheVariants.{Skip, Set, Compute, Jump, Input, Output, Stop}
use Rattle.meaning.specs.Copies.{Copy, InputValue, default, value, missing, nth, plain_input, plain_step}
use Rattle.meaning.specs.Programs.{Program, instruction_at}
use Rattle.meaning.specs.Visits.{put_on}
use Rattle.preview.specs.declared.acts.Did.{Did}
use Rattle.preview.specs.declared.acts.Did.TheVariants.{Inner, Got, Defaulted, Wrote, Waits, Ended}

-- the values written on each channel, once a step that did this has added its own
abbrev pub written_after : Did → (ℕ → List ℤ) → ℕ → List ℤ
written_after Inner w = w
written_after (Got k v) w = w
written_after (Defaulted k) w = w
written_after (Wrote k v) w = put_on k v w
written_after (Waits k) w = w
written_after Ended w = w

-- what an in from channel k does, by what it gives
abbrev pub did_read : ℕ → InputValue → Did
did_read k default = Defaulted k
did_read k (value v) = Got k v
did_read k missing = Waits k

-- the script, the channels that are given a list, and the lists
module _ (sc : Program) (given : ℕ → Bool) (list : ℕ → List ℤ) where
  -- what the copy does by an instruction
  abbrev pub did_by : Copy → Instruction → Did
  did_by c Skip = Inner
  did_by c (Set t v) = Inner
  did_by c (Compute o t a b) = Inner
  did_by c (Jump a i) = Inner
  did_by c (Input t k) = did_read k (plain_input (given k) (nat_lt (c.positions k) 64) (nth (list k) (c.positions k)))
  did_by c (Output a k) = Wrote k (c.registers a)
  did_by c Stop = Inner

  -- what its next step does
  abbrev pub did : Copy → Did
  did c = cond (nat_lt c.next sc.instruction_count) (did_by c (instruction_at sc c.next)) Ended

  -- a step of the copy c did r and left the copy d: it is the step of the plain run, whatever was written before, and r
  -- tells what it did and wrote
  pub record Stepped (c : Copy) (r : Did) (d : Copy) : Type 0 where
    pub told : r ≡ did c
    pub after : (w : ℕ → List ℤ) → record { copy = d; written = written_after r w } ≡ plain_step sc given list (record { copy = c; written = w })
