-- What the tables of a visit hold. Assumes nothing.
use Rattle.std.specs.Prelude.{◌≡◌, ℕ, suc, Bool, ◌&&◌, List, [], map, take, ℤ, pos, nat_lt, slice_index, slice_index_or}
use Rattle.script.specs.declared.parts.Instruction.{Instruction}
use Rattle.meaning.specs.Copies.{Copy, first, with_at}
use Rattle.copies.specs.Computed.{computes, goes_on}
use Rattle.copies.specs.declared.replica.Replica.{Replica}
use Rattle.copies.specs.declared.table.Copies.{Copies}
use Rattle.copies.specs.declared.table.LevelCopy.{LevelCopy}
use Rattle.copies.specs.declared.tapes.Tape.{Tape}
use Rattle.copies.specs.declared.tapes.Tapes.{Tapes}

-- a copy, from its tables; past them registers and positions are 0
abbrev pub copy_of : Replica → Copy
copy_of r = record { next = r.next; registers = λ i. slice_index_or r.registers i (pos 0); positions = λ k. slice_index r.positions k }

-- a value can be assigned: there is a register i, and a place after the copy's own
abbrev pub assigns : Copy → ℕ → Bool
assigns c i = nat_lt i 16 && goes_on c

-- a value can be read from a tape: it can be assigned to register i, there is a channel k, and a position after the
-- copy's own, of those that the code can number, 0 to 255
abbrev pub reads : Copy → ℕ → ℕ → Bool
reads c i k = assigns c i && (nat_lt k 16 && nat_lt (c.positions k) 255)

-- the copy that a level has
abbrev pub copy_in : LevelCopy → Copy
copy_in c = copy_of c.copy

-- the own steps that a level's copy has
abbrev pub steps_in : LevelCopy → ℕ
steps_in c = c.steps

-- the copy at level l; past the table one that begins
abbrev pub copies_of : Copies → ℕ → Copy
copies_of t l = slice_index_or (map copy_in t.copies) l first

-- the own steps at level l; past the table 0
abbrev pub steps_of : Copies → ℕ → ℕ
steps_of t l = slice_index_or (map steps_in t.copies) l 0

-- from c to d the copy of a level made one step and is now x
pub record Moved (c d : LevelCopy) (x : Copy) : Type 0 where
  pub copy : copy_in d ≡ x
  pub steps : d.steps ≡ suc c.steps

-- one step more of the copy can be counted, in the 32 bits that the code has for that
abbrev pub can_step : LevelCopy → Bool
can_step c = nat_lt c.steps 4294967295

-- the copy can go on, and the step be counted
abbrev pub can_go_on : LevelCopy → Bool
can_go_on c = can_step c && goes_on (copy_in c)

-- the copy can set register i, and the step be counted
abbrev pub can_assign : LevelCopy → ℕ → Bool
can_assign c i = can_step c && assigns (copy_in c) i

-- the copy can read on in the tape of channel k, to register i, and the step be counted
abbrev pub can_read : LevelCopy → ℕ → ℕ → Bool
can_read c i k = can_step c && reads (copy_in c) i k

-- the copy can do an instruction that neither takes a value in nor gives one out, and the step be counted
abbrev pub can_compute : LevelCopy → Instruction → Bool
can_compute c i = can_step c && computes (copy_in c) i

-- from t to u the copy at level l made one step and is now c, and no other copy changed
pub record Stepped (t u : Copies) (l : ℕ) (c : Copy) : Type 0 where
  pub copies : copies_of u ≡ with_at (copies_of t) l c
  pub steps : steps_of u ≡ with_at (steps_of t) l (suc (steps_of t l))

-- there is a copy at level l, and one step more can be counted
abbrev pub may_step : Copies → ℕ → Bool
may_step t l = nat_lt l 16 && nat_lt (steps_of t l) 4294967295

-- there is a copy at level l, it can go on, and the step be counted
abbrev pub may_go_on : Copies → ℕ → Bool
may_go_on t l = may_step t l && goes_on (copies_of t l)

-- there is a copy at level l, it can set register i, and the step be counted
abbrev pub may_assign : Copies → ℕ → ℕ → Bool
may_assign t l i = may_step t l && assigns (copies_of t l) i

-- there is a copy at level l, it can read on in the tape of channel k, to register i, and the step be counted
abbrev pub may_read : Copies → ℕ → ℕ → ℕ → Bool
may_read t l i k = may_step t l && reads (copies_of t l) i k

-- there is a copy at level l, it can do an instruction that neither takes a value in nor gives one out, and the step be
-- counted
abbrev pub may_compute : Copies → ℕ → Instruction → Bool
may_compute t l i = may_step t l && computes (copies_of t l) i

-- the values of a tape: those before its length
abbrev pub tape_of : Tape → List ℤ
tape_of t = take t.len t.values

-- the values of the tape of channel k; none past the table
abbrev pub tapes_of : Tapes → ℕ → List ℤ
tapes_of t k = slice_index_or (map tape_of t.tapes) k []
