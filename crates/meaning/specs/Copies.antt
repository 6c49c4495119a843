-- One copy of a script, and the plain run. Assumes nothing.
use Rattle.std.specs.Prelude.{ℕ, zero, suc, Bool, true, false, cond, List, [], ◌∷◌, ◌++◌, ℤ, pos, Some, None, Option, ◌==◌, nat_lt}
use Rattle.script.specs.declared.parts.Instruction.{Instruction}
use Rattle.script.specs.declared.parts.Instruction.TheVariants.{Skip, Set, Compute, Jump, Input, Output, Stop}
use Rattle.meaning.specs.Arithmetic.{is_zero, result_of}
use Rattle.meaning.specs.Programs.{Program, instruction_at}

-- what a copy holds: the place of its next instruction, its registers, and its position in the tape of each channel
pub record Copy : Type 0 where
  pub next : ℕ
  pub registers : ℕ → ℤ
  pub positions : ℕ → ℕ

-- how every copy begins
abbrev pub first : Copy
first = record { next = 0; registers = λ _. pos 0; positions = λ _. 0 }

-- f, but v at k
abbrev pub with_at : {A : Type 0} → (ℕ → A) → ℕ → A → ℕ → A
with_at f k v j = cond (j == k) v (f j)

-- the copy goes to instruction i, and all else is as before
abbrev pub go_to : Copy → ℕ → Copy
go_to c i = record { next = i; registers = c.registers; positions = c.positions }

-- the copy goes to the instruction after its own, and all else is as before
abbrev pub go_on : Copy → Copy
go_on c = go_to c (suc c.next)

-- register t gets v, and the copy goes on
abbrev pub assign : Copy → ℕ → ℤ → Copy
assign c t v = record { next = suc c.next; registers = with_at c.registers t v; positions = c.positions }

-- the position in the tape of channel k moves on by one
abbrev pub further : Copy → ℕ → Copy
further c k = record { next = c.next; registers = c.registers; positions = with_at c.positions k (suc (c.positions k)) }

-- the value with index i of a list, or none where the list is not so long
abbrev pub nth : List ℤ → ℕ → Option ℤ
nth [] i = None
nth (v ∷ vs) zero = Some v
nth (v ∷ vs) (suc i) = nth vs i

-- A plain run: one copy alone, and the values that it wrote on each channel.
pub record Plain : Type 0 where
  pub copy : Copy
  pub written : ℕ → List ℤ

-- the run with another copy; what it wrote stays
abbrev pub with_copy : Plain → Copy → Plain
with_copy p c = record { copy = c; written = p.written }

-- what an in gives: 0 and the position stays; a value and the position moves on; nothing yet
pub data InputValue : Type 0 where
  default : InputValue
  value : ℤ → InputValue
  missing : InputValue

-- what an in gives, by: is the channel given a list at all; is the position below 64; what the list has there
abbrev pub plain_input : Bool → Bool → Option ℤ → InputValue
plain_input false early next = default
plain_input true false next = default
plain_input true true (Some v) = value v
plain_input true true None = missing

-- an in from channel k to register t, by what it gives: where that is nothing yet, the run stands still
abbrev pub plain_read : Plain → ℕ → ℕ → InputValue → Plain
plain_read p t k default = with_copy p (assign p.copy t (pos 0))
plain_read p t k (value v) = with_copy p (assign (further p.copy k) t v)
plain_read p t k missing = p

-- an out of v to channel k: the value is added to those written on the channel
abbrev pub plain_write : Plain → ℕ → ℤ → Plain
plain_write p k v = record { copy = go_on p.copy; written = with_at p.written k (p.written k ++ (v ∷ [])) }

-- of the script, the channels that are given a list, and the lists
module _ (sc : Program) (given : ℕ → Bool) (list : ℕ → List ℤ) where
  -- what one instruction does to the run
  abbrev pub plain_do : Plain → Instruction → Plain
  plain_do p Skip = with_copy p (go_on p.copy)
  plain_do p (Set t v) = with_copy p (assign p.copy t v)
  plain_do p (Compute o t a b) = with_copy p (assign p.copy t (result_of o (p.copy.registers a) (p.copy.registers b)))
  plain_do p (Jump a i) = with_copy p (go_to p.copy (cond (is_zero (p.copy.registers a)) (suc p.copy.next) i))
  plain_do p (Input t k) = plain_read p t k (plain_input (given k) (nat_lt (p.copy.positions k) 64) (nth (list k) (p.copy.positions k)))
  plain_do p (Output a k) = plain_write p k (p.copy.registers a)
  plain_do p Stop = with_copy p (go_to p.copy sc.instruction_count)

  -- one step: the next instruction; a run that has ended stays
  abbrev pub plain_step : Plain → Plain
  plain_step p = cond (nat_lt p.copy.next sc.instruction_count) (plain_do p (instruction_at sc p.copy.next)) p

  -- the run after n steps from the beginning
  abbrev pub plain_run : ℕ → Plain
  plain_run zero = record { copy = first; written = λ _. [] }
  plain_run (suc n) = plain_step (plain_run n)
