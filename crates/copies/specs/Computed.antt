-- What an instruction that neither takes a value in nor gives one out does to a copy. Assumes nothing.
use Rattle.std.specs.Prelude.{ℕ, suc, Bool, true, ◌&&◌, cond, nat_lt}
use Rattle.script.specs.declared.parts.Instruction.{Instruction}
use Rattle.script.specs.declared.parts.Instruction.TheVariants.{Skip, Set, Compute, Jump, Input, Output, Stop}
use Rattle.meaning.specs.Arithmetic.{is_zero, result_of}
use Rattle.meaning.specs.Copies.{Copy, assign, go_on, go_to}

-- the copy after it, in a script whose end is that place; an in or an out leaves it as it was
abbrev pub computed : Copy → ℕ → Instruction → Copy
computed c end Skip = go_on c
computed c end (Set t v) = assign c t v
computed c end (Compute o t a b) = assign c t (result_of o (c.registers a) (c.registers b))
computed c end (Jump a i) = go_to c (cond (is_zero (c.registers a)) (suc c.next) i)
computed c end (Input t k) = c
computed c end (Output a k) = c
computed c end Stop = go_to c end

-- there is a place after the copy's own, of those that the code can number, 0 to 65,535
abbrev pub goes_on : Copy → Bool
goes_on c = nat_lt c.next 65535

-- the register that it sets is one of a copy's; true where it sets none, and of an in, which `reads` is for
abbrev pub targets : Instruction → Bool
targets Skip = true
targets (Set t v) = nat_lt t 16
targets (Compute o t a b) = nat_lt t 16
targets (Jump a i) = true
targets (Input t k) = true
targets (Output a k) = true
targets Stop = true

-- the instruction can be done: it has its register, and there is a place after the copy's own
abbrev pub computes : Copy → Instruction → Bool
computes c i = targets i && goes_on c
