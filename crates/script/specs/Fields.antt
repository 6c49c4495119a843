-- An instruction is known by its fields. Assumes nothing.
use Rattle.std.specs.Prelude.{◌≡◌, ℕ, ◌==◌, cond}
use Rattle.std.proofs.Common.{refl}
use Rattle.script.specs.declared.parts.Operation.{Operation}
use Rattle.script.specs.declared.parts.Operation.TheVariants.{Add, Subtract, Multiply, Quotient, Remainder, Less, Same}
use Rattle.script.specs.declared.parts.Fields.{Fields}
use Rattle.script.specs.declared.parts.Instruction.{Instruction}
use Rattle.script.specs.declared.parts.Instruction.TheVariants.{Skip, Set, Compute, Jump, Input, Output, Stop}
use Rattle.script.specs.Kinds.{fields_of}

-- the operation of a kind from 2 to 8; any other number counts as 8
abbrev pub operation_from : ℕ → Operation
operation_from k = cond (k == 2) Add (cond (k == 3) Subtract (cond (k == 4) Multiply (cond (k == 5) Quotient (cond (k == 6) Remainder (cond (k == 7) Less Same)))))

-- the instruction of this kind, with those of these fields that the kind uses; a kind above 12 counts as 8
abbrev pub instruction_from : Fields → Instruction
instruction_from f =
    cond (f.kind == 0) Skip
    (cond (f.kind == 1) (Set f.target f.number)
    (cond (f.kind == 9) (Jump f.first f.place)
    (cond (f.kind == 10) (Input f.target f.channel)
    (cond (f.kind == 11) (Output f.first f.channel)
    (cond (f.kind == 12) Stop (Compute (operation_from f.kind) f.target f.first f.second))))))

-- each instruction comes back from its fields
abbrev pub KnownByFields : Type 0
KnownByFields = (x : Instruction) → instruction_from (fields_of x) ≡ x

-- each instruction comes back from its fields: shown of each kind and each operation
pub instruction_back : KnownByFields
instruction_back Skip = refl
instruction_back (Set target number) = refl
instruction_back (Compute Add target first second) = refl
instruction_back (Compute Subtract target first second) = refl
instruction_back (Compute Multiply target first second) = refl
instruction_back (Compute Quotient target first second) = refl
instruction_back (Compute Remainder target first second) = refl
instruction_back (Compute Less target first second) = refl
instruction_back (Compute Same target first second) = refl
instruction_back (Jump first place) = refl
instruction_back (Input target channel) = refl
instruction_back (Output first channel) = refl
instruction_back Stop = refl
