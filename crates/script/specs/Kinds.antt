-- The numbers of directions and kinds, and the fields of each kind of instruction. Assumes nothing.
use Rattle.std.specs.Prelude.{ℕ, pos}
use Rattle.script.specs.declared.parts.Direction.{Direction}
use Rattle.script.specs.declared.parts.Direction.TheVariants.{In, Out}
use Rattle.script.specs.declared.parts.Operation.{Operation}
use Rattle.script.specs.declared.parts.Operation.TheVariants.{Add, Subtract, Multiply, Quotient, Remainder, Less, Same}
use Rattle.script.specs.declared.parts.Instruction.{Instruction}
use Rattle.script.specs.declared.parts.Instruction.TheVariants.{Skip, Set, Compute, Jump, Input, Output, Stop}
use Rattle.script.specs.declared.parts.Fields.{Fields}

-- the number that a direction has in a file
abbrev pub code_of : Direction → ℕ
code_of In = 0
code_of Out = 1

-- the kind of each operation: the seven kinds that compute
abbrev pub kind_of : Operation → ℕ
kind_of Add = 2
kind_of Subtract = 3
kind_of Multiply = 4
kind_of Quotient = 5
kind_of Remainder = 6
kind_of Less = 7
kind_of Same = 8

-- the seven fields of an instruction: those that its kind uses, and 0 for the others
abbrev pub fields_of : Instruction → Fields
fields_of Skip = record { kind = 0; target = 0; first = 0; second = 0; number = pos 0; place = 0; channel = 0 }
fields_of (Set target number) = record { kind = 1; target = target; first = 0; second = 0; number = number; place = 0; channel = 0 }
fields_of (Compute operation target first second) = record { kind = kind_of operation; target = target; first = first; second = second; number = pos 0; place = 0; channel = 0 }
fields_of (Jump first place) = record { kind = 9; target = 0; first = first; second = 0; number = pos 0; place = place; channel = 0 }
fields_of (Input target channel) = record { kind = 10; target = target; first = 0; second = 0; number = pos 0; place = 0; channel = channel }
fields_of (Output first channel) = record { kind = 11; target = 0; first = first; second = 0; number = pos 0; place = 0; channel = channel }
fields_of Stop = record { kind = 12; target = 0; first = 0; second = 0; number = pos 0; place = 0; channel = 0 }
