-- The numbers of the kinds of instructions. Assumes nothing.
use Rattle.std.specs.Prelude.{ℕ}
use Rattle.script.specs.Kinds.{kind_of}
use Rattle.record_reader.specs.declared.kind.Kind.{Kind}
use Rattle.record_reader.specs.declared.kind.Kind.TheVariants.{Skip, Set, Compute, Jump, Input, Output, Stop}

-- the number of each kind in a file, as docs/scripts.md lists them
abbrev pub kind_number : Kind → ℕ
kind_number Skip = 0
kind_number Set = 1
kind_number (Compute operation) = kind_of operation
kind_number Jump = 9
kind_number Input = 10
kind_number Output = 11
kind_number Stop = 12
