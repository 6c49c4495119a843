-- The rules of a record once its fields are read, in the order in which they are judged. Assumes nothing.
use Rattle.std.specs.Prelude.{ℕ, Bool, true, cond, not, ◌&&◌, ◌||◌, List, [], ◌∷◌, ◌++◌, length, Some, None, Option, ◌==◌, nat_le, nat_lt, slice_index_or}
use Rattle.std.specs.Option.{unwrap_or, is_some}
use Rattle.refusal.specs.declared.Refusal.{Refusal}
use Rattle.refusal.specs.declared.Refusal.TheVariants as why
use Rattle.refusal.specs.declared.Part.{Part}
use Rattle.refusal.specs.declared.Fault.{Fault}
use Rattle.script.specs.declared.parts.Direction.TheVariants.{In, Out}
use Rattle.script.specs.declared.parts.Channel.{Channel}
use Rattle.script.specs.Laws.{directed}
use Rattle.format.specs.declared.layout.Site.{Site}
use Rattle.format.specs.declared.layout.Field.{Field}

-- a refusal of a file, with the byte and the part that it tells
abbrev pub fault : Refusal → ℕ → Part → Fault
fault why at part = record { refusal = why; byte = at; part = part }

-- a rule, and the fault where it is broken
pub record Rule : Type 0 where
  pub kept : Bool
  pub else : Fault

-- the fault of the first rule that is broken, or none where all are kept
abbrev pub broken : List Rule → Option Fault
broken [] = None
broken (r ∷ rs) = cond r.kept (broken rs) (Some r.else)

-- is the field there?
abbrev pub is_there : Field → Bool
is_there f = is_some f.value

-- the number that a field holds, 0 where it is absent
abbrev pub value_of : Field → ℕ
value_of f = unwrap_or f.value 0

-- a field that is there is not 0: else ZERO at the field
abbrev pub not_zero : Site → Field → Rule
not_zero s f = record { kept = not (is_there f && value_of f == 0); else = fault why.Zero f.byte s.part }

-- what the field holds is allowed: else RANGE at the field, or at the map byte where it is absent
abbrev pub in_range : Site → Bool → Field → Rule
in_range s ok f = record { kept = ok; else = fault why.Range f.byte s.part }

-- a field that is there is used by the kind: else MAP at the map byte
abbrev pub wanted : Site → Bool → Field → Rule
wanted s used f = record { kept = used || not (is_there f); else = fault why.Map s.map_at s.part }

-- a field that is absent
abbrev pub none : Field
none = record { byte = 0; value = None }

-- field k of a record; an absent one past the last
abbrev pub at : List Field → ℕ → Field
at fs k = slice_index_or fs k none

-- the ranges of a channel record in a script of n levels: direction, then level
abbrev pub channel_rules : ℕ → Site → List Field → List Rule
channel_rules n s fs = in_range s (nat_lt (value_of (at fs 0)) 2) (at fs 0) ∷ in_range s (nat_lt (value_of (at fs 1)) n) (at fs 1) ∷ []

-- the kinds that have a target: set, the seven that compute, and in
abbrev pub uses_target : ℕ → Bool
uses_target k = (nat_le 1 k && nat_le k 8) || k == 10

-- the kinds that have a first register: the seven that compute, jump and out
abbrev pub uses_first : ℕ → Bool
uses_first k = (nat_le 2 k && nat_le k 9) || k == 11

-- the kinds that have a second register: the seven that compute
abbrev pub uses_second : ℕ → Bool
uses_second k = nat_le 2 k && nat_le k 8

-- set alone has a number
abbrev pub uses_number : ℕ → Bool
uses_number k = k == 1

-- jump alone has a place
abbrev pub uses_place : ℕ → Bool
uses_place k = k == 9

-- the kinds that have a channel: in and out
abbrev pub uses_channel : ℕ → Bool
uses_channel k = k == 10 || k == 11

-- an instruction record: a known kind, and no field there that the kind does not use
abbrev pub kind_rules : Site → List Field → List Rule
kind_rules s fs =
    let k = value_of (at fs 0) in
    in_range s (nat_le k 12) (at fs 0)
    ∷ wanted s (uses_target k) (at fs 1)
    ∷ wanted s (uses_first k) (at fs 2)
    ∷ wanted s (uses_second k) (at fs 3)
    ∷ wanted s (uses_number k) (at fs 4)
    ∷ wanted s (uses_place k) (at fs 5)
    ∷ wanted s (uses_channel k) (at fs 6)
    ∷ []

-- is v a channel that kind k may name: an in channel for kind 10, an out channel for 11, anything for the others
abbrev pub suits : List Channel → ℕ → ℕ → Bool
suits cs k v = cond (k == 10) (directed In cs (length cs) v) (cond (k == 11) (directed Out cs (length cs) v) true)

-- the other ranges of an instruction, in a script with the channels cs and m instructions: registers, place and channel
abbrev pub range_rules : List Channel → ℕ → Site → List Field → List Rule
range_rules cs m s fs =
    in_range s (nat_lt (value_of (at fs 1)) 16) (at fs 1)
    ∷ in_range s (nat_lt (value_of (at fs 2)) 16) (at fs 2)
    ∷ in_range s (nat_lt (value_of (at fs 3)) 16) (at fs 3)
    ∷ in_range s (nat_le (value_of (at fs 5)) m) (at fs 5)
    ∷ in_range s (suits cs (value_of (at fs 0)) (value_of (at fs 6))) (at fs 6)
    ∷ []

-- all that an instruction record keeps, in the order in which it is judged
abbrev pub instruction_rules : List Channel → ℕ → Site → List Field → List Rule
instruction_rules cs m s fs = kind_rules s fs ++ range_rules cs m s fs
