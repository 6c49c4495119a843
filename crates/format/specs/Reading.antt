-- Reading a file from its front, as a function. `Refusals` says by relations what it answers; private functions
-- of the reader are proved against this function. Assumes nothing.
use Rattle.std.specs.Prelude.{ℕ, zero, suc, ◌+◌, ◌-◌, ◌*◌, ◌/◌, ◌^◌, Bool, true, false, cond, ◌&&◌, List, [], ◌∷◌, ◌++◌, map, length, take, drop, Some, None, Ok, Err, Option, Result, ◌==◌, nat_le, nat_lt}
use Rattle.std.proofs.Common.{to_z}
use Rattle.std.specs.Int.{w32}
use Rattle.refusal.specs.declared.Refusal.TheVariants as why
use Rattle.refusal.specs.declared.Part.{Part}
use Rattle.refusal.specs.declared.Part.TheVariants as part
use Rattle.refusal.specs.declared.Fault.{Fault}
use Rattle.script.specs.declared.parts.Direction.{Direction}
use Rattle.script.specs.declared.parts.Direction.TheVariants.{In, Out}
use Rattle.script.specs.declared.parts.Channel.{Channel}
use Rattle.script.specs.declared.parts.Operation.{Operation}
use Rattle.script.specs.declared.parts.Operation.TheVariants.{Add, Subtract, Multiply, Quotient, Remainder, Less, Same}
use Rattle.script.specs.declared.parts.Instruction.{Instruction}
use Rattle.script.specs.declared.parts.Instruction.TheVariants.{Skip, Set, Compute, Jump, Input, Output, Stop}
use Rattle.script.specs.Model.{Model}
use Rattle.format.specs.declared.layout.Site.{Site}
use Rattle.format.specs.declared.layout.Field.{Field}
use Rattle.format.specs.Numbers.{number, odd}
use Rattle.format.specs.Encoding.{channel_widths, instruction_widths}
use Rattle.format.specs.Rules.{Rule, broken, fault, value_of, not_zero, at, channel_rules, instruction_rules}

-- one step after another; the first fault ends it
abbrev pub and_then : {X Y E : Type 0} → Result X E → (X → Result Y E) → Result Y E
and_then (Ok x) next = next x
and_then (Err e) next = Err e

-- x where there is no fault, else the fault
abbrev pub unless : {X : Type 0} → Option Fault → X → Result X Fault
unless None x = Ok x
unless (Some f) x = Err f

-- the file ends before something that must be in this record: SHORT at the file's length
abbrev pub short_at : Site → Fault
short_at s = fault why.Short s.length s.part

-- the field of w bytes at the front of bs, and what is left; a field that is not announced is absent and takes no byte,
-- and one that the file ends before is SHORT
abbrev pub read_field : Site → ℕ → Bool → List ℕ → Result (Field × List ℕ) Fault
read_field s w false bs = Ok (record { byte = s.map_at; value = None }, bs)
read_field s w true bs =
    cond (nat_le w (length bs))
    (Ok (record { byte = s.length - length bs; value = Some (number (take w bs)) }, drop w bs))
    (Err (short_at s))

-- the fields of the widths ws that the map m announces, lowest bit first; the others are absent
abbrev pub read_fields : Site → List ℕ → ℕ → List ℕ → Result (List Field × List ℕ) Fault
read_fields s [] m bs = Ok ([], bs)
read_fields s (w ∷ ws) m bs =
    and_then (read_field s w (odd m) bs) (λ x.
    and_then (read_fields s ws (m / 2) x.1) (λ y. Ok (x.0 ∷ y.0, y.1)))

-- a record with the fields ws, its own rules, and what its fields make: first the map byte and its bits, then the
-- fields up to the file's end, then zeros, then its own rules
module _ {X : Type 0} (ws : List ℕ) (rules : Site → List Field → List Rule) (make : List Field → X) where
  -- what is read once the map byte m is
  abbrev pub read_body : Site → ℕ → List ℕ → Result (X × List ℕ) Fault
  read_body s m bs =
      cond (nat_lt m (2 ^ length ws))
      (and_then (read_fields s ws m bs) (λ x. unless (broken (map (not_zero s) x.0 ++ rules s x.0)) (make x.0, x.1)))
      (Err (fault why.Map s.map_at s.part))

  -- the whole record, its map byte first
  abbrev pub read_record : Site → List ℕ → Result (X × List ℕ) Fault
  read_record s [] = Err (short_at s)
  read_record s (m ∷ bs) = read_body s m bs

-- the record at the front of bs, which end a file of the given length
abbrev pub site_at : ℕ → Part → List ℕ → Site
site_at end p bs = record { length = end; part = p; map_at = end - length bs }

-- 0 is in, every other number out
abbrev pub direction_of : ℕ → Direction
direction_of v = cond (v == 0) In Out

-- the channel that the two fields of its record make
abbrev pub channel_of : List Field → Channel
channel_of fs = record { direction = direction_of (value_of (at fs 0)); level = value_of (at fs 1) }

-- the record of channel i at the front of bs, in a file of length end with n levels
abbrev pub read_channel : ℕ → ℕ → ℕ → List ℕ → Result (Channel × List ℕ) Fault
read_channel end i n bs = read_record channel_widths (channel_rules n) channel_of (site_at end (part.Channel i) bs) bs

-- the operation of a kind from 2 to 8; any other number counts as 8
abbrev pub operation_of : ℕ → Operation
operation_of k = cond (k == 2) Add (cond (k == 3) Subtract (cond (k == 4) Multiply (cond (k == 5) Quotient (cond (k == 6) Remainder (cond (k == 7) Less Same)))))

-- the instruction that the seven fields of its record make, by those that its kind uses; a kind above 12 is a stop
abbrev pub instruction_of : List Field → Instruction
instruction_of fs =
    let k = value_of (at fs 0) in
    let target = value_of (at fs 1) in
    let first = value_of (at fs 2) in
    cond (k == 0) Skip
    (cond (k == 1) (Set target (to_z w32 (value_of (at fs 4))))
    (cond (nat_le k 8) (Compute (operation_of k) target first (value_of (at fs 3)))
    (cond (k == 9) (Jump first (value_of (at fs 5)))
    (cond (k == 10) (Input target (value_of (at fs 6)))
    (cond (k == 11) (Output first (value_of (at fs 6)))
    Stop)))))

-- the record of instruction i at the front of bs, in a script with the channels cs and m instructions
abbrev pub read_instruction : ℕ → ℕ → List Channel → ℕ → List ℕ → Result (Instruction × List ℕ) Fault
read_instruction end i cs m bs = read_record instruction_widths (instruction_rules cs m) instruction_of (site_at end (part.Instruction i) bs) bs

-- k records one after another, the first of them with index i
abbrev pub read_many : {X : Type 0} → (ℕ → List ℕ → Result (X × List ℕ) Fault) → ℕ → ℕ → List ℕ → Result (List X × List ℕ) Fault
read_many one zero i bs = Ok ([], bs)
read_many one (suc k) i bs = and_then (one i bs) (λ x. and_then (read_many one k (i + 1) x.1) (λ y. Ok (x.0 ∷ y.0, y.1)))

-- the c channel records of a script of n levels, in a file of length end
abbrev pub read_channels : ℕ → ℕ → ℕ → List ℕ → Result (List Channel × List ℕ) Fault
read_channels end n c bs = read_many (λ i bs. read_channel end i n bs) c 0 bs

-- the m instruction records of a script with the channels cs, in a file of length end
abbrev pub read_instructions : ℕ → List Channel → ℕ → List ℕ → Result (List Instruction × List ℕ) Fault
read_instructions end cs m bs = read_many (λ i bs. read_instruction end i cs m bs) m 0 bs

-- one byte of the head, n or c, from low to high
abbrev pub read_head : ℕ → ℕ → ℕ → List ℕ → Result (ℕ × List ℕ) Fault
read_head end low high [] = Err (fault why.Short end part.Head)
read_head end low high (b ∷ bs) = cond (nat_le low b && nat_le b high) (Ok (b, bs)) (Err (fault why.Head (end - length (b ∷ bs)) part.Head))

-- the two bytes of m, from 1 to 256
abbrev pub read_count : ℕ → List ℕ → Result (ℕ × List ℕ) Fault
read_count end [] = Err (fault why.Short end part.Count)
read_count end (a ∷ []) = Err (fault why.Short end part.Count)
read_count end (a ∷ b ∷ bs) =
    let m = a + b * 256 in
    cond (nat_le 1 m && nat_le m 256) (Ok (m, bs)) (Err (fault why.Head (end - length (a ∷ b ∷ bs)) part.Count))

-- x, where nothing is left after the last record
abbrev pub read_tail : {X : Type 0} → ℕ → X → List ℕ → Result X Fault
read_tail end x [] = Ok x
read_tail end x (b ∷ bs) = Err (fault why.Tail (end - length (b ∷ bs)) part.Tail)

-- the model whose file it is, or the first fault: n, c, the channels, m, the instructions, and no more
abbrev pub read_file : List ℕ → Result Model Fault
read_file bs =
    let end = length bs in
    and_then (read_head end 1 16 bs) (λ n.
    and_then (read_head end 0 16 n.1) (λ c.
    and_then (read_channels end n.0 c.0 c.1) (λ cs.
    and_then (read_count end cs.1) (λ m.
    and_then (read_instructions end cs.0 m.0 m.1) (λ is.
    read_tail end (record { levels = n.0; channels = cs.0; instructions = is.0 }) is.1)))))
