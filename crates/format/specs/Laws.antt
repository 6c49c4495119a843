-- What the definitions of files and refusals mean. Assumes nothing.
use Rattle.std.specs.Prelude.{◌≡◌, ℕ, ◌+◌, ◌-◌, ◌/◌, ◌<◌, ◌≤◌, cond, ◌⊎◌, List, [], ◌∷◌, ◌++◌, length, take, ◌≢◌}
use Rattle.refusal.specs.Numbers.{number_of}
use Rattle.refusal.specs.declared.Refusal.TheVariants as why
use Rattle.refusal.specs.declared.Part.{Part}
use Rattle.refusal.specs.declared.Part.TheVariants as part
use Rattle.refusal.specs.declared.Fault.{Fault}
use Rattle.script.specs.declared.parts.Channel.{Channel}
use Rattle.script.specs.declared.parts.Instruction.{Instruction}
use Rattle.script.specs.declared.accepted.Script.{Script}
use Rattle.script.specs.Model.{Model, Accepted}
use Rattle.format.specs.Numbers.{odd, Bytes}
use Rattle.format.specs.Encoding.{channel_widths, instruction_widths, encode_model, encode}
use Rattle.format.specs.Rules.{fault}
use Rattle.format.specs.Refusals.{ChannelsRight, InstructionsRight, Refused}

-- two scripts with one file are equal
abbrev pub OneFile : Type 0
OneFile = (s t : Script) → encode s ≡ encode t → s ≡ t

-- a file is refused in one way at most
abbrev pub OneRefusal : Type 0
OneRefusal = (bs : List ℕ) (f g : Fault) → Refused bs f → Refused bs g → f ≡ g

-- bytes are the file of an accepted script, or are refused
abbrev pub AcceptedOrRefused : Type 0
AcceptedOrRefused = (bs : List ℕ) → Bytes bs → ((s : Model) × Accepted s × (encode_model s ≡ bs)) ⊎ ((f : Fault) × Refused bs f)

-- no accepted script's file is refused
abbrev pub AcceptedNotRefused : Type 0
AcceptedNotRefused = (s : Model) (f : Fault) → Accepted s → Refused (encode_model s) f → ⊥

-- every proper prefix of an accepted file is refused with 1 at its own length
abbrev pub PrefixIsShort : Type 0
PrefixIsShort = (s : Model) (p : ℕ) → Accepted s → p < length (encode_model s) → (q : Part) × Refused (take p (encode_model s)) (fault why.Short p q)

-- 6 at p exactly where p is below the length and the first p bytes are accepted
pub record TailExactly : Type 0 where
  pub told : (bs : List ℕ) (f : Fault) → Bytes bs → Refused bs f → f.refusal ≡ why.Tail → (f.part ≡ part.Tail) × (f.byte < length bs) × ((s : Model) × Accepted s × (encode_model s ≡ take f.byte bs))
  pub found : (bs : List ℕ) (s : Model) (p : ℕ) → Accepted s → p < length bs → encode_model s ≡ take p bs → Refused bs (fault why.Tail p part.Tail)

-- a refusal with 2 to 5 stays the same whatever is appended
abbrev pub AppendedSame : Type 0
AppendedSame = (bs more : List ℕ) (f : Fault) → Bytes bs → Bytes more → Refused bs f → 2 ≤ number_of f.refusal → number_of f.refusal ≤ 5 → Refused (bs ++ more) f

-- the byte is at most the length, and equal to it exactly for 1
pub record ByteWithin (bs : List ℕ) (f : Fault) : Type 0 where
  pub within : f.byte ≤ length bs
  pub at_end : f.refusal ≡ why.Short → f.byte ≡ length bs
  pub before : (f.refusal ≢ why.Short) → f.byte < length bs

-- of every refusal of every file, the byte is at most the length, and equal to it exactly for 1
abbrev pub EveryByteWithin : Type 0
EveryByteWithin = (bs : List ℕ) (f : Fault) → Refused bs f → ByteWithin bs f

-- how many bytes the fields have that the map m announces, in a record whose fields have the widths ws
abbrev pub announced : List ℕ → ℕ → ℕ
announced [] m = 0
announced (w ∷ ws) m = cond (odd m) w 0 + announced ws (m / 2)

-- how many bytes the record at the front of rest has by its map, the map included; 1 where not even the map is there
abbrev pub record_size : List ℕ → List ℕ → ℕ
record_size ws [] = 1
record_size ws (m ∷ rest) = 1 + announced ws m

-- the fault lies in the record that it names, and the bytes before that encode the head and the records before it
pub record InItsRecord : Type 0 where
  pub channel : (bs : List ℕ) (f : Fault) (i : ℕ) → Refused bs f → f.part ≡ part.Channel i →
      (n c : ℕ) × (cs : List Channel) × (rest : List ℕ) × ChannelsRight bs n c cs rest × (length cs ≡ i) × (i < c) × (length bs - length rest ≤ f.byte) × (f.byte < length bs - length rest + record_size channel_widths rest)
  pub instruction : (bs : List ℕ) (f : Fault) (i : ℕ) → Refused bs f → f.part ≡ part.Instruction i →
      (n : ℕ) × (cs : List Channel) × (m : ℕ) × (is : List Instruction) × (rest : List ℕ) × InstructionsRight bs n cs m is rest × (length is ≡ i) × (i < m) × (length bs - length rest ≤ f.byte) × (f.byte < length bs - length rest + record_size instruction_widths rest)
