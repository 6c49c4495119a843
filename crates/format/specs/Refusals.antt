-- Which fault of a file is the first. Assumes nothing.
use Rattle.std.specs.Prelude.{◌≡◌, ℕ, ◌<◌, ◌≤◌, List, ◌∷◌, ◌++◌, length, Ok, Err, Result, MatchResult, ◌≢◌}
use Rattle.std.specs.List.{flat_map}
use Rattle.refusal.specs.declared.Refusal.TheVariants as why
use Rattle.refusal.specs.declared.Part.TheVariants as part
use Rattle.refusal.specs.declared.Fault.{Fault}
use Rattle.script.specs.declared.parts.Channel.{Channel}
use Rattle.script.specs.declared.parts.Instruction.{Instruction}
use Rattle.script.specs.declared.accepted.Script.{Script}
use Rattle.script.specs.Laws.{Headed, Counted, Below, Sound}
use Rattle.script.specs.Model.{Model, Accepted}
use Rattle.format.specs.Numbers.{bytes_of}
use Rattle.format.specs.Encoding.{encode_channel, encode_instruction, encode_model, encode}
use Rattle.format.specs.Rules.{fault}
use Rattle.format.specs.Reading.{read_head, read_channel, read_count, read_instruction}

-- the file begins with n, c and the channels cs, as they are encoded; the rest follows
pub record ChannelsRight (bs : List ℕ) (n c : ℕ) (cs : List Channel) (rest : List ℕ) : Type 0 where
  pub bytes : bs ≡ n ∷ c ∷ (flat_map encode_channel cs ++ rest)
  pub headed : Headed n c
  pub below : Below n cs (length cs)

-- the file begins with n, c, all its channels, m and the instructions is; the rest follows
pub record InstructionsRight (bs : List ℕ) (n : ℕ) (cs : List Channel) (m : ℕ) (is : List Instruction) (rest : List ℕ) : Type 0 where
  pub bytes : bs ≡ n ∷ length cs ∷ (flat_map encode_channel cs ++ (bytes_of 2 m ++ (flat_map encode_instruction is ++ rest)))
  pub headed : Headed n (length cs)
  pub below : Below n cs (length cs)
  pub counted : Counted m
  pub sound : Sound cs (length cs) m is (length is)

-- the file bs is refused with f: all that stands before is right, and the first thing that is not has the fault f
pub data Refused (bs : List ℕ) (f : Fault) : Type 0 where
  in_levels : read_head (length bs) 1 16 bs ≡ Err f → Refused bs f
  in_width : (n : ℕ) (rest : List ℕ) → bs ≡ n ∷ rest → 1 ≤ n → n ≤ 16 → read_head (length bs) 0 16 rest ≡ Err f → Refused bs f
  in_channel : (n c : ℕ) (cs : List Channel) (rest : List ℕ) → ChannelsRight bs n c cs rest → length cs < c → read_channel (length bs) (length cs) n rest ≡ Err f → Refused bs f
  in_count : (n : ℕ) (cs : List Channel) (rest : List ℕ) → ChannelsRight bs n (length cs) cs rest → read_count (length bs) rest ≡ Err f → Refused bs f
  in_instruction : (n : ℕ) (cs : List Channel) (m : ℕ) (is : List Instruction) (rest : List ℕ) → InstructionsRight bs n cs m is rest → length is < m → read_instruction (length bs) (length is) cs m rest ≡ Err f → Refused bs f
  in_tail : (s : Model) (b : ℕ) (rest : List ℕ) → Accepted s → bs ≡ encode_model s ++ (b ∷ rest) → f ≡ fault why.Tail (length (encode_model s)) part.Tail → Refused bs f

-- no script has this file
abbrev pub NoScript : List ℕ → Type 0
NoScript bs = (s : Script) → encode s ≢ bs

-- what reading answers: the script whose file it is, or the first fault, where it is the file of none
abbrev pub Reads : List ℕ → Result Script Fault → Type 0
Reads bs r = MatchResult r (λ s. encode s ≡ bs) (λ f. Refused bs f × NoScript bs)

-- the file of a script is read back as that script
abbrev pub ReadsBack : List ℕ → Result Script Fault → Type 0
ReadsBack bs r = (s : Script) → encode s ≡ bs → r ≡ Ok s
