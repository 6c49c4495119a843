-- The file of a script piece by piece. Assumes nothing.
use Rattle.std.proofs.Common.{◌≡◌, ℕ, List, [], ◌∷◌, ◌++◌, length, drop, sym, ap, ◌∙◌, append_assoc, zero-add}
use Rattle.std.specs.List.{flat_map}
use Rattle.script.specs.declared.accepted.Script.{Script}
use Rattle.script.specs.declared.parts.Channel.{Channel}
use Rattle.script.specs.declared.parts.Instruction.{Instruction}
use Rattle.script.specs.Model.{model_of}
use Rattle.script.proofs.Held.{channels_held, instructions_held}
use Rattle.format.specs.Numbers.{bytes_of}
use Rattle.format.specs.Encoding.{encode_channel, encode_instruction, encode}
use Rattle.record_writer.specs.Written.{written}

-- the four pieces, of the channels and the instructions that count
module _ (s : Script) (cs : List Channel) (is : List Instruction) (ec : cs ≡ (model_of s).channels) (ei : is ≡ (model_of s).instructions) where
  abbrev channels : List ℕ
  channels = flat_map encode_channel cs

  abbrev instructions : List ℕ
  instructions = flat_map encode_instruction is

  pub pieces : (m : List ℕ) → m ≡ bytes_of 2 s.instruction_count → (((s.levels ∷ s.channel_count ∷ []) ++ channels) ++ m) ++ instructions ≡ encode s
  pieces m em =
      append_assoc ((s.levels ∷ s.channel_count ∷ []) ++ channels) m instructions
      ∙ append_assoc (s.levels ∷ s.channel_count ∷ []) channels (m ++ instructions)
      ∙ ap (λ n. s.levels ∷ n ∷ (channels ++ (m ++ instructions))) (sym (channels_held s))
      ∙ ap (λ l. s.levels ∷ length (model_of s).channels ∷ (flat_map encode_channel l ++ (m ++ instructions))) ec
      ∙ ap (λ l. s.levels ∷ length (model_of s).channels ∷ (flat_map encode_channel (model_of s).channels ++ (l ++ instructions))) (em ∙ ap (bytes_of 2) (sym (instructions_held s)))
      ∙ ap (λ l. s.levels ∷ length (model_of s).channels ∷ (flat_map encode_channel (model_of s).channels ++ (bytes_of 2 (length (model_of s).instructions) ++ flat_map encode_instruction l))) ei

-- what is written from the front on
pub from_front : (bytes old : List ℕ) → written 0 bytes old ≡ bytes ++ drop (length bytes) old
from_front bytes old = ap (λ n. bytes ++ drop n old) (zero-add (length bytes))
