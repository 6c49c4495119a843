-- What is written is bytes. Assumes nothing.
use Rattle.std.proofs.Common.{◌≡◌, ℕ, zero, suc, ◌/◌, ◌^◌, ◌<◌, ◌≤◌, true, eqb, List, [], ◌∷◌, ◌++◌, length, arith}
use Rattle.std.specs.List.{flat_map, AllByRecursion}
use Rattle.std.proofs.lemmas.Bool.{cond_both}
use Rattle.std.proofs.ByRecursion.{All-from_get_or}
use Rattle.script.specs.declared.parts.Instruction.TheVariants.{Skip}
use Rattle.script.specs.Laws.{blank, sound}
use Rattle.script.specs.Model.{Model, Accepted}
use Rattle.format.specs.Numbers.{bytes_of, Bytes}
use Rattle.format.specs.Encoding.{field_of, body_of, record_of, channel_widths, channel_values, encode_channel, instruction_widths, instruction_values, encode_instruction, encode_model}
use Rattle.format.proofs.Round.{Fit, map_small}
use Rattle.format.proofs.Channels.{channel_fit}
use Rattle.format.proofs.Instructions.{values_fit}

pub both_bytes : (a b : List ℕ) → Bytes a → Bytes b → Bytes (a ++ b)
both_bytes [] b h g = g
both_bytes (x ∷ a) b h g = (h.0, both_bytes a b h.1 g)

number_bytes : (w v : ℕ) → Bytes (bytes_of w v)
number_bytes zero v = tt
number_bytes (suc w) v = (omega arith, number_bytes w (v / 256))

field_bytes : (w v : ℕ) → Bytes (field_of w v)
field_bytes w v = cond_both (eqb v 0) [] (bytes_of w v) Bytes (λ _. tt) (λ _. number_bytes w v)

body_bytes : (ws vs : List ℕ) → Bytes (body_of ws vs)
body_bytes [] vs = tt
body_bytes (w ∷ ws) [] = tt
body_bytes (w ∷ ws) (v ∷ vs) = both_bytes (field_of w v) (body_of ws vs) (field_bytes w v) (body_bytes ws vs)

-- a record of at most eight fields
record_bytes : (ws vs : List ℕ) → Fit ws vs → 2 ^ length ws ≤ 256 → Bytes (record_of ws vs)
record_bytes ws vs fit le = (omega (arith, map_small ws vs fit), body_bytes ws vs)

joined_bytes : {X : Type 0} (enc : X → List ℕ) (P : X → Type 0) → ((x : X) → P x → Bytes (enc x)) → (xs : List X) → AllByRecursion P xs → Bytes (flat_map enc xs)
joined_bytes enc P each [] h = tt
joined_bytes enc P each (x ∷ xs) h = both_bytes (enc x) (flat_map enc xs) (each x h.0) (joined_bytes enc P each xs h.1)

-- the file of an accepted model is bytes
pub model_bytes : (s : Model) → Accepted s → Bytes (encode_model s)
model_bytes s h =
    let n = s.levels in
    let cs = s.channels in
    let is = s.instructions in
    let channels = joined_bytes encode_channel (λ c. c.level < n) (λ c lt. record_bytes channel_widths (channel_values c) (channel_fit c (omega (arith, h.headed.1))) (omega arith)) cs (All-from_get_or (λ c. c.level < n) cs blank h.below) in
    let instructions = joined_bytes encode_instruction (λ i. sound cs (length cs) (length is) i ≡ true) (λ i law. record_bytes instruction_widths (instruction_values i) (values_fit cs (length is) i h.headed.2 h.counted.1 law) (omega arith)) is (All-from_get_or (λ i. sound cs (length cs) (length is) i ≡ true) is Skip h.sound) in
    (omega (arith, h.headed.1), (omega (arith, h.headed.2), both_bytes (flat_map encode_channel cs) _ channels (both_bytes (bytes_of 2 (length is)) _ (number_bytes 2 (length is)) instructions)))
