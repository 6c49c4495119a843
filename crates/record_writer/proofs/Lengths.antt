-- How long records are one after another. Assumes nothing.
use Rattle.std.proofs.Common.{◌≡◌, ℕ, ◌+◌, ◌*◌, ◌<◌, ◌≤◌, ◌==◌, List, [], ◌∷◌, length, get_or, take, sym, ap, ◌∙◌, ⊎_elim, arith, length-append, length-take}
use Rattle.std.specs.List.{flat_map, sum_by}
use Rattle.std.proofs.lemmas.List.Concat.{length-flat_map}
use Rattle.std.proofs.lemmas.List.Sums.{sum_by-cons}
use Rattle.std.proofs.lemmas.List.{take_more, flat_map_more}
use Rattle.std.proofs.lemmas.Bool.{cases_Bool}
use Rattle.format.specs.Encoding.{channel_widths, channel_values, encode_channel, instruction_widths, instruction_values, encode_instruction, field_of, body_of}
use Rattle.format.proofs.Round.{length_bytes_of}
use Rattle.script.specs.declared.parts.Channel.{Channel}
use Rattle.script.specs.declared.parts.Instruction.{Instruction}

-- one record more
pub longer : {X : Type 0} (enc : X → List ℕ) (xs : List X) (i : ℕ) (d : X) → i < length xs → length (flat_map enc (take (i + 1) xs)) ≡ length (flat_map enc (take i xs)) + length (enc (get_or xs i d))
longer enc xs i d h = ap (λ l. length (flat_map enc l)) (take_more xs i d h) ∙ ap length (sym (flat_map_more enc [] (take i xs) (get_or xs i d))) ∙ length-append (flat_map enc (take i xs)) (enc (get_or xs i d))

-- records are as long together as they are one by one
pub joined_length : {X : Type 0} (enc : X → List ℕ) (xs : List X) → length (flat_map enc xs) ≡ sum_by (λ x. length (enc x)) xs
joined_length enc xs = length-flat_map enc xs

-- no more are taken than are asked for
pub front_short : {X : Type 0} (k : ℕ) (xs : List X) → length (take k xs) ≤ k
front_short k xs = omega (arith, length-take k xs)

field_short : (w v : ℕ) → length (field_of w v) ≤ w
field_short w v = ⊎_elim (λ e. rw e (omega arith)) (λ e. rw e (omega (arith, length_bytes_of w v))) (cases_Bool (v == 0))

-- a record is no longer than its map and all its fields
record_short : (ws vs : List ℕ) → length (body_of ws vs) ≤ sum_by (λ w. w) ws
record_short [] vs = omega arith
record_short (w ∷ ws) [] = omega arith
record_short (w ∷ ws) (v ∷ vs) = omega (arith, length-append (field_of w v) (body_of ws vs), field_short w v, record_short ws vs, sum_by-cons (λ w. w) w ws)

pub channels_short : (cs : List Channel) → length (flat_map encode_channel cs) ≤ 12 * length cs
channels_short [] = omega arith
channels_short (c ∷ cs) = omega (arith, length-append (encode_channel c) (flat_map encode_channel cs), record_short channel_widths (channel_values c), channels_short cs)

pub instructions_short : (is : List Instruction) → length (flat_map encode_instruction is) ≤ 12 * length is
instructions_short [] = omega arith
instructions_short (i ∷ is) = omega (arith, length-append (encode_instruction i) (flat_map encode_instruction is), record_short instruction_widths (instruction_values i), instructions_short is)
