-- Where the records of a file stand. Assumes nothing.
use Rattle.std.proofs.Common.{◌≡◌, ℕ, zero, suc, ◌+◌, ◌-◌, ◌<◌, ◌≤◌, List, [], ◌∷◌, ◌++◌, length, get_or, take, drop, sym, refl, ap, ◌∙◌, subst, append_assoc, arith, length-append}
use Rattle.std.specs.List.{flat_map}
use Rattle.std.proofs.lemmas.List.{take_at, drop_at}
use Rattle.script.specs.declared.parts.Instruction.TheVariants.{Skip}
use Rattle.script.specs.Laws.{blank}
use Rattle.script.specs.Model.{Model, model_of}
use Rattle.script.specs.declared.accepted.Script.{Script}
use Rattle.script.proofs.Held.{channels_held, instructions_held}
use Rattle.format.specs.Numbers.{bytes_of}
use Rattle.format.specs.Encoding.{encode_model, encode, encode_channel, encode_instruction, channel_start, instruction_start}
use Rattle.reader.specs.Split.{Stands}
use Rattle.record_writer.proofs.Lengths.{longer}

-- the records before k, record k, and the rest
joined_at : {X : Type 0} (enc : X → List ℕ) (xs : List X) (k : ℕ) (d : X) → k < length xs → (rest : List ℕ) × (flat_map enc xs ≡ flat_map enc (take k xs) ++ (enc (get_or xs k d) ++ rest))
joined_at enc [] k d h = absurd (omega arith)
joined_at enc (x ∷ xs) zero d h = (flat_map enc xs, refl)
joined_at enc (x ∷ xs) (suc k) d h =
    let ih = joined_at enc xs k d (omega arith) in
    (ih.0, ap (λ l. enc x ++ l) ih.1 ∙ sym (append_assoc (enc x) (flat_map enc (take k xs)) _))

-- the bytes of a file from one place to another
pub record Cut (file : List ℕ) (from to : ℕ) (bytes : List ℕ) : Type 0 where
  pub ends : to ≤ length file
  pub forward : from ≤ to
  pub size : to - from ≡ length bytes
  pub here : take (to - from) (drop from file) ≡ bytes

cut_at : (file front bytes rest : List ℕ) (from to : ℕ) → file ≡ front ++ (bytes ++ rest) → from ≡ length front → to ≡ from + length bytes → Cut file from to bytes
cut_at file front bytes rest from to e ef et =
    let size : to - from ≡ length bytes = omega arith in
    record {
      ends = omega (arith, ap length e, length-append front (bytes ++ rest), length-append bytes rest);
      forward = omega arith;
      size = size;
      here = ap (λ l. take (to - from) (drop from l)) e ∙ ap (take (to - from)) (drop_at front (bytes ++ rest) from (sym ef)) ∙ take_at bytes rest (to - from) (sym size);
    }

-- record k of the channels
pub channel_cut : (file : List ℕ) (s : Model) (k : ℕ) → encode_model s ≡ file → k < length s.channels → Cut file (channel_start s k) (channel_start s (k + 1)) (encode_channel (get_or s.channels k blank))
channel_cut file s k e lt =
    let at = joined_at encode_channel s.channels k blank lt in
    let a = flat_map encode_channel (take k s.channels) in
    let b = encode_channel (get_or s.channels k blank) in
    let later = bytes_of 2 (length s.instructions) ++ flat_map encode_instruction s.instructions in
    let front = s.levels ∷ length s.channels ∷ a in
    let whole : file ≡ front ++ (b ++ (at.0 ++ later)) =
    sym e
    ∙ ap (λ l. s.levels ∷ length s.channels ∷ (l ++ later)) at.1
    ∙ ap (λ l. s.levels ∷ length s.channels ∷ l) (append_assoc a (b ++ at.0) later ∙ ap (λ l. a ++ l) (append_assoc b at.0 later)) in
    cut_at file front b (at.0 ++ later) _ _ whole (omega arith) (omega (arith, longer encode_channel s.channels k blank lt))

-- record k of the instructions
pub instruction_cut : (file : List ℕ) (s : Model) (k : ℕ) → encode_model s ≡ file → k < length s.instructions → Cut file (instruction_start s k) (instruction_start s (k + 1)) (encode_instruction (get_or s.instructions k Skip))
instruction_cut file s k e lt =
    let at = joined_at encode_instruction s.instructions k Skip lt in
    let a = flat_map encode_instruction (take k s.instructions) in
    let b = encode_instruction (get_or s.instructions k Skip) in
    let cs = flat_map encode_channel s.channels in
    let m = bytes_of 2 (length s.instructions) in
    let front = s.levels ∷ length s.channels ∷ (cs ++ (m ++ a)) in
    let join : cs ++ (m ++ (a ++ (b ++ at.0))) ≡ (cs ++ (m ++ a)) ++ (b ++ at.0) =
    ap (λ l. cs ++ l) (sym (append_assoc m a (b ++ at.0))) ∙ sym (append_assoc cs (m ++ a) (b ++ at.0)) in
    let whole : file ≡ front ++ (b ++ at.0) =
    sym e
    ∙ ap (λ l. s.levels ∷ length s.channels ∷ (cs ++ (m ++ l))) at.1
    ∙ ap (λ l. s.levels ∷ length s.channels ∷ l) join in
    let size : length front ≡ 4 + length cs + length a = omega (arith, length-append cs (m ++ a), length-append m a) in
    cut_at file front b at.0 _ _ whole (omega arith) (omega (arith, longer encode_instruction s.instructions k Skip lt))

-- a cut's bytes stand where it begins
pub cut_stands : (file : List ℕ) (from to : ℕ) (bytes : List ℕ) → Cut file from to bytes → Stands file from (take (to - from) (drop from file))
cut_stands file from to bytes c = ap (λ n. take n (drop from file)) (ap length c.here ∙ sym c.size)

-- the same, where the places are worked out by calls
pub channel_found : (file : List ℕ) (s : Script) (k from to : ℕ) → encode s ≡ file → k < s.channel_count → from ≡ channel_start (model_of s) k → to ≡ channel_start (model_of s) (k + 1) → Cut file from to (encode_channel (get_or (model_of s).channels k blank))
channel_found file s k from to e lt ef et =
    subst (λ p. Cut file p to (encode_channel (get_or (model_of s).channels k blank))) (sym ef)
    (subst (λ q. Cut file (channel_start (model_of s) k) q (encode_channel (get_or (model_of s).channels k blank))) (sym et) (channel_cut file (model_of s) k e (omega (arith, channels_held s))))

pub instruction_found : (file : List ℕ) (s : Script) (k from to : ℕ) → encode s ≡ file → k < s.instruction_count → from ≡ instruction_start (model_of s) k → to ≡ instruction_start (model_of s) (k + 1) → Cut file from to (encode_instruction (get_or (model_of s).instructions k Skip))
instruction_found file s k from to e lt ef et =
    subst (λ p. Cut file p to (encode_instruction (get_or (model_of s).instructions k Skip))) (sym ef)
    (subst (λ q. Cut file (instruction_start (model_of s) k) q (encode_instruction (get_or (model_of s).instructions k Skip))) (sym et) (instruction_cut file (model_of s) k e (omega (arith, instructions_held s))))
