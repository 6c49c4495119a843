-- The one file of a script. Assumes nothing.
use Rattle.std.specs.Prelude.{ℕ, ◌+◌, ◌*◌, cond, List, [], ◌∷◌, ◌++◌, length, take, ◌==◌}
use Rattle.std.proofs.Common.{of_z}
use Rattle.std.specs.Int.{w32}
use Rattle.std.specs.List.{flat_map}
use Rattle.script.specs.declared.parts.Channel.{Channel}
use Rattle.script.specs.declared.parts.Instruction.{Instruction}
use Rattle.script.specs.declared.parts.Fields.{Fields}
use Rattle.script.specs.declared.accepted.Script.{Script}
use Rattle.script.specs.Kinds.{code_of, fields_of}
use Rattle.script.specs.Model.{Model, model_of}
use Rattle.format.specs.Numbers.{bytes_of}

-- a map has a bit for each field that is not 0, the first field's lowest
abbrev pub map_of : List ℕ → ℕ
map_of [] = 0
map_of (v ∷ vs) = cond (v == 0) 0 1 + 2 * map_of vs

-- a field of w bytes; one that is 0 is not written
abbrev pub field_of : ℕ → ℕ → List ℕ
field_of w v = cond (v == 0) [] (bytes_of w v)

-- the fields with the values vs, of the widths ws; the shorter list ends it
abbrev pub body_of : List ℕ → List ℕ → List ℕ
body_of [] vs = []
body_of (w ∷ ws) [] = []
body_of (w ∷ ws) (v ∷ vs) = field_of w v ++ body_of ws vs

-- a record: its map, then its fields
abbrev pub record_of : List ℕ → List ℕ → List ℕ
record_of ws vs = map_of vs ∷ body_of ws vs

-- how wide the fields of a channel are: direction and level, a byte each
abbrev pub channel_widths : List ℕ
channel_widths = 1 ∷ 1 ∷ []

-- the numbers in the two fields of a channel
abbrev pub channel_values : Channel → List ℕ
channel_values c = code_of c.direction ∷ c.level ∷ []

-- the record of a channel in a file
abbrev pub encode_channel : Channel → List ℕ
encode_channel c = record_of channel_widths (channel_values c)

-- how wide the fields of an instruction are: kind, target, first, second, number, place and channel
abbrev pub instruction_widths : List ℕ
instruction_widths = 1 ∷ 1 ∷ 1 ∷ 1 ∷ 4 ∷ 2 ∷ 1 ∷ []

-- the numbers in the seven fields; the number itself as its 32 bits, in two's complement
abbrev pub field_values : Fields → List ℕ
field_values f = f.kind ∷ f.target ∷ f.first ∷ f.second ∷ of_z w32 f.number ∷ f.place ∷ f.channel ∷ []

-- the numbers in the seven fields of an instruction: 0 in each that its kind does not use
abbrev pub instruction_values : Instruction → List ℕ
instruction_values i = field_values (fields_of i)

-- the record of an instruction in a file
abbrev pub encode_instruction : Instruction → List ℕ
encode_instruction i = record_of instruction_widths (instruction_values i)

-- the file of a model: n, c, the channels, m in two bytes, and the instructions
abbrev pub encode_model : Model → List ℕ
encode_model s =
    s.levels
    ∷ length s.channels
    ∷ (flat_map encode_channel s.channels
    ++ (bytes_of 2 (length s.instructions) ++ flat_map encode_instruction s.instructions))

-- the file of a script
abbrev pub encode : Script → List ℕ
encode s = encode_model (model_of s)

-- the byte that the record of channel k begins at; for k from c on, the byte after all channels
abbrev pub channel_start : Model → ℕ → ℕ
channel_start s k = 2 + length (flat_map encode_channel (take k s.channels))

-- the byte that the record of instruction k begins at; for k from m on, the file's length
abbrev pub instruction_start : Model → ℕ → ℕ
instruction_start s k = 4 + length (flat_map encode_channel s.channels) + length (flat_map encode_instruction (take k s.instructions))
