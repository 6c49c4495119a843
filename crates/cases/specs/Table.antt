-- The table of worked cases, told by the definitions that the contracts of the code use. Assumes nothing.
use Rattle.std.specs.Prelude.{◌≡◌, ℕ, List, [], ◌∷◌, ◌++◌, map, take, replicate, ℤ, pos, negsuc, Ok, Err, Result}
use Rattle.refusal.specs.Numbers.{number_of}
use Rattle.refusal.specs.declared.Refusal.TheVariants as why
use Rattle.refusal.specs.declared.Fault.{Fault}
use Rattle.refusal.specs.declared.Part.{Part}
use Rattle.refusal.specs.declared.Part.TheVariants as part
use Rattle.host.specs.Channels.{Channels}
use Rattle.regime.specs.Order.{Order}
use Rattle.script.specs.declared.accepted.Script.{Script}
use Rattle.script.specs.declared.parts.Direction.TheVariants.{In}
use Rattle.script.specs.declared.parts.Operation.TheVariants.{Add}
use Rattle.script.specs.declared.parts.Instruction.TheVariants.{Skip, Set, Jump, Input}
use Rattle.script.specs.Model.{Model, model_of}
use Rattle.format.specs.Refusals.{Reads, ReadsBack}
use Rattle.page.specs.declared.ladder.Ladder.{Ladder}
use Rattle.page.specs.declared.slots.SlotHost.{SlotHost}
use Rattle.page.specs.Ladder.{ladder}
use Rattle.page.specs.Laddered.{order_of}
use Rattle.page.specs.Slots.{channels_of, empty_channels}
use Rattle.class.specs.declared.compartments.Compartments.{Compartments}
use Rattle.class.specs.Compartments.{compartments}
use Rattle.class.specs.Marked.{order_of as compartment_order}
use Rattle.meaning.specs.Answers.{Call, feed, collect, ask, Answer, refused, fed, collected, told, in_numbers}
use Rattle.meaning.specs.Arithmetic.{least, quotient_of, remainder_of, result_of}
use Rattle.meaning.specs.Logs.{logged, reached}
use Rattle.meaning.specs.Programs.{Program, program}
use Rattle.meaning.specs.Promises.{sees}
use Rattle.meaning.specs.declared.answers.Status.TheVariants.{Ended}
use Rattle.meaning.specs.Visits.{Opening, framed, respond}
use Rattle.engine.specs.Views.{opening}
use Rattle.cases.specs.Lesson.{channel, file_f, lesson, nine_turns, calls_with, lesson_calls, lesson_turns, turns_about, log_with, lesson_numbers, low_sees}

-- Reading the file bs answers r: r keeps the reader's contract, and nothing else does.
pub record Reading (bs : List ℕ) (r : Result Script Fault) : Type 0 where
  pub reads : Reads bs r
  pub back : ReadsBack bs r
  pub only : (q : Result Script Fault) → Reads bs q → q ≡ r

-- The file is accepted, as a script that holds m.
abbrev pub Accepts : List ℕ → Model → Type 0
Accepts bs m = (s : Script) × Reading bs (Ok s) × (model_of s ≡ m)

-- It is refused with the number k at byte b, in the part p.
abbrev pub Refuses : List ℕ → ℕ → ℕ → Part → Type 0
Refuses bs k b p = (f : Fault) × Reading bs (Err f) × (number_of f.refusal ≡ k) × (f.byte ≡ b) × (f.part ≡ p)

-- Whole files and their answers.
pub record Files : Type 0 where
  -- no bytes: 1 at 0
  pub no_bytes : Refuses [] 1 0 part.Head
  -- 00: 2 at 0; no level
  pub no_level : Refuses (0 ∷ []) 2 0 part.Head
  -- 11: 2 at 0; 17 levels
  pub many_levels : Refuses (17 ∷ []) 2 0 part.Head
  -- 01: 1 at 1; byte 1 is missing
  pub levels_only : Refuses (1 ∷ []) 1 1 part.Head
  -- 01 11: 2 at 1; 17 channels
  pub many_channels : Refuses (1 ∷ 17 ∷ []) 2 1 part.Head
  -- 01 00: 1 at 2; m is missing
  pub head_only : Refuses (1 ∷ 0 ∷ []) 1 2 part.Count
  -- 01 00 00: 1 at 3; m is judged once both its bytes are there
  pub half_a_count : Refuses (1 ∷ 0 ∷ 0 ∷ []) 1 3 part.Count
  -- 01 00 00 00: 2 at 2; m is 0
  pub count_zero : Refuses (1 ∷ 0 ∷ 0 ∷ 0 ∷ []) 2 2 part.Count
  -- 01 00 01 01: 2 at 2; m is 257
  pub count_high : Refuses (1 ∷ 0 ∷ 1 ∷ 1 ∷ []) 2 2 part.Count
  -- 01 00 01 00: 1 at 4; the record is missing
  pub no_record : Refuses (1 ∷ 0 ∷ 1 ∷ 0 ∷ []) 1 4 (part.Instruction 0)
  -- 01 00 01 00 00: accepted: one level, no channel, one skip
  pub one_skip : Accepts (1 ∷ 0 ∷ 1 ∷ 0 ∷ 0 ∷ []) (record { levels = 1; channels = []; instructions = Skip ∷ [] })
  -- 01 00 01 00 80: 3 at 4; the map has a bit of no field
  pub odd_map : Refuses (1 ∷ 0 ∷ 1 ∷ 0 ∷ 128 ∷ []) 3 4 (part.Instruction 0)
  -- 01 00 01 00 83: 3 at 4; such bits are seen before missing fields
  pub odd_map_short : Refuses (1 ∷ 0 ∷ 1 ∷ 0 ∷ 131 ∷ []) 3 4 (part.Instruction 0)
  -- 01 00 01 00 01 00: 4 at 5; a field that is there is not 0
  pub zero_kind : Refuses (1 ∷ 0 ∷ 1 ∷ 0 ∷ 1 ∷ 0 ∷ []) 4 5 (part.Instruction 0)
  -- 01 00 01 00 03 00: 1 at 6; missing fields before zero fields
  pub missing_first : Refuses (1 ∷ 0 ∷ 1 ∷ 0 ∷ 3 ∷ 0 ∷ []) 1 6 (part.Instruction 0)
  -- 01 00 01 00 01 0A: 5 at 4; the absent channel is 0, and there is none
  pub no_channel : Refuses (1 ∷ 0 ∷ 1 ∷ 0 ∷ 1 ∷ 10 ∷ []) 5 4 (part.Instruction 0)
  -- 01 00 01 00 00 00: 6 at 5; a byte is left over
  pub more_after : Refuses (1 ∷ 0 ∷ 1 ∷ 0 ∷ 0 ∷ 0 ∷ []) 6 5 part.Tail
  -- 01 01 00 01 00 01 0A: accepted: in from channel 0 to register 0
  pub one_in : Accepts (1 ∷ 1 ∷ 0 ∷ 1 ∷ 0 ∷ 1 ∷ 10 ∷ []) (record { levels = 1; channels = channel In 0 ∷ []; instructions = Input 0 0 ∷ [] })
  -- 01 01 00 01 00 01 0B: 5 at 5; out, but channel 0 is in
  pub out_of_in : Refuses (1 ∷ 1 ∷ 0 ∷ 1 ∷ 0 ∷ 1 ∷ 11 ∷ []) 5 5 (part.Instruction 0)
  -- 02 01 04: 3 at 2; the map has a bit of no field
  pub odd_channel_map : Refuses (2 ∷ 1 ∷ 4 ∷ []) 3 2 (part.Channel 0)
  -- 02 01: 1 at 2; the record is missing
  pub no_channel_record : Refuses (2 ∷ 1 ∷ []) 1 2 (part.Channel 0)
  -- 02 01 03 02 00: 4 at 4; the zero level before the direction 2
  pub zero_level : Refuses (2 ∷ 1 ∷ 3 ∷ 2 ∷ 0 ∷ []) 4 4 (part.Channel 0)
  -- 02 01 03 02 05: 5 at 3; direction before level
  pub two_directions : Refuses (2 ∷ 1 ∷ 3 ∷ 2 ∷ 5 ∷ []) 5 3 (part.Channel 0)
  -- 02 01 02 02: 5 at 3; level 2 of 2 levels
  pub level_high : Refuses (2 ∷ 1 ∷ 2 ∷ 2 ∷ []) 5 3 (part.Channel 0)
  -- F with its last byte 01: 5 at 26; channel 1 is no out channel
  pub out_of_channel_one : Refuses (take 26 file_f ++ 1 ∷ []) 5 26 (part.Instruction 3)

-- A file of one level, no channel and one instruction: the bytes are its record, so its map is byte 4.
abbrev pub alone : List ℕ → List ℕ
alone bs = 1 ∷ 0 ∷ 1 ∷ 0 ∷ bs

-- Files of one instruction and their answers.
pub record Instructions : Type 0 where
  -- 03 0D 00: 4 at 6; a zero field before a bad kind
  pub zero_before_kind : Refuses (alone (3 ∷ 13 ∷ 0 ∷ [])) 4 6 (part.Instruction 0)
  -- 01 0D: 5 at 5; kind 13
  pub bad_kind : Refuses (alone (1 ∷ 13 ∷ [])) 5 5 (part.Instruction 0)
  -- 05 0D 10: 5 at 5; kind before the other ranges
  pub kind_before_ranges : Refuses (alone (5 ∷ 13 ∷ 16 ∷ [])) 5 5 (part.Instruction 0)
  -- 07 0A 10 10: 3 at 4; a field that the kind lacks before a bad register
  pub unused_before_ranges : Refuses (alone (7 ∷ 10 ∷ 16 ∷ 16 ∷ [])) 3 4 (part.Instruction 0)
  -- 02 01: 3 at 4; skip has no target
  pub skip_with_target : Refuses (alone (2 ∷ 1 ∷ [])) 3 4 (part.Instruction 0)
  -- 03 01 10: 5 at 6; register 16
  pub register_16 : Refuses (alone (3 ∷ 1 ∷ 16 ∷ [])) 5 6 (part.Instruction 0)
  -- 11 01 00 00 00 00: 4 at 6; the number is there and 0
  pub set_zero : Refuses (alone (17 ∷ 1 ∷ 0 ∷ 0 ∷ 0 ∷ 0 ∷ [])) 4 6 (part.Instruction 0)
  -- 11 01 FF FF FF FF: accepted: set register 0 to -1
  pub set_minus_one : Accepts (alone (17 ∷ 1 ∷ 255 ∷ 255 ∷ 255 ∷ 255 ∷ [])) (record { levels = 1; channels = []; instructions = Set 0 (negsuc 0) ∷ [] })
  -- 21 09 01 00: accepted: a place may be m
  pub jump_to_end : Accepts (alone (33 ∷ 9 ∷ 1 ∷ 0 ∷ [])) (record { levels = 1; channels = []; instructions = Jump 0 1 ∷ [] })
  -- 21 09 02 00: 5 at 6; place 2 of 1 instruction
  pub jump_past : Refuses (alone (33 ∷ 9 ∷ 2 ∷ 0 ∷ [])) 5 6 (part.Instruction 0)
  -- 21 09 00 00: 4 at 6; place 0 has to be absent
  pub jump_to_zero : Refuses (alone (33 ∷ 9 ∷ 0 ∷ 0 ∷ [])) 4 6 (part.Instruction 0)
  -- 25 09 10 02 00: 5 at 6; first before place
  pub first_before_place : Refuses (alone (37 ∷ 9 ∷ 16 ∷ 2 ∷ 0 ∷ [])) 5 6 (part.Instruction 0)

-- What a call answers after other calls, in a visit that is opened with o.
abbrev pub answer : Opening → List Call → Call → Answer
answer o calls x = (respond (framed o) (reached o calls) x).1

-- A visit that is opened with o is called as in the lesson.
pub record Taught (o : Opening) : Type 0 where
  -- the calls and their answers, one by one and all of them, and the answers in numbers
  pub log : logged o lesson_calls ≡ log_with lesson_turns
  pub numbers : map (λ e. in_numbers e.1) (logged o lesson_calls) ≡ lesson_numbers
  -- then the in channels are empty, channel 2 holds 0 and channel 3 holds 5
  pub in_low : (reached o lesson_calls).lists 0 ≡ []
  pub in_high : (reached o lesson_calls).lists 1 ≡ []
  pub out_low : (reached o lesson_calls).lists 2 ≡ pos 0 ∷ []
  pub out_high : (reached o lesson_calls).lists 3 ≡ pos 5 ∷ []
  -- and a collect answers what is held
  pub collects_low : answer o lesson_calls (collect 2) ≡ collected (pos 0)
  pub collects_high : answer o lesson_calls (collect 3) ≡ collected (pos 5)
  -- each copy has ended after four steps of its own
  pub asks_low : answer o lesson_calls (ask 0) ≡ told (record { status = Ended; steps = 4 })
  pub asks_high : answer o lesson_calls (ask 1) ≡ told (record { status = Ended; steps = 4 })
  -- level 0 sees the same whatever is fed to channel 1, and if nothing is
  pub sees_any : (v : ℤ) → sees 0 o (calls_with v) ≡ low_sees
  pub sees_less : sees 0 o (feed 0 (pos 5) ∷ nine_turns) ≡ low_sees
  -- feed to channel 4 is 10, to channel 2 it is 11; collect from channel 0 is 11; a question about level 2 is 12
  pub no_channel : (v : ℤ) → answer o lesson_calls (feed 4 v) ≡ refused why.Channel
  pub feeds_out : (v : ℤ) → answer o lesson_calls (feed 2 v) ≡ refused why.Direction
  pub collects_in : answer o lesson_calls (collect 0) ≡ refused why.Direction
  pub no_level : answer o lesson_calls (ask 2) ≡ refused why.Level
  -- the 33rd feed to a channel from which nothing was taken is 14, and a collect where nothing is held is 15
  pub full : (v : ℤ) → answer o (replicate 32 (feed 0 v)) (feed 0 v) ≡ refused why.Full
  pub not_full : (v : ℤ) → answer o (replicate 31 (feed 0 v)) (feed 0 v) ≡ fed
  pub empty : answer o [] (collect 2) ≡ refused why.Empty

-- A program of 2 levels and 4 channels with a regime or a host that does not suit it, after whatever calls.
pub record Misfit (p : Program) : Type 0 where
  -- a regime of 3 levels: every call is 8
  pub levels : (r : Order) (h : Channels) (calls : List Call) (x : Call) → r.size ≡ 3 → answer (record { script = p; order = r; host = h }) calls x ≡ refused why.Levels
  -- a regime of 2 levels and a host of 3 channels: every call is 9
  pub channels : (r : Order) (h : Channels) (calls : List Call) (x : Call) → r.size ≡ 2 → h.count ≡ 3 → answer (record { script = p; order = r; host = h }) calls x ≡ refused why.Channels

-- From the bytes of F to the answers: F is read as one script, which holds what is written out, and a visit of that
-- script, on a ladder of 2 and over a slot host that begins empty, goes as in the lesson.
pub record FromBytesToAnswers : Type 0 where
  pub script : Script
  pub reading : Reading file_f (Ok script)
  pub holds : model_of script ≡ lesson
  pub visit : (l : Ladder) (h : SlotHost) → order_of l ≡ ladder 2 → channels_of h ≡ empty_channels → Taught (opening script (order_of l) (channels_of h))
  -- over compartments with one mark the same calls move 0 and 1 in turn
  pub in_turn : (c : Compartments) (h : SlotHost) → compartment_order c ≡ compartments 1 → channels_of h ≡ empty_channels → logged (opening script (compartment_order c) (channels_of h)) lesson_calls ≡ log_with turns_about
  pub misfit : Misfit (program script)

-- Arithmetic.
pub record Arithmetic : Type 0 where
  -- -7 by 2: the quotient is -3, and the remainder -1
  pub minus_seven_by_two : (quotient_of (negsuc 6) (pos 2) ≡ negsuc 2) × (remainder_of (negsuc 6) (pos 2) ≡ negsuc 0)
  -- 7 by -2: -3, and 1
  pub seven_by_minus_two : (quotient_of (pos 7) (negsuc 1) ≡ negsuc 2) × (remainder_of (pos 7) (negsuc 1) ≡ pos 1)
  -- anything by 0: 0, and itself
  pub by_zero : (a : ℤ) → (quotient_of a (pos 0) ≡ pos 0) × (remainder_of a (pos 0) ≡ a)
  -- the least value by -1: itself, and 0
  pub least_by_minus_one : (quotient_of least (negsuc 0) ≡ least) × (remainder_of least (negsuc 0) ≡ pos 0)
  -- 2147483647 + 1 is the least value
  pub wraps : result_of Add (pos 2147483647) (pos 1) ≡ least
