use Rattle.std.proofs.Common.{◌≡◌, ◌+◌, ◌-◌, ◌<◌, ◌≤◌, length, get_or, ap, ◌∙◌, arith}
use Rattle.script.specs.declared.parts.Instruction.TheVariants.{Skip}
use Rattle.script.specs.Laws.{blank}
use Rattle.script.specs.Model.{model_of}
use Rattle.script.proofs.Held.{channels_held, instructions_held}
use Rattle.format.specs.Encoding.{encode_channel, encode_instruction, instruction_start}
use Rattle.reader.proofs.Cuts.{Cut, channel_found, instruction_found, cut_stands}
use Rattle.reader.proofs.split.split_record.Goals as goal
use Rattle.reader.proofs.split.split_record.Goals.{After-channel_range-range, After-instruction_range-range}

-- the channel's record
channel : (c : After-channel_range-range) → Cut c.args.file.now c.channel_range-range.result.start c.channel_range-range.result.end (encode_channel (get_or (model_of c.in_ok-script.script).channels c.args.index blank))
channel c = channel_found c.args.file.now c.in_ok-script.script c.args.index _ _ c.in_ok-script.ensures.reads c.if-index-script.true c.channel_range-range.ensures.from c.channel_range-range.ensures.next

-- the instruction's record
instruction : (c : After-instruction_range-range) → Cut c.args.file.now c.instruction_range-range.result.start c.instruction_range-range.result.end (encode_instruction (get_or (model_of c.in_ok-script.script).instructions (c.args.index - c.in_ok-script.script.channel_count) Skip))
instruction c = instruction_found c.args.file.now c.in_ok-script.script (c.args.index - c.in_ok-script.script.channel_count) _ _ c.in_ok-script.ensures.reads c.if-place-script.true c.instruction_range-range.ensures.from c.instruction_range-range.ensures.next

pub slice_bounds-result-count : goal.slice_bounds-result-count
slice_bounds-result-count c = (channel (goal.at.slice_bounds-result-count c).After-channel_range-range).forward

pub slice_bounds-result-start : goal.slice_bounds-result-start
slice_bounds-result-start c = omega (arith, (channel (goal.at.slice_bounds-result-start c).After-channel_range-range).forward)

pub slice_bounds-result-end : goal.slice_bounds-result-end
slice_bounds-result-end c = omega (arith, (channel (goal.at.slice_bounds-result-end c).After-channel_range-range).ends)

pub returns-then-index-script : goal.returns-then-index-script
returns-then-index-script c =
    let s = c.in_ok-script.script in
    let it = channel (goal.at.returns-then-index-script c).After-channel_range-range in
    let below : c.args.index < length (model_of s).channels = omega (arith, channels_held s, c.if-index-script.true) in
    (s, c.in_ok-script.ensures.reads, (below, c.channel_range-range.ensures.from, it.here, cut_stands _ _ _ _ it))

pub slice_bounds-result-count-then-place-script : goal.slice_bounds-result-count-then-place-script
slice_bounds-result-count-then-place-script c = (instruction (goal.at.slice_bounds-result-count-then-place-script c).After-instruction_range-range).forward

pub slice_bounds-result-start-then-place-script : goal.slice_bounds-result-start-then-place-script
slice_bounds-result-start-then-place-script c = omega (arith, (instruction (goal.at.slice_bounds-result-start-then-place-script c).After-instruction_range-range).forward)

pub slice_bounds-result-end-then-place-script : goal.slice_bounds-result-end-then-place-script
slice_bounds-result-end-then-place-script c = omega (arith, (instruction (goal.at.slice_bounds-result-end-then-place-script c).After-instruction_range-range).ends)

pub returns-then-place-script : goal.returns-then-place-script
returns-then-place-script c =
    let s = c.in_ok-script.script in
    let it = instruction (goal.at.returns-then-place-script c).After-instruction_range-range in
    let count = channels_held s in
    let place : c.args.index - s.channel_count ≡ c.args.index - length (model_of s).channels = omega arith in
    let past : length (model_of s).channels ≤ c.args.index = omega (arith, c.if-index-script.false) in
    let below : c.args.index < length (model_of s).channels + length (model_of s).instructions = omega (arith, instructions_held s, c.if-place-script.true, c.if-index-script.false) in (
      s,
      c.in_ok-script.ensures.reads,
      (
        past,
        below,
        c.instruction_range-range.ensures.from ∙ ap (instruction_start (model_of s)) place,
        it.here ∙ ap (λ k. encode_instruction (get_or (model_of s).instructions k Skip)) place,
        cut_stands _ _ _ _ it,
      ),
    )

pub returns : goal.returns
returns c =
    let s = c.in_ok-script.script in
    (s, c.in_ok-script.ensures.reads, omega (arith, channels_held s, instructions_held s, c.if-place-script.false, c.if-index-script.false))
