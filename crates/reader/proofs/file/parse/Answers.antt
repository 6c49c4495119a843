use Rattle.std.proofs.Common.{◌≡◌, ◌<◌, ◌≤◌, ◌++◌, length, drop, replicate, Err, sym, ap, ◌∙◌, arith}
use Rattle.std.proofs.ByRecursion.{All-from_get_or}
use Rattle.std.proofs.lemmas.List.{length-take-le}
use Rattle.std.proofs.lemmas.Result.{err_from_is_err_and}
use Rattle.script.specs.declared.parts.Instruction.TheVariants.{Skip}
use Rattle.script.specs.Laws.{blank}
use Rattle.reader.proofs.Tables.{Table, filled}
use Rattle.reader.proofs.Whole.{AtCount, AtInstructions, at_count, count_stops, at_instructions, AtTail, stops, at_tail, ends, has_tail, in_tables, lawful}
use Rattle.reader.proofs.file.parse.Goals as goal
use Rattle.reader.proofs.file.parse.Goals.{In_ok-count, In_ok-unread, In_ok-unread-2}

few : (c : In_ok-unread) → c.from-channel_count.result ≤ 16
few c = omega (arith, c.in_ok-c.ensures.bounds, c.from-channel_count.ensures)

-- the channels' table
channel_table : (c : In_ok-unread) → Table 16 blank c.from-channel_count.result c.read_records.new.table (c.read_records.new.table ++ drop c.from-channel_count.result (replicate 16 blank))
channel_table c =
    let used = length-take-le c.from-channel_count.result (replicate 16 blank) (few c) in
    let long : length c.read_records.new.table ≡ c.from-channel_count.result = c.read_records.auto.table ∙ used in
    filled 16 blank c.from-channel_count.result c.read_records.new.table long (few c)

-- what is read before the count
channels_read : (c : In_ok-unread) → AtCount c.args.bytes.now c.in_ok-levels.levels c.read_records.new.table c.in_ok-unread.unread
channels_read c =
    let used = length-take-le c.from-channel_count.result (replicate 16 blank) (few c) in
    at_count c.args.bytes.now c.in_ok-levels.levels c.in_ok-levels.unread c.in_ok-c.c c.in_ok-c.unread _ c.read_records.new.table c.in_ok-unread.unread c.in_ok-levels.ensures.gives c.in_ok-c.ensures.gives c.in_ok-unread.ensures (used ∙ c.from-channel_count.ensures)

-- what is read before the instructions
count_read : (c : In_ok-count) → AtCount c.args.bytes.now c.in_ok-levels.levels c.read_records.new.table c.in_ok-unread.unread → AtInstructions c.args.bytes.now c.in_ok-levels.levels c.read_records.new.table c.in_ok-count.count c.in_ok-count.unread
count_read c a = at_instructions a c.in_ok-count.count c.in_ok-count.unread c.in_ok-count.ensures.gives

many : (c : In_ok-unread-2) → c.from-instruction_count.result ≤ 256
many c = omega (arith, c.in_ok-count.ensures.bounds, c.from-instruction_count.ensures)

-- the instructions' table
instruction_table : (c : In_ok-unread-2) → c.from-instruction_count.result ≤ 256 → Table 256 Skip c.from-instruction_count.result c.read_records-2.new.table (c.read_records-2.new.table ++ drop c.from-instruction_count.result (replicate 256 Skip))
instruction_table c le =
    let m = c.from-instruction_count.result in
    let long : length c.read_records-2.new.table ≡ m = c.read_records-2.auto.table ∙ length-take-le m (replicate 256 Skip) le in
    filled 256 Skip m c.read_records-2.new.table long le

-- what is read before the tail
all_read : (c : In_ok-unread-2) → AtInstructions c.args.bytes.now c.in_ok-levels.levels c.read_records.new.table c.in_ok-count.count c.in_ok-count.unread → Table 16 blank c.from-channel_count.result c.read_records.new.table (c.read_records.new.table ++ drop c.from-channel_count.result (replicate 16 blank)) → c.from-instruction_count.result ≤ 256 → AtTail c.args.bytes.now (record { levels = c.in_ok-levels.levels; channels = c.read_records.new.table; instructions = c.read_records-2.new.table }) c.in_ok-unread-2.unread
all_read c a t le = at_tail a _ _ c.read_records-2.new.table c.in_ok-unread-2.unread t.front (length-take-le c.from-instruction_count.result (replicate 256 Skip) le ∙ c.from-instruction_count.ensures) c.in_ok-unread-2.ensures

pub returns-in_err-count : goal.returns-in_err-count
returns-in_err-count c =
    let p = err_from_is_err_and c.from_residual-in_err-count.result c.from_residual-in_err-count.ensures.1 in
    rw (p.1, p.2) (count_stops (channels_read (goal.at.returns-in_err-count c).In_ok-unread) _ c.in_err-count.ensures.gives)

pub returns-in_err-unread-2 : goal.returns-in_err-unread-2
returns-in_err-unread-2 c =
    let p = err_from_is_err_and c.from_residual-in_err-unread-2.result c.from_residual-in_err-unread-2.ensures.1 in
    let at = goal.at.returns-in_err-unread-2 c in
    let a = count_read at.In_ok-count (channels_read at.In_ok-unread) in
    let many : c.from-instruction_count.result ≤ 256 = omega (arith, c.in_ok-count.ensures.bounds, c.from-instruction_count.ensures) in
    let used = length-take-le c.from-instruction_count.result (replicate 256 Skip) many ∙ c.from-instruction_count.ensures in
    rw (p.1, p.2) (stops a _ _ _ (channel_table at.In_ok-unread).front used c.in_err-unread-2.ensures)

pub returns-then-not-is_empty : goal.returns-then-not-is_empty
returns-then-not-is_empty c =
    let at = goal.at.returns-then-not-is_empty c in
    let a = count_read at.In_ok-count (channels_read at.In_ok-unread) in
    let t = all_read at.In_ok-unread-2 a (channel_table at.In_ok-unread) (many at.In_ok-unread-2) in
    has_tail t (sym c.if-not-is_empty.ensures) ∙ ap Err (sym c.wrong.ensures)

pub returns : goal.returns
returns c =
    let at = goal.at.returns c in
    let a = count_read at.In_ok-count (channels_read at.In_ok-unread) in
    let front = channel_table at.In_ok-unread in
    let le = many at.In_ok-unread-2 in
    in_tables c.args.bytes.now front (instruction_table at.In_ok-unread-2 le) (ends (all_read at.In_ok-unread-2 a front le) (sym c.if-not-is_empty.ensures))

pub invariant_of-result : goal.invariant_of-result
invariant_of-result c =
    let at = goal.at.invariant_of-result c in
    let a = count_read at.In_ok-count (channels_read at.In_ok-unread) in
    let front = channel_table at.In_ok-unread in
    let le = many at.In_ok-unread-2 in
    let back = instruction_table at.In_ok-unread-2 le in
    let whole = in_tables c.args.bytes.now front back (ends (all_read at.In_ok-unread-2 a front le) (sym c.if-not-is_empty.ensures)) in
    let bytes = All-from_get_or (λ b. b < 256) c.args.bytes.now 0 (λ i _. (c.type_inv.bytes i).fits) in
    let l = lawful c.args.bytes.now c.in_ok-levels.levels c.from-channel_count.result _ c.from-instruction_count.result _ bytes (omega (arith, front.size, few at.In_ok-unread)) (omega (arith, back.size, le)) whole in
    record { headed = l.headed; counted = l.counted; below = l.below; sound = l.sound; tables = (front.size, back.size); unused_channels = front.unused; unused_instructions = back.unused }
