use Rattle.std.proofs.Common.{◌≡◌, ◌++◌, List, map, None, Ok, Err, Result, ◌∙◌}
use Rattle.std.proofs.lemmas.Result.{err_from_is_err_and}
use Rattle.refusal.specs.declared.Fault.{Fault}
use Rattle.format.specs.Rules.{Rule, broken, not_zero, instruction_rules, kind_rules, range_rules}
use Rattle.format.proofs.Steps.{broken_stops, broken_append}
use Rattle.field.specs.Outcomes.{Keeps}
use Rattle.record_reader.specs.Listed.{listed}
use Rattle.record_reader.proofs.instruction.InstructionReader.check_instruction.Goals as goal
use Rattle.record_reader.proofs.instruction.InstructionReader.check_instruction.Goals.{In_ok-check_zeros}

-- no field is 0, so the record's own rules decide
past_zeros : (c : In_ok-check_zeros) →
    let s = c.args.site in
    let fs = listed c.args.f in
    let own = instruction_rules c.args.self.channels.now c.args.self.count s fs in
    broken (map (not_zero s) fs ++ own) ≡ broken own
past_zeros c =
    let s = c.args.site in
    let fs = listed c.args.f in
    let clean : broken (map (not_zero s) fs) ≡ None = rw c.listed.ensures at c.in_ok-check_zeros.ensures in
    broken_append (map (not_zero s) fs) (instruction_rules c.args.self.channels.now c.args.self.count s fs) clean

pub returns-in_err-check_zeros-clause-keeps : goal.returns-in_err-check_zeros-clause-keeps
returns-in_err-check_zeros-clause-keeps c =
    let p = err_from_is_err_and c.from_residual.result c.from_residual.ensures.1 in
    let s = c.args.site in
    let fs = listed c.args.f in
    let stop = rw c.listed.ensures at c.in_err-check_zeros.ensures in
    rw (p.1, p.2) (broken_stops (map (not_zero s) fs) (instruction_rules c.args.self.channels.now c.args.self.count s fs) _ stop)

pub returns-in_err-kind-clause-keeps : goal.returns-in_err-kind-clause-keeps
returns-in_err-kind-clause-keeps c =
    let p = err_from_is_err_and c.from_residual-in_err-kind.result c.from_residual-in_err-kind.ensures.1 in
    let s = c.args.site in
    let fs = listed c.args.f in
    let on = past_zeros (goal.at.returns-in_err-kind-clause-keeps c).In_ok-check_zeros in
    rw (p.1, p.2) (on ∙ broken_stops (kind_rules s fs) (range_rules c.args.self.channels.now c.args.self.count s fs) _ c.in_err-kind.ensures.keeps)

-- lists of rules whose first broken rule is one
decided : {X : Type 0} (rs ss : List Rule) (r : Result X Fault) → broken rs ≡ broken ss → Keeps ss r → Keeps rs r
decided rs ss (Ok x) e h = e ∙ h
decided rs ss (Err f) e h = e ∙ h

pub returns-clause-keeps : goal.returns-clause-keeps
returns-clause-keeps c =
    let s = c.args.site in
    let fs = listed c.args.f in
    let ranges = range_rules c.args.self.channels.now c.args.self.count s fs in
    let on = past_zeros (goal.at.returns-clause-keeps c).In_ok-check_zeros in
    let known = broken_append (kind_rules s fs) ranges c.in_ok-kind.ensures.keeps in
    decided (map (not_zero s) fs ++ instruction_rules c.args.self.channels.now c.args.self.count s fs) ranges c.check_ranges.result (on ∙ known) c.check_ranges.ensures.keeps
