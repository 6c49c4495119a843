use Rattle.std.proofs.Common.{◌≡◌, map, drop}
use Rattle.format.specs.Rules.{broken, not_zero}
use Rattle.field.proofs.check_zeros.Given as goal

-- the fields from here on decide
abbrev pub invariant-loop-field : goal.invariant-loop-field
invariant-loop-field l = broken (map (not_zero l.site) l.fields) ≡ broken (map (not_zero l.site) (drop l.field-index l.fields))
