use Rattle.std.proofs.Common.{◌≡◌, drop, vec_items}
use Rattle.text.specs.Hex.{decoded}
use Rattle.text.proofs.Hexes.{after, paired}
use Rattle.text.proofs.hex.decode.Given as goal

abbrev pub invariant-loop-high : goal.invariant-loop-high
invariant-loop-high l = after (vec_items l.bytes) (paired (drop l.high-index l.pairs) l.rest) ≡ decoded l.text
