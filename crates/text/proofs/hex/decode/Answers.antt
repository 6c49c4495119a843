use Rattle.std.proofs.Common.{vec_items, rules}
use Rattle.text.specs.Hex.{decoded}
use Rattle.text.proofs.Hexes.{begins, more}
use Rattle.text.proofs.hex.decode.Goals as goal

pub loop-high-init : goal.loop-high-init
loop-high-init c = begins c.args.text.now c.as_chunks.result.1.now (vec_items c.new-bytes.result) c.as_chunks.result.0.now c.new-bytes.ensures.items c.as_chunks.ensures.front c.as_chunks.ensures.back

pub loop-high-preserved : goal.loop-high-preserved
loop-high-preserved c = more c.as_chunks.result.0.now c.as_chunks.result.1.now (vec_items c.loop-high.bytes) c.loop-high.high-index (decoded c.args.text.now) c.loop-high.invariant (vec_items c.push.new.self) c.in_ok-ok_or.field-0 (search rules) (search rules) c.in_ok-push.ensures.items
