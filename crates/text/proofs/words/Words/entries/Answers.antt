use Rattle.std.proofs.Common.{sym, inr, arith}
use Rattle.std.proofs.lemmas.Result.{err_from_is_err_and}
use Rattle.text.proofs.Rows.{more, stop, short}
use Rattle.text.proofs.words.Words.entries.Goals as goal

pub loop-i-preserved : goal.loop-i-preserved
loop-i-preserved g c = more g.f _ c.loop-i.i c.loop-i.entries _ c.in-Some.word.now _ c.in_ok-entries.field-0 (omega arith) c.in-Some.ensures (sym (c.requires.1.1 _ _ c.in_ok-entries.ensures)) c.loop-i.invariant

pub returns-in_default : goal.returns-in_default
returns-in_default g c = short g.f _ c.loop-i.i c.loop-i.entries _ _ (omega arith) c.in_default.ensures.0 c.in_default.ensures.1 c.loop-i.invariant

pub returns-in_err-entries : goal.returns-in_err-entries
returns-in_err-entries g c =
    let p = err_from_is_err_and c.from_residual.result c.from_residual.ensures.1 in
    rw (p.1, p.2) (inr (stop g.f _ c.loop-i.i c.loop-i.entries _ c.in-Some.word.now _ _ (omega arith) c.in-Some.ensures (sym (c.requires.1.1 _ _ c.in_err-entries.ensures)) c.loop-i.invariant))
