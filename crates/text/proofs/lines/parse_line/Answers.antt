use Rattle.std.proofs.Common.{refl, rules}
use Rattle.text.specs.Lines.{Answers}
use Rattle.text.specs.Words.{left, words_of}
use Rattle.text.proofs.Parsing.{line_is}
use Rattle.text.proofs.lines.parse_line.Goals as goal

pub returns-in_err-command : goal.returns-in_err-command
returns-in_err-command g c =
    line_is (Answers g.F.FnOnce c.args.read) (words_of c.args.line.now) (left c.next_word.new.self) (left c.read.new.arg3) c.in-Some.name.now c.read.result _ (search rules) (search rules)
    (record { shown = _; given = _; back = _; met = c.read.ensures; named = refl; before = refl; after = refl }) (search rules)

pub returns-in_err-end : goal.returns-in_err-end
returns-in_err-end g c =
    line_is (Answers g.F.FnOnce c.args.read) (words_of c.args.line.now) (left c.next_word.new.self) (left c.read.new.arg3) c.in-Some.name.now c.read.result _ (search rules) (search rules)
    (record { shown = _; given = _; back = _; met = c.read.ensures; named = refl; before = refl; after = refl }) (search rules)

pub returns : goal.returns
returns g c =
    line_is (Answers g.F.FnOnce c.args.read) (words_of c.args.line.now) (left c.next_word.new.self) (left c.read.new.arg3) c.in-Some.name.now c.read.result _ (search rules) (search rules)
    (record { shown = _; given = _; back = _; met = c.read.ensures; named = refl; before = refl; after = refl }) (search rules)
