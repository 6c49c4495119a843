use Rattle.text.specs.Arguments.{row_of}
use Rattle.text.proofs.words.Words.rows.Given as goal

abbrev pub ghost-entries : goal.ghost-entries
ghost-entries a = row_of
