use Rattle.text.specs.Arguments.{capacity_of}
use Rattle.text.proofs.words.Words.capacity_table.Given as goal

abbrev pub ghost-entries : goal.ghost-entries
ghost-entries a = capacity_of
