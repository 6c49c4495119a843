use Rattle.std.proofs.Common.{vec_items}
use Rattle.text.proofs.Given.{list_taken}
use Rattle.text.specs.Words.{left}
use Rattle.text.proofs.words.Words.capacities.Goals as goal

pub returns : goal.returns
returns c = list_taken vec_items (left c.args.self.now) (left c.capacity_table.new.self) c.capacity_table.result c.list_of.result c.capacity_table.ensures c.list_of.ensures
