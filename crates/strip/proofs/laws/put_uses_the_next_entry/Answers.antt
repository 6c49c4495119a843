-- The theorems are in Theorems. Assumes nothing.
use Rattle.strip.proofs.Theorems.{stores_next, adds_newest}
use Rattle.strip.proofs.laws.put_uses_the_next_entry.Goals as goal

pub returns : goal.returns
returns c = record { entries = stores_next; lists = adds_newest }
