-- The theorems are in Theorems. Assumes nothing.
use Rattle.strip.proofs.Theorems.{moves_forward, takes_oldest, by_example}
use Rattle.strip.proofs.laws.take_closes_the_gap.Goals as goal

pub returns : goal.returns
returns c = record { entries = moves_forward; lists = takes_oldest; example = by_example }
