use Rattle.format.proofs.Theorems.{every_byte_within}
use Rattle.format.proofs.laws.byte_is_within_the_file.Goals as goal

pub returns : goal.returns
returns c = every_byte_within
