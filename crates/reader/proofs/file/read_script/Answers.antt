use Rattle.std.proofs.Common.{◌<◌}
use Rattle.std.proofs.ByRecursion.{All-from_get_or}
use Rattle.format.proofs.Theorems.{read_back}
use Rattle.reader.proofs.Whole.{reads}
use Rattle.reader.proofs.file.read_script.Goals as goal

pub returns : goal.returns
returns c =
    let bytes = All-from_get_or (λ b. b < 256) c.args.bytes.now 0 (λ i _. (c.type_inv.bytes i).fits) in
    let told = reads c.args.bytes.now c.parse.result bytes c.parse.ensures in
    record { reads = told; back = read_back c.args.bytes.now c.parse.result told }
