use Rattle.std.proofs.Common.{◌≡◌, take, string_bytes}
use Rattle.text.specs.Hex.{encoded}
use Rattle.text.proofs.hex.encode.Given as goal

abbrev pub invariant-loop-byte : goal.invariant-loop-byte
invariant-loop-byte l = string_bytes l.text ≡ encoded (take l.byte-index l.bytes)
