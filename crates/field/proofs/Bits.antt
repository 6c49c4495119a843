-- The bits of a map, as a shift takes them. Assumes nothing.
use Rattle.std.proofs.Common.{◌≡◌, ℕ, ◌/◌, ◌^◌, ◌<◌, ◌≤◌, Some, None, Option, sym, ap, ◌∙◌, arith}
use Rattle.std.proofs.Math.Nat.{div-eq_of_lt}
use Rattle.std.proofs.Math.Pow.{pow_mono}
use Rattle.std.specs.Prelude.{SomeIff}
use Rattle.std.specs.Option.{unwrap_or}
use Rattle.format.specs.Numbers.{odd, bit}
use Rattle.format.proofs.Steps.{bit_is}

-- what is left of a map when its k lower bits are gone: nothing past the eighth
left : (k m : ℕ) (o : Option ℕ) → m < 256 → SomeIff o (k < 8) (m / 2 ^ k) → unwrap_or o 0 ≡ m / 2 ^ k
left k m None lt h =
    let past : 8 ≤ k = omega (arith, h) in
    let wide : 2 ^ 8 ≤ 2 ^ k = pow_mono past in
    sym (div-eq_of_lt (omega arith))
left k m (Some x) lt h = h.1

pub bit_left : (k m : ℕ) (o : Option ℕ) (r : ℕ) → r ≡ unwrap_or o 0 → m < 256 → SomeIff o (k < 8) (m / 2 ^ k) → odd r ≡ bit k m
bit_left k m o r e lt h = ap odd (e ∙ left k m o lt h) ∙ bit_is k m
