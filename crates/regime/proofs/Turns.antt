-- Regimes where each level has its own turn. Assumes nothing.
use Rattle.std.proofs.Common.{ℕ, ◌≤◌, Bool, arith}
use Rattle.std.proofs.lemmas.Bool.Decides.{nat_tests}
use Rattle.regime.specs.Order.{Partial, Lawful, own_turn}

-- where the level numbered as the place is picked, any order of the levels is lawful
pub own_turn_lawful : (n : ℕ) (flows : ℕ → ℕ → Bool) → 1 ≤ n → n ≤ 16 → Partial n flows → Lawful (record { size = n; flows = flows; picks = own_turn n })
own_turn_lawful n flows low high o = record {
  bounded = (low, high);
  ordered = o;
  no_place = λ p s k. grind (arith, nat_tests);
  ignores = λ p s t same. let h = same p in grind (arith, nat_tests, h);
  ready_only = λ p s a e. grind (arith, nat_tests);
  served = λ a k. (a, k, λ s r. (a, grind (arith, nat_tests)));
  from_below = λ p l s t same e. let f = o.to_itself p in let h = same p in grind (arith, nat_tests, f, h);
}
