-- The laws of compartments. Assumes nothing.
use Rattle.std.specs.Prelude.{ℕ, ◌^◌, ◌≤◌}
use Rattle.std.proofs.Common.{arith, pow_pos, pow_mono}
use Rattle.std.specs.Int.Bits.{and_self}
use Rattle.std.proofs.lemmas.Nat.{and_comm}
use Rattle.std.proofs.lemmas.Bool.Decides.{nat_tests}
use Rattle.regime.specs.Order.{Partial, Lawful}
use Rattle.regime.proofs.Turns.{own_turn_lawful}
use Rattle.class.specs.Compartments.{compartments, OwnTurns}
use Rattle.class.specs.Marks.{and_trans, within_decides}

-- flow from a set of marks to those that have all of them is a partial order of the sets of k marks
compartments_partial : (k : ℕ) → Partial (2 ^ k) (compartments k).flows
compartments_partial k = record {
  inside = λ a b e. grind (arith, nat_tests);
  to_itself = λ a h. let s = and_self a in grind (arith, nat_tests);
  one_way = λ a b e f. let s = and_comm a b in grind (arith, nat_tests);
  onward = λ a b c e f. let s = and_trans a b c in grind (arith, nat_tests, s);
}

-- compartments of at most 4 marks keep the laws of regimes
pub compartments_lawful : (k : ℕ) → k ≤ 4 → Lawful (compartments k)
compartments_lawful k h = own_turn_lawful (2 ^ k) (compartments k).flows (pow_pos k) (pow_mono h) (compartments_partial k)

-- compartments flow bit by bit, and each level is picked at its own place only, exactly if it is ready
pub own_turns : (k : ℕ) → OwnTurns (2 ^ k) (compartments k)
own_turns k = record {
  flows_covered = λ a b e. let d = (within_decides a b).0 in (grind (arith, nat_tests), grind (arith, nat_tests), d (grind (arith, nat_tests)));
  covered_flows = λ a b ha hb h. let d = (within_decides a b).1 h in grind (arith, nat_tests);
  picked = λ p s a e. (grind (arith, nat_tests), grind (arith, nat_tests), grind (arith, nat_tests));
  picks = λ p s h r. grind (arith, nat_tests);
}
