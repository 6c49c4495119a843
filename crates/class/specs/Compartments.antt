-- Compartments: a level is a set of k marks, and flows to those that have all of its marks. Assumes nothing.
use Rattle.std.specs.Prelude.{◌≡◌, ℕ, ◌/◌, ◌%◌, ◌^◌, ◌<◌, Bool, true, ◌&&◌, Some, ◌==◌, bit_and, nat_lt}
use Rattle.regime.specs.Order.{Order, Levels, own_turn}

-- is bit i of w one
abbrev pub bit : ℕ → ℕ → Bool
bit w i = w / 2 ^ i % 2 == 1

-- every one bit of a is one in b
abbrev pub Covered : ℕ → ℕ → Type 0
Covered a b = (i : ℕ) → bit a i ≡ true → bit b i ≡ true

-- every one bit of a is one in b, as the machine tests it: what a and b have in common is all of a
abbrev pub within : ℕ → ℕ → Bool
within a b = bit_and a b == a

-- 2^k levels: a flows to b where both are levels and b has all marks of a; each level is picked at its own place only
abbrev pub compartments : ℕ → Order
compartments k = record {
  size = 2 ^ k;
  flows = λ a b. nat_lt a (2 ^ k) && nat_lt b (2 ^ k) && within a b;
  picks = own_turn (2 ^ k);
}

-- what this means: flow bit by bit, and each level at its own place only
pub record OwnTurns (n : ℕ) (r : Order) : Type 0 where
  pub flows_covered : (a b : ℕ) → r.flows a b ≡ true → (a < n) × (b < n) × Covered a b
  pub covered_flows : (a b : ℕ) → a < n → b < n → Covered a b → r.flows a b ≡ true
  pub picked : (p : ℕ) (s : Levels) (a : ℕ) → r.picks p s ≡ Some a → (p < n) × (a ≡ p) × (s p ≡ true)
  pub picks : (p : ℕ) (s : Levels) → p < n → s p ≡ true → r.picks p s ≡ Some p
