-- The ladder. Assumes nothing.
use Rattle.std.specs.Prelude.{◌≡◌, ℕ, zero, suc, ◌<◌, ◌≤◌, true, false, cond, ◌&&◌, Some, None, Option, nat_le, nat_lt}
use Rattle.regime.specs.Order.{Order, Levels}

-- the first answer that there is
abbrev pub first_some : Option ℕ → Option ℕ → Option ℕ
first_some (Some a) o = Some a
first_some None o = o

-- the lowest member below n
abbrev pub lowest : ℕ → Levels → Option ℕ
lowest zero s = None
lowest (suc n) s = first_some (lowest n s) (cond (s n) (Some n) None)

-- a lowest answer of n levels: a ready level below n, and none ready below it; or nobody, where none below n is ready
abbrev pub Lowest : ℕ → Levels → Option ℕ → Type 0
Lowest n s (Some a) = (a < n) × (s a ≡ true) × ((b : ℕ) → b < a → s b ≡ false)
Lowest n s None = (a : ℕ) → a < n → s a ≡ false

-- a flows to b where a ≤ b, both levels; at every place below n the lowest ready level is picked
abbrev pub ladder : ℕ → Order
ladder n = record {
  size = n;
  flows = λ a b. nat_le a b && nat_lt b n;
  picks = λ p s. cond (nat_lt p n) (lowest n s) None;
}

-- what this means: a level is picked exactly where it is ready and no ready level is below it
pub record PicksLowest (n : ℕ) (r : Order) : Type 0 where
  pub flows_up : (a b : ℕ) → (r.flows a b ≡ true → (a ≤ b) × (b < n)) × (a ≤ b → b < n → r.flows a b ≡ true)
  pub picked : (p : ℕ) (s : Levels) (a : ℕ) → r.picks p s ≡ Some a → (p < n) × (a < n) × (s a ≡ true) × ((b : ℕ) → b < a → s b ≡ false)
  pub picks : (p : ℕ) (s : Levels) (a : ℕ) → p < n → a < n → s a ≡ true → ((b : ℕ) → b < a → s b ≡ false) → r.picks p s ≡ Some a
