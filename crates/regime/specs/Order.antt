-- What a regime answers, and the laws that every regime keeps. Assumes nothing.
use Rattle.std.specs.Prelude.{◌≡◌, ℕ, ◌<◌, ◌≤◌, min, max, Bool, true, cond, ◌&&◌, Some, None, Option, nat_lt}

-- a set of levels: whether a number is in it
abbrev pub Levels : Type 0
Levels = ℕ → Bool

-- how many levels, which flows to which, and who is picked at a place of a ready set
pub record Order : Type 0 where
  pub size : ℕ
  pub flows : ℕ → ℕ → Bool
  pub picks : ℕ → Levels → Option ℕ

-- a partial order of the levels below n, which says no of all other numbers
pub record Partial (n : ℕ) (flows : ℕ → ℕ → Bool) : Type 0 where
  -- only levels flow, and only to levels
  pub inside : (a b : ℕ) → flows a b ≡ true → (a < n) × (b < n)
  -- each level flows to itself
  pub to_itself : (a : ℕ) → a < n → flows a a ≡ true
  -- two different levels never flow both ways
  pub one_way : (a b : ℕ) → flows a b ≡ true → flows b a ≡ true → a ≡ b
  -- what flows on has flowed
  pub onward : (a b c : ℕ) → flows a b ≡ true → flows b c ≡ true → flows a c ≡ true
  deriving IsProp as partial_prop

-- the laws
pub record Lawful (r : Order) : Type 0 where
  -- there are 1 to 16 levels
  pub bounded : (1 ≤ r.size) × (r.size ≤ 16)
  -- flow is a partial order of them
  pub ordered : Partial r.size r.flows
  -- a place not below the number of levels picks nobody
  pub no_place : (p : ℕ) (s : Levels) → r.size ≤ p → r.picks p s ≡ None
  -- members that are no levels are ignored
  pub ignores : (p : ℕ) (s t : Levels) → ((a : ℕ) → a < r.size → s a ≡ t a) → r.picks p s ≡ r.picks p t
  -- a picked level is a level, and ready
  pub ready_only : (p : ℕ) (s : Levels) (a : ℕ) → r.picks p s ≡ Some a → (a < r.size) × (s a ≡ true)
  -- each level has a place at which every ready set that holds it picks some level
  pub served : (a : ℕ) → a < r.size → (p : ℕ) × (p < r.size) × ((s : Levels) → s a ≡ true → (b : ℕ) × (r.picks p s ≡ Some b))
  -- picks are determined from below: of two ready sets that agree on all levels that flow to l, either both pick l or
  -- neither does (one way is said; the sets may change places)
  pub from_below : (p l : ℕ) (s t : Levels) → ((a : ℕ) → r.flows a l ≡ true → s a ≡ t a) → r.picks p s ≡ Some l → r.picks p t ≡ Some l

-- at a place below n the level numbered as the place is picked if it is ready, and else nobody; never another
abbrev pub own_turn : ℕ → ℕ → Levels → Option ℕ
own_turn n p s = cond (nat_lt p n && s p) (Some p) None

-- n, or the nearest number from low to high
abbrev pub nearest : ℕ → ℕ → ℕ → ℕ
nearest low high n = max low (min high n)
