-- The order map: an order of levels written out, bit a of row b for `a flows to b`. Assumes nothing.
use Rattle.std.specs.Prelude.{◌≡◌, ℕ, ◌<◌, ◌≤◌, Bool, true, List, slice_index}
use Rattle.regime.specs.Order.{Order, Partial, own_turn}
use Rattle.class.specs.Compartments.{bit}

-- whether a flows to b by the rows: bit a of row b; no where there is no such row
abbrev pub told : List ℕ → ℕ → ℕ → Bool
told rows a b = bit (slice_index rows b) a

-- n and rows that make an order map: 1 to 16 levels, the laws of order, and (by `inside`) zeros at and beyond n
abbrev pub Accepted : ℕ → List ℕ → Type 0
Accepted n rows = (1 ≤ n) × (n ≤ 16) × Partial n (told rows)

-- flow as the rows tell it, and each level at its own place only
abbrev pub mapped : ℕ → List ℕ → Order
mapped n rows = record { size = n; flows = told rows; picks = own_turn n }

-- the first judgement, of row b: it has a one only at a level, and only if b is one
abbrev pub RowClear : ℕ → List ℕ → ℕ → Type 0
RowClear n rows b = (a : ℕ) → told rows a b ≡ true → (a < n) × (b < n)

-- a row has a one only at a level, and only if it is a level's row
abbrev pub Clear : ℕ → List ℕ → Type 0
Clear n rows = (a b : ℕ) → told rows a b ≡ true → (a < n) × (b < n)

-- the second judgement: each level flows to itself
abbrev pub Itself : ℕ → List ℕ → Type 0
Itself n rows = (a : ℕ) → a < n → told rows a a ≡ true

-- the third judgement, of level a: no other flows both to it and from it
unfoldable pub OneWayFrom : ℕ → List ℕ → ℕ → Type 0
OneWayFrom n rows a = (b : ℕ) → b < n → told rows a b ≡ true → told rows b a ≡ true → a ≡ b

-- no two different levels flow both ways
abbrev pub OneWay : ℕ → List ℕ → Type 0
OneWay n rows = (a : ℕ) → a < n → OneWayFrom n rows a

-- the fourth judgement, of levels a and b: where a flows to b it flows to whatever level b flows to
abbrev pub OnwardThrough : ℕ → List ℕ → ℕ → ℕ → Type 0
OnwardThrough n rows a b = (c : ℕ) → c < n → told rows a b ≡ true → told rows b c ≡ true → told rows a c ≡ true

-- the fourth judgement, of level a: where it flows to a level, it flows to whatever level that flows to
unfoldable pub OnwardFrom : ℕ → List ℕ → ℕ → Type 0
OnwardFrom n rows a = (b : ℕ) → b < n → OnwardThrough n rows a b

-- where a level flows to another, it flows to whatever level that flows to
abbrev pub Onward : ℕ → List ℕ → Type 0
Onward n rows = (a : ℕ) → a < n → OnwardFrom n rows a
