-- What every accepted script keeps. Assumes nothing.
use Rattle.std.specs.Prelude.{◌≡◌, ℕ, ◌<◌, ◌≤◌, Bool, true, false, ◌&&◌, List, get_or, ℤ, pos, negsuc, nat_le, nat_lt, slice_index_or}
use Rattle.script.specs.declared.parts.Direction.{Direction}
use Rattle.script.specs.declared.parts.Direction.TheVariants.{In, Out}
use Rattle.script.specs.declared.parts.Channel.{Channel}
use Rattle.script.specs.declared.parts.Instruction.{Instruction}
use Rattle.script.specs.declared.parts.Instruction.TheVariants.{Skip, Set, Compute, Jump, Input, Output, Stop}

-- the blank channel: what fills the table of channels from the count on
abbrev pub blank : Channel
blank = record { direction = In; level = 0 }

-- are two directions the same
abbrev pub same : Direction → Direction → Bool
same In In = true
same In Out = false
same Out In = false
same Out Out = true

-- channel k is one of the first c, and of direction d
abbrev pub directed : Direction → List Channel → ℕ → ℕ → Bool
directed d cs c k = nat_lt k c && same d (get_or cs k blank).direction

-- is a number a value: from -2147483648 to 2147483647 (negsuc n is -1 - n)
abbrev pub word : ℤ → Bool
word (pos n) = nat_lt n 2147483648
word (negsuc n) = nat_lt n 2147483648

-- the law of one instruction in a script with m instructions and the first c of the channels cs: registers
-- below 16, places at most m, numbers of 32 bits, and channels of the direction that it uses
abbrev pub sound : List Channel → ℕ → ℕ → Instruction → Bool
sound cs c m Skip = true
sound cs c m (Set target number) = nat_lt target 16 && word number
sound cs c m (Compute operation target first second) = nat_lt target 16 && (nat_lt first 16 && nat_lt second 16)
sound cs c m (Jump first place) = nat_lt first 16 && nat_le place m
sound cs c m (Input target channel) = nat_lt target 16 && directed In cs c channel
sound cs c m (Output first channel) = nat_lt first 16 && directed Out cs c channel
sound cs c m Stop = true

-- how many levels and channels there may be: 1 to 16, and at most 16
abbrev pub Headed : ℕ → ℕ → Type 0
Headed n c = (1 ≤ n) × (n ≤ 16) × (c ≤ 16)

-- how many instructions there may be: 1 to 256
abbrev pub Counted : ℕ → Type 0
Counted m = (1 ≤ m) × (m ≤ 256)

-- the level of each of the first c channels is below n
abbrev pub Below : ℕ → List Channel → ℕ → Type 0
Below n cs c = (k : ℕ) → k < c → (get_or cs k blank).level < n

-- each of the first i instructions keeps its law
abbrev pub Sound : List Channel → ℕ → ℕ → List Instruction → ℕ → Type 0
Sound cs c m is i = (k : ℕ) → k < i → sound cs c m (slice_index_or is k Skip) ≡ true

-- a table holds d at index k and at every later index that it has
abbrev pub Blank : {X : Type 0} → X → ℕ → List X → Type 0
Blank d k xs = (j : ℕ) → k ≤ j → slice_index_or xs j d ≡ d
