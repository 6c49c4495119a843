-- The strip in words of its subject. Assumes nothing.
use Rattle.std.specs.Prelude.{◌≡◌, ℕ, ◌+◌, ◌-◌, ◌*◌, ◌<◌, ◌≤◌, min, true, List, [], ◌∷◌, ◌++◌, length, take, ℤ, pos, ◌≢◌}
use Rattle.host.specs.Channels.{rest}
use Rattle.strip.specs.Entries.{entries_put, entries_taken, known, listed}
use Rattle.strip.specs.Sizes.{strip_capacity, strip_count}
use Rattle.strip.specs.Stripped.{in_use, lent}
use Rattle.strip.specs.declared.entry.Entry.{Entry}
use Rattle.strip.specs.declared.strips.StripHost.{StripHost}

-- n channels of capacity k out of the entries given: the largest capacity that all can have at once
pub record Fair (n k given : ℕ) : Type 0 where
  pub fits : n * k ≤ min 512 given
  pub largest : 0 < n → min 512 given < n * (k + 1)
  pub roomy : 0 < n → 1 ≤ k
  pub undivided : n ≡ 0 → k ≡ 0

-- what a strip is made with is fair
abbrev pub FairShares : Type 0
FairShares = (asked given : ℕ) → Fair (strip_count asked given) (strip_capacity (strip_count asked given) given) given

-- where none of n channels holds more than k, and one holds less, there are fewer than n times k entries
abbrev pub NeverCrowded : Type 0
NeverCrowded = (n k c : ℕ) (es : List Entry) → known n es ≡ true → ((d : ℕ) → length (listed d es) ≤ k) → c < n → length (listed c es) < k → length es < n * k

-- the entries in use are of the strip's channels, none of which holds more than its capacity; all can be full at once;
-- and a channel that has space finds an unused entry, whatever the other channels hold
pub record Unfilled (h : StripHost) : Type 0 where
  pub numbered : known h.count (in_use h) ≡ true
  pub within : (c : ℕ) → length (listed c (in_use h)) ≤ h.capacity
  pub enough : h.count * h.capacity ≤ length (lent h)
  pub left : (c : ℕ) → c < h.count → length (listed c (in_use h)) < h.capacity → h.len < length (lent h)

-- it is so of every strip host
abbrev pub NeverFull : Type 0
NeverFull = (h : StripHost) → Unfilled h

-- a put: behind those in use stands the new entry in place of what was there
abbrev pub StoresNext : Type 0
StoresNext = (c : ℕ) (v : ℤ) (used : List Entry) (x : Entry) (unused : List Entry) → entries_put (length used) c v (used ++ (x ∷ unused)) ≡ used ++ (record { channel = c; value = v } ∷ unused)

-- a put of v on channel c, the first n in use: the channel's list ends with v, and every other list is as before
pub record Added (n c : ℕ) (v : ℤ) (es : List Entry) : Type 0 where
  pub own : listed c (take (n + 1) (entries_put n c v es)) ≡ listed c (take n es) ++ (v ∷ [])
  pub others : (d : ℕ) → (d ≢ c) → listed d (take (n + 1) (entries_put n c v es)) ≡ listed d (take n es)

-- every put that finds an unused entry adds to its own channel's list alone, where the first n are in use
abbrev pub AddsNewest : Type 0
AddsNewest = (n c : ℕ) (v : ℤ) (es : List Entry) → n < length es → Added n c v es

-- the last of an entry e and those after it
abbrev pub last_of : Entry → List Entry → Entry
last_of e [] = e
last_of e (x ∷ xs) = last_of x xs

-- a take: the first entry of the channel goes, those in use after it move forward by one, the last one that was in use
-- is left behind as it was, and the unused stay
abbrev pub MovesForward : Type 0
MovesForward = (c : ℕ) (before : List Entry) (e : Entry) (after unused : List Entry) → listed c before ≡ [] → e.channel ≡ c → entries_taken (length (before ++ (e ∷ after))) c ((before ++ (e ∷ after)) ++ unused) ≡ (before ++ after) ++ (last_of e after ∷ unused)

-- a take from channel c, the first n in use: the channel's list loses the oldest, every other list is as before, and no
-- entry is lost
pub record Taken (n c : ℕ) (es : List Entry) : Type 0 where
  pub own : listed c (take (n - 1) (entries_taken n c es)) ≡ rest (listed c (take n es))
  pub others : (d : ℕ) → (d ≢ c) → listed d (take (n - 1) (entries_taken n c es)) ≡ listed d (take n es)
  pub size : length (entries_taken n c es) ≡ length es

-- every take from a channel that holds a value takes its oldest alone, where the first n are in use
abbrev pub TakesOldest : Type 0
TakesOldest = (n c : ℕ) (es : List Entry) → n ≤ length es → 0 < length (listed c (take n es)) → Taken n c es

-- channel c and value v, for the example
abbrev pub entry : ℕ → ℕ → Entry
entry c v = record { channel = c; value = pos v }

-- the example of docs/hosts.md: 3 channels, 6 entries, a take in the middle, and the put after it that uses the entry
-- left behind
abbrev pub ByExample : Type 0
ByExample =
    (x y : Entry) →
    (entries_taken 4 1 (entry 0 10 ∷ entry 1 20 ∷ entry 0 11 ∷ entry 2 30 ∷ x ∷ y ∷ []) ≡ (entry 0 10 ∷ entry 0 11 ∷ entry 2 30 ∷ entry 2 30 ∷ x ∷ y ∷ []))
    × (entries_put 3 2 (pos 31) (entry 0 10 ∷ entry 0 11 ∷ entry 2 30 ∷ entry 2 30 ∷ x ∷ y ∷ []) ≡ (entry 0 10 ∷ entry 0 11 ∷ entry 2 30 ∷ entry 2 31 ∷ x ∷ y ∷ []))
