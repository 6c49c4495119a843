-- What a strip host means, and what calls make of the entries that it was lent. Assumes nothing.
use Rattle.std.specs.Prelude.{◌≡◌, ℕ, ◌+◌, ◌-◌, List, [], take, ℤ}
use Rattle.std.proofs.Common.{arith}
use Rattle.host.specs.Channels.{Channels, Lawful}
use Rattle.strip.specs.Entries.{listed, entries_put, entries_taken}
use Rattle.strip.specs.Sizes.{strip_count, strip_capacity}
use Rattle.strip.specs.declared.entry.Entry.{Entry}
use Rattle.strip.specs.declared.strips.StripHost.{StripHost}

-- n channels, each of capacity k; the list of each is the values of its entries among es, those in use
abbrev pub strip : ℕ → ℕ → List Entry → Channels
strip n k es = record { count = n; capacity = λ _. k; list = λ c. listed c es }

-- the entries that the maker lent
abbrev pub lent : StripHost → List Entry
lent h = h.entries.now

-- the lent entries that are in use: the first ones
abbrev pub in_use : StripHost → List Entry
in_use h = take h.len (lent h)

-- what a strip host means, by its entries in use
abbrev pub channels_of : StripHost → Channels
channels_of h = strip h.count h.capacity (in_use h)

-- a strip that was just made, by the count asked and the entries given
abbrev pub empty_strip : ℕ → ℕ → Channels
empty_strip asked given = strip (strip_count asked given) (strip_capacity (strip_count asked given) given) []

-- every strip host has at most 16 channels, each of a capacity from 1 to 65,535
pub strip_lawful : (h : StripHost) → Lawful (channels_of h)
strip_lawful h = record { few = h.few; roomy = λ c lt. h.roomy (omega arith); bounded = λ c lt. omega arith }

-- what an accepted put leaves: every entry of the lent memory, which is still the same memory, and one more in use
abbrev pub StripPuts : StripHost → ℕ → ℤ → StripHost → Type 0
StripPuts h c v k = (lent k ≡ entries_put h.len c v (lent h)) × (k.len ≡ h.len + 1) × (k.entries.ghost_name ≡ h.entries.ghost_name)

-- what an accepted take leaves: every entry of the lent memory, which is still the same memory, and one fewer in use
abbrev pub StripTakes : StripHost → ℕ → StripHost → Type 0
StripTakes h c k = (lent k ≡ entries_taken h.len c (lent h)) × (k.len ≡ h.len - 1) × (k.entries.ghost_name ≡ h.entries.ghost_name)
