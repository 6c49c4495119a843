-- The host is lawful, by the laws of each lane. Assumes nothing.
use Rattle.std.specs.Prelude.{ℕ, zero, suc, ◌≤◌, List, [], ◌∷◌, map, vec_items, slice_index_or}
use Rattle.std.proofs.Common.{arith}
use Rattle.host.specs.Channels.{Lawful}
use Rattle.own_host.specs.declared.lanes.Lane.{Lane}
use Rattle.own_host.specs.declared.lanes.HeapHost.{HeapHost}
use Rattle.own_host.specs.Lanes.{room, channels_of}

-- every capacity is at least 1
pub at_least : (ls : List Lane) (c : ℕ) → 1 ≤ slice_index_or (map room ls) c 1
at_least [] c = omega arith
at_least (l ∷ ls) zero = l.roomy
at_least (l ∷ ls) (suc c) = at_least ls c

-- every capacity is at most 65,535
pub at_most : (ls : List Lane) (c : ℕ) → slice_index_or (map room ls) c 1 ≤ 65535
at_most [] c = omega arith
at_most (l ∷ ls) zero = l.bounded
at_most (l ∷ ls) (suc c) = at_most ls c

-- every heap host has at most 16 channels, each of a capacity from 1 to 65,535
pub heap_lawful : (h : HeapHost) → Lawful (channels_of h)
heap_lawful h = record { few = h.few; roomy = λ c _. at_least (vec_items h.lanes) c; bounded = λ c _. at_most (vec_items h.lanes) c }
