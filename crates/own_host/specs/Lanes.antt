-- What the lanes hold. Assumes nothing.
use Rattle.std.specs.Prelude.{ℕ, List, ℤ, vec_items}
use Rattle.std.specs.VecDeque.{deque_items}
use Rattle.host.specs.Channels.{Channels}
use Rattle.host.specs.Queues.{queued}
use Rattle.own_host.specs.declared.lanes.Lane.{Lane}
use Rattle.own_host.specs.declared.lanes.HeapHost.{HeapHost}

-- the values of one lane, oldest first
abbrev pub contents : Lane → List ℤ
contents l = deque_items l.values

-- how many values one lane can hold
abbrev pub room : Lane → ℕ
room l = l.capacity

-- a channel for each lane, the first with number 0
abbrev pub lanes : List Lane → Channels
lanes = queued contents room 1

-- what a heap host means: the channels that its lanes are
abbrev pub channels_of : HeapHost → Channels
channels_of h = lanes (vec_items h.lanes)
