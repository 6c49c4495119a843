-- A row of queues as channels, and a host that owes nothing on its memory. Assumes nothing.
use Rattle.std.specs.Prelude.{ℕ, List, [], map, length, ℤ, slice_index_or}
use Rattle.host.specs.Channels.{Channels}

-- a channel for each queue, of its list and its capacity; what there is not has the capacity k, which no call asks for
abbrev pub queued : {Q : Type 0} → (Q → List ℤ) → (Q → ℕ) → ℕ → List Q → Channels
queued list room k qs = record { count = length qs; capacity = λ c. slice_index_or (map room qs) c k; list = λ c. slice_index_or (map list qs) c [] }

-- a put on a host whose memory is nobody else's: there is nothing to say of it
abbrev pub NoMemoryPut : {H : Type 0} → H → ℕ → ℤ → H → Type 0
NoMemoryPut h c v k = Unit {0}

-- a take on a host whose memory is nobody else's: there is nothing to say of it
abbrev pub NoMemoryTake : {H : Type 0} → H → ℕ → H → Type 0
NoMemoryTake h c k = Unit {0}
