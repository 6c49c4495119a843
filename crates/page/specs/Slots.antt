-- What the slot host's channels hold. Assumes nothing.
use Rattle.std.specs.Prelude.{◌≡◌, ℕ, zero, suc, List, [], ◌∷◌, length, map, take, ℤ, slice_index_or}
use Rattle.std.proofs.Common.{refl, arith}
use Rattle.host.specs.Channels.{Channels, Lawful}
use Rattle.host.specs.Queues.{queued}
use Rattle.page.specs.declared.slots.Queue.{Queue}
use Rattle.page.specs.declared.slots.SlotHost.{SlotHost}

-- the values of one channel, oldest first
abbrev pub contents : Queue → List ℤ
contents q = take q.len q.values

-- how many values one channel can hold
abbrev pub room : Queue → ℕ
room q = 32

-- 16 channels of capacity 32, of the lists of these queues
abbrev pub slots : List Queue → Channels
slots qs = record { count = 16; capacity = λ _. 32; list = λ c. slice_index_or (map contents qs) c [] }

-- what a slot host means
abbrev pub channels_of : SlotHost → Channels
channels_of h = slots h.queues

-- what a slot host means that was just made: 16 channels of capacity 32 that hold nothing
abbrev pub empty_channels : Channels
empty_channels = record { count = 16; capacity = λ _. 32; list = λ _. [] }

-- every capacity is 32, also of channels that there are not
pub all_alike : (qs : List Queue) (c : ℕ) → slice_index_or (map room qs) c 32 ≡ 32
all_alike [] c = refl
all_alike (q ∷ qs) zero = refl
all_alike (q ∷ qs) (suc c) = all_alike qs c

-- 16 queues in a row mean the channels of a slot host
pub row_of : (qs : List Queue) → length qs ≡ 16 → queued contents room 32 qs ≡ slots qs
row_of qs e i = record { count = e i; capacity = λ c. all_alike qs c i; list = λ c. slice_index_or (map contents qs) c [] }

-- every slot host has 16 channels of capacity 32
pub sized : (h : SlotHost) → ((channels_of h).count ≡ 16) × ((c : ℕ) → (channels_of h).capacity c ≡ 32)
sized h = (refl, λ c. refl)

-- every slot host has at most 16 channels, each of a capacity from 1 to 65,535
pub slots_lawful : (h : SlotHost) → Lawful (channels_of h)
slots_lawful h = record { few = omega arith; roomy = λ c _. omega arith; bounded = λ c _. omega arith }
