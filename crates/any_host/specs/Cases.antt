-- A host of any kind means what the host inside means. Assumes nothing.
use Rattle.std.specs.Prelude.{ℕ, ℤ}
use Rattle.host.specs.Channels.{Channels, Lawful}
use Rattle.host.specs.Queues.{NoMemoryPut, NoMemoryTake}
use Rattle.page.specs.Slots as slot
use Rattle.any_host.specs.declared.hosts.AnyHost.{AnyHost}
use Rattle.any_host.specs.declared.hosts.AnyHost.TheVariants.{Slot, Strip, Own}

-- the channels of such a host are those of the host inside
abbrev pub any_channels : {S H : Type 0} → (S → Channels) → (H → Channels) → AnyHost S H → Channels
any_channels strip own (Slot h) = slot.channels_of h
any_channels strip own (Strip h) = strip h
any_channels strip own (Own h) = own h

-- they keep the laws of channels, where those of the strip and of the maker's own do
pub any_lawful : {S H : Type 0} (strip : S → Channels) (own : H → Channels) → ((h : S) → Lawful (strip h)) → ((h : H) → Lawful (own h)) → (a : AnyHost S H) → Lawful (any_channels strip own a)
any_lawful strip own strips owns (Slot h) = slot.slots_lawful h
any_lawful strip own strips owns (Strip h) = strips h
any_lawful strip own strips owns (Own h) = owns h

-- a put leaves a host of the same kind, and what that kind says of its memory
abbrev pub AnyPuts : {S H : Type 0} → (S → ℕ → ℤ → S → Type 0) → (H → ℕ → ℤ → H → Type 0) → AnyHost S H → ℕ → ℤ → AnyHost S H → Type 0
AnyPuts strip own (Slot h) c v (Slot k) = NoMemoryPut h c v k
AnyPuts strip own (Strip h) c v (Strip k) = strip h c v k
AnyPuts strip own (Own h) c v (Own k) = own h c v k
AnyPuts strip own (Slot h) c v (Strip k) = ⊥
AnyPuts strip own (Slot h) c v (Own k) = ⊥
AnyPuts strip own (Strip h) c v (Slot k) = ⊥
AnyPuts strip own (Strip h) c v (Own k) = ⊥
AnyPuts strip own (Own h) c v (Slot k) = ⊥
AnyPuts strip own (Own h) c v (Strip k) = ⊥

-- and so does a take: a host of the same kind, and what that kind says of its memory
abbrev pub AnyTakes : {S H : Type 0} → (S → ℕ → S → Type 0) → (H → ℕ → H → Type 0) → AnyHost S H → ℕ → AnyHost S H → Type 0
AnyTakes strip own (Slot h) c (Slot k) = NoMemoryTake h c k
AnyTakes strip own (Strip h) c (Strip k) = strip h c k
AnyTakes strip own (Own h) c (Own k) = own h c k
AnyTakes strip own (Slot h) c (Strip k) = ⊥
AnyTakes strip own (Slot h) c (Own k) = ⊥
AnyTakes strip own (Strip h) c (Slot k) = ⊥
AnyTakes strip own (Strip h) c (Own k) = ⊥
AnyTakes strip own (Own h) c (Slot k) = ⊥
AnyTakes strip own (Own h) c (Strip k) = ⊥
