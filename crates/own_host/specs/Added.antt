-- What adding a channel answers and leaves. Assumes nothing.
use Rattle.std.specs.Prelude.{◌≡◌, ℕ, suc, ◌<◌, ◌≤◌, cond, ◌⊎◌, List, [], ℤ, Ok, Err, Result, ◌==◌}
use Rattle.host.specs.Channels.{Channels}
use Rattle.own_host.specs.declared.lanes.build.Unmade.{Unmade}
use Rattle.own_host.specs.declared.lanes.build.Unmade.TheVariants.{Channels as TooMany, Capacity, Memory}

-- a host that has no channel yet; what the functions say of channels that there are not is never asked
abbrev pub no_channels : Channels
no_channels = record { count = 0; capacity = λ _. 1; list = λ _. [] }

-- one channel more, behind the others, of capacity k and holding vs
abbrev pub added : Channels → ℕ → List ℤ → Channels
added b k vs = record { count = suc b.count; capacity = λ c. cond (c == b.count) k (b.capacity c); list = λ c. cond (c == b.count) vs (b.list c) }

-- what adding a channel leaves: that channel more, or all as it was where it is refused
abbrev pub after_add : Channels → ℕ → List ℤ → Result (Unit {0}) Unmade → Channels
after_add b k vs (Ok _) = added b k vs
after_add b k vs (Err _) = b

-- a capacity that a channel can have
abbrev pub Fit : ℕ → Type 0
Fit k = (1 ≤ k) × (k ≤ 65535)

-- what is answered where there are n channels and one of capacity k is asked for; memory may always be short
abbrev pub Told : ℕ → ℕ → Result (Unit {0}) Unmade → Type 0
Told n k (Ok _) = (n < 16) × Fit k
Told n k (Err TooMany) = 16 ≤ n
Told n k (Err Capacity) = (n < 16) × ((k ≡ 0) ⊎ (65535 < k))
Told n k (Err Memory) = (n < 16) × Fit k
