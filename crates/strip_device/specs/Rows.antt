-- Values that are fed in a row to a visit: what each makes of the visit and of the host's own memory, and where they end.
-- Assumes nothing.
use Rattle.std.specs.Prelude.{◌≡◌, ℕ, false, List, [], ◌∷◌, ℤ}
use Rattle.host.specs.Channels.{Channels}
use Rattle.regime.specs.Order.{Order}
use Rattle.engine.specs.Views.{Serves}
use Rattle.engine.specs.declared.visit.Visit.{Visit}
use Rattle.meaning.specs.Answers.{Call, feed, fed}
use Rattle.meaning.specs.Logs.{is_accepted}
use Rattle.meaning.specs.Visits.{Frame, State, respond}
use Rattle.strip.specs.declared.entry.Entry.{Entry}

-- from visit v to visit w each of these was fed, its value on its channel, in order, and nothing else was called
abbrev pub FedAll : {R H : Type 0} → (R → Order) → (H → Channels) → (H → ℕ → ℤ → H → Type 0) → List Entry → Visit R H → Visit R H → Type 0
FedAll order channels puts [] v w = w ≡ v
FedAll {R} {H} order channels puts (e ∷ es) v w =
    (u : Visit R H) × Serves order channels v (feed e.channel e.value) u fed × puts v.host e.channel e.value u.host × FedAll order channels puts es u w

-- from host h to host k each of these was put, its value on its channel, in order
abbrev pub PutAll : {H : Type 0} → (H → ℕ → ℤ → H → Type 0) → List Entry → H → H → Type 0
PutAll puts [] h k = k ≡ h
PutAll {H} puts (e ∷ es) h k = (j : H) × puts h e.channel e.value j × PutAll puts es j k

-- the calls that feed these
abbrev pub feeds : List Entry → List Call
feeds [] = []
feeds (e ∷ es) = feed e.channel e.value ∷ feeds es

-- a visit with frame f in state s refuses the value on its channel
abbrev pub Refuses : Frame → State → Entry → Type 0
Refuses f s e = is_accepted (respond f s (feed e.channel e.value)).1 ≡ false
