-- What an in gives, rule by rule: the law above the function `got`. Assumes nothing.
use Rattle.std.specs.Prelude.{◌≡◌, ℕ, ◌<◌, ◌≤◌, true, false, List, [], ◌∷◌, length, ℤ, pos, ◌==◌, slice_index_or}
use Rattle.meaning.specs.Copies.{Copy}
use Rattle.meaning.specs.Visits.{Frame, State, level_of, Got, default, again, fresh, waits, gets}

-- an in from channel k by a copy c at level l
module _ (f : Frame) (s : State) (l : ℕ) (c : Copy) (k : ℕ) where
  -- the channel flows to l, and the position is below 64, which is all that a tape can hold
  abbrev pub Heard : Type 0
  Heard = (f.order.flows (level_of f k) l ≡ true) × (c.positions k < 64)

  -- the channel is heard, and the tape has no value yet at the copy's position
  abbrev pub AtEnd : Type 0
  AtEnd = Heard × (length (s.tape k) ≤ c.positions k)

  -- what the in gives it
  pub data Gives : Got → Type 0 where
    -- the channel does not flow to the copy's level: 0
    unheard : f.order.flows (level_of f k) l ≡ false → Gives default
    -- else, at position 64: 0
    past_the_tape : f.order.flows (level_of f k) l ≡ true → 64 ≤ c.positions k → Gives default
    -- else, below the tape's length: the tape's value
    from_the_tape : Heard → c.positions k < length (s.tape k) → Gives (again (slice_index_or (s.tape k) (c.positions k) (pos 0)))
    -- else, where the channel is of the copy's level: the oldest value of the host, if there is one
    from_the_host : (v : ℤ) (vs : List ℤ) → AtEnd → level_of f k ≡ l → s.lists k ≡ v ∷ vs → Gives (fresh v)
    -- and if there is none, nothing yet
    lacking : AtEnd → level_of f k ≡ l → s.lists k ≡ [] → Gives waits
    -- else nothing yet: it waits for the copy at the channel's level
    waiting : AtEnd → (level_of f k == l) ≡ false → Gives waits

-- every in gives what one of the rules says
abbrev pub Inputs : Type 0
Inputs = (f : Frame) (s : State) (l : ℕ) (c : Copy) (k : ℕ) → Gives f s l c k (gets f s l c k)

-- no two rules say different things of one in
abbrev pub OneRule : Type 0
OneRule = (f : Frame) (s : State) (l : ℕ) (c : Copy) (k : ℕ) (g : Got) → Gives f s l c k g → g ≡ gets f s l c k
