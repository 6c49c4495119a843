-- What a call of a visit answers and leaves. Assumes nothing.
use Rattle.std.specs.Prelude.{◌≡◌, ℕ, cond, ℤ, Some, None, Ok, Err, Option, Result}
use Rattle.refusal.specs.declared.Refusal.{Refusal}
use Rattle.refusal.specs.declared.Refusal.TheVariants.{Levels, Channels}
use Rattle.meaning.specs.Answers.{Call, Answer}
use Rattle.meaning.specs.Visits.{Frame, State, respond, same_levels, enough_channels, Plan, go, lacks_value, lacks_space, ended, acted}
use Rattle.meaning.specs.declared.answers.Act.{Act}
use Rattle.meaning.specs.declared.answers.Act.TheVariants.{Inner, Took, Reused, Defaulted, Wrote, Withheld}
use Rattle.meaning.specs.declared.answers.Moved.{Moved}

-- the call x of a visit with frame f in state s leaves the frame g and the state t, and is answered by a: the frame stays,
-- and state and answer are what the meaning gives
pub record Served (f : Frame) (s : State) (x : Call) (g : Frame) (t : State) (a : Answer) : Type 0 where
  pub frame : g ≡ f
  pub after : t ≡ (respond f s x).0
  pub answer : a ≡ (respond f s x).1

-- whether script, regime and host fit: LEVELS where the first two differ, else CHANNELS where the host has too few
abbrev pub fitting : Frame → Result (Unit {0}) Refusal
fitting f = cond (same_levels f) (cond (enough_channels f) (Ok tt) (Err Channels)) (Err Levels)

-- the act that a copy does by its plan, if it goes on
abbrev pub act_of : Plan → Option Act
act_of (go act c) = Some act
act_of (lacks_value k) = None
act_of (lacks_space k) = None
act_of ended = None

-- the state that the copy at level l leaves by its plan: as it was where it does not go on
abbrev pub done : State → ℕ → Plan → State
done s l (go act c) = acted s l act c
done s l (lacks_value k) = s
done s l (lacks_space k) = s
done s l ended = s

-- the copy at level l of a visit with frame f in state s does as it plans
pub record Does (f : Frame) (s : State) (l : ℕ) (p : Plan) (act : Option Act) (g : Frame) (t : State) : Type 0 where
  pub frame : g ≡ f
  pub after : t ≡ done s l p
  pub acts : act ≡ act_of p

-- what an act makes of the host's own memory, by what the host promises of accepted puts and takes; other acts leave the
-- whole host as it was
abbrev pub Memory : {H : Type 0} → (H → ℕ → ℤ → H → Type 0) → (H → ℕ → H → Type 0) → H → Act → H → Type 0
Memory puts takes h Inner j = j ≡ h
Memory puts takes h (Took k v) j = takes h k j
Memory puts takes h (Reused k v) j = j ≡ h
Memory puts takes h (Defaulted k v) j = j ≡ h
Memory puts takes h (Wrote k v) j = puts h k v j
Memory puts takes h (Withheld k v) j = j ≡ h

-- what a copy that did something or nothing makes of the host's own memory: nothing leaves the whole host as it was
abbrev pub StepMemory : {H : Type 0} → (H → ℕ → ℤ → H → Type 0) → (H → ℕ → H → Type 0) → H → Option Act → H → Type 0
StepMemory puts takes h None j = j ≡ h
StepMemory puts takes h (Some act) j = Memory puts takes h act j

-- what a turn makes of the host's own memory: nobody, or a refusal, leaves the whole host as it was
abbrev pub TurnMemory : {H : Type 0} → (H → ℕ → ℤ → H → Type 0) → (H → ℕ → H → Type 0) → H → Result (Option Moved) Refusal → H → Type 0
TurnMemory puts takes h (Ok None) j = j ≡ h
TurnMemory puts takes h (Ok (Some m)) j = Memory puts takes h m.act j
TurnMemory puts takes h (Err e) j = j ≡ h
