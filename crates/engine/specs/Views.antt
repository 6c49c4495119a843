-- A visit as a value, read as its frame and its state. Assumes nothing.
use Rattle.std.specs.Prelude.{◌≡◌, ℕ, ◌<◌, ◌≤◌, ℤ, Option}
use Rattle.host.specs.Channels.{Channels}
use Rattle.regime.specs.Order.{Order}
use Rattle.script.specs.declared.accepted.Script.{Script}
use Rattle.copies.specs.Held.{copies_of, steps_of, tapes_of}
use Rattle.meaning.specs.Programs.{program}
use Rattle.meaning.specs.Visits.{Frame, State, Opening, Plan}
use Rattle.meaning.specs.Answers.{Call, Answer}
use Rattle.meaning.specs.declared.answers.Act.{Act}
use Rattle.engine.specs.Courses.{MayStep}
use Rattle.engine.specs.Serves.{Served, Does, StepMemory}
use Rattle.engine.specs.declared.visit.Visit.{Visit}

-- what a visit is opened with: the script, what the regime answers, and the channels of the host
abbrev pub opening : Script → Order → Channels → Opening
opening s r h = record { script = program s; order = r; host = h }

-- what never changes in a visit, by what the regime answers and what the host's channels are
abbrev pub frame_of : {R H : Type 0} → (R → Order) → (H → Channels) → Visit R H → Frame
frame_of order channels v =
    record { script = program v.script; order = order v.regime; count = (channels v.host).count; capacity = (channels v.host).capacity }

-- what the calls of a visit change: its turns, copies, own steps and tapes, and the lists of its host
abbrev pub state_of : {R H : Type 0} → (H → Channels) → Visit R H → State
state_of channels v =
    record {
      turns = v.course.turns;
      copy = copies_of v.course.copies;
      steps = steps_of v.course.copies;
      tape = tapes_of v.course.tapes;
      lists = (channels v.host).list;
    }

-- The call x of the visit v is answered by a and leaves the visit w: script, regime, channel count and capacities are as
-- they were, and the state and the answer are what the meaning gives.
abbrev pub Serves : {R H : Type 0} → (R → Order) → (H → Channels) → Visit R H → Call → Visit R H → Answer → Type 0
Serves order channels v x w a =
    Served (frame_of order channels v) (state_of channels v) x (frame_of order channels w) (state_of channels w) a

-- script, regime and host of the visit v fit
pub record Fits {R H : Type 0} (order : R → Order) (channels : H → Channels) (v : Visit R H) : Type 0 where
  pub levels : v.script.levels ≡ (order v.regime).size
  pub enough : v.script.channel_count ≤ (channels v.host).count

-- channel k is one of the script's, and the host has those
pub record Port {R H : Type 0} (channels : H → Channels) (v : Visit R H) (k : ℕ) : Type 0 where
  pub known : k < v.script.channel_count
  pub enough : v.script.channel_count ≤ (channels v.host).count

-- the copy at level l may make a step, and has not ended
pub record Running {R H : Type 0} (v : Visit R H) (l : ℕ) : Type 0 where
  pub step : MayStep v.course l
  pub running : (copies_of v.course.copies l).next < v.script.instruction_count

-- The copy at level l of the visit v does as p says of frame and state, which is the act, and leaves the visit w; the
-- host's own memory is then what the host promises of that act.
pub record Acts {R H : Type 0} (order : R → Order) (channels : H → Channels) (puts : H → ℕ → ℤ → H → Type 0) (takes : H → ℕ → H → Type 0) (v : Visit R H) (l : ℕ) (p : Frame → State → Plan) (act : Option Act) (w : Visit R H) : Type 0 where
  pub does : Does (frame_of order channels v) (state_of channels v) l (p (frame_of order channels v) (state_of channels v)) act (frame_of order channels w) (state_of channels w)
  pub memory : StepMemory puts takes v.host act w.host
