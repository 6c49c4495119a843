-- What is promised of every visit: of every script, every regime that keeps the laws, every host, and every log of
-- calls. Assumes nothing.
use Rattle.std.specs.Prelude.{◌≡◌, ℕ, ◌<◌, ◌≤◌, true, false, ◌⊎◌, List, [], ◌∷◌, ◌++◌, map, length, pos, Some, None, ◌≢◌}
use Rattle.refusal.specs.declared.Refusal.{Refusal}
use Rattle.refusal.specs.declared.Refusal.TheVariants.{Levels, Channels, Spent}
use Rattle.regime.specs.Order as regime
use Rattle.regime.specs.Order.{Order, Lawful}
use Rattle.meaning.specs.Answers.{Call, turn, ask, Answer, refused, turned, told, in_numbers}
use Rattle.meaning.specs.Copies.{Plain, plain_run}
use Rattle.meaning.specs.Logs.{log, reached, logged, accepted, taken, moves_of, accepted_turns, some_move, written_by, taken_by_copies, kept, seen}
use Rattle.meaning.specs.Numbers.{status_number, channel_lacked}
use Rattle.meaning.specs.Programs.{Sound, level_at}
use Rattle.meaning.specs.Visits.{Opening, Frame, framed, State, ready, choice, level_of, same_levels, enough_channels, respond}
use Rattle.meaning.specs.declared.answers.Act.{Act}
use Rattle.meaning.specs.declared.answers.Act.TheVariants.{Inner, Took, Reused, Defaulted, Wrote, Withheld}
use Rattle.meaning.specs.declared.answers.Moved.{Moved}
use Rattle.meaning.specs.declared.answers.Status.TheVariants.{Ready}
use Rattle.meaning.specs.declared.answers.Standing.{Standing}

-- two regimes give the same answers to every question that can be asked of n levels: flow between levels, and picks for
-- places below n and sets of levels
pub record SameAnswers (r q : Order) : Type 0 where
  pub size : r.size ≡ q.size
  pub flows : (a b : ℕ) → a < r.size → b < r.size → r.flows a b ≡ q.flows a b
  pub picks : (p : ℕ) (s : regime.Levels) → p < r.size → ((a : ℕ) → s a ≡ true → a < r.size) → r.picks p s ≡ q.picks p s

-- channel k of the script is one that the host has, and flows to level l
abbrev pub FlowsTo : Opening → ℕ → ℕ → Type 0
FlowsTo o l k = (k < o.script.channel_count) × (k < o.host.count) × (o.order.flows (level_at o.script k) l ≡ true)

-- two openings are begun alike at level l
pub record BegunAlike (l : ℕ) (o p : Opening) : Type 0 where
  pub script : o.script ≡ p.script
  pub regime : SameAnswers o.order p.order
  pub count : o.host.count ≡ p.host.count
  pub list : (k : ℕ) → FlowsTo o l k → o.host.list k ≡ p.host.list k
  pub capacity : (k : ℕ) → FlowsTo o l k → o.host.capacity k ≡ p.host.capacity k

-- two logs are called alike at level l: the same calls, the struck ones left out
abbrev pub CalledAlike : ℕ → Opening → List Call → Opening → List Call → Type 0
CalledAlike l o xs p ys = kept o.script o.order l xs ≡ kept p.script p.order l ys

-- what level l sees of the log that calls leave
abbrev pub sees : ℕ → Opening → List Call → List Answer
sees l o calls = seen o.script o.order l (logged o calls)

-- two logs are the same seen from level l: the same answers, one by one and in order, as values and in numbers
pub record SeenAlike (l : ℕ) (o : Opening) (xs : List Call) (p : Opening) (ys : List Call) : Type 0 where
  pub answers : sees l o xs ≡ sees l p ys
  pub numbers : map in_numbers (sees l o xs) ≡ map in_numbers (sees l p ys)

-- SECRECY. Two logs begun alike and called alike at a level are the same seen from it.
abbrev pub Secrecy : Opening → Type 0
Secrecy o =
    (l : ℕ) (p : Opening) → Lawful p.order → BegunAlike l o p → (xs ys : List Call) → CalledAlike l o xs p ys → SeenAlike l o xs p ys

-- CONSERVATION. For each channel of the host: what it held and then accepted is what was taken from it and what it holds.
abbrev pub Conservation : Opening → Type 0
Conservation o =
    (calls : List Call) (k : ℕ) → o.host.list k ++ accepted k (logged o calls) ≡ taken k (logged o calls) ++ (reached o calls).lists k

-- PROGRESS. Where a copy is ready, and the calls that follow have as many accepted turns as there are levels, one of
-- those turns moves a copy.
abbrev pub Progress : Opening → Type 0
Progress o =
    (before calls : List Call) (a : ℕ) → ready (framed o) (reached o before) a ≡ true →
    o.script.levels ≤ accepted_turns (log (framed o) (reached o before) calls) →
    some_move (log (framed o) (reached o before) calls) ≡ true

-- the plain run of level l: given the tapes, as they are after the calls, of the channels that flow to l, and run for as
-- many steps as the copy at l
abbrev pub plain_of : Opening → List Call → ℕ → Plain
plain_of o calls l =
    plain_run o.script (λ k. o.order.flows (level_at o.script k) l) (reached o calls).tape ((reached o calls).steps l)

-- AGREEMENT WITH THE PLAIN RUN. After every log each copy is where the plain run of its level is after as many steps.
pub record Agrees (o : Opening) (calls : List Call) (l : ℕ) : Type 0 where
  pub next : ((reached o calls).copy l).next ≡ (plain_of o calls l).copy.next
  pub registers : (i : ℕ) → ((reached o calls).copy l).registers i ≡ (plain_of o calls l).copy.registers i
  pub positions : (k : ℕ) → ((reached o calls).copy l).positions k ≡ (plain_of o calls l).copy.positions k
  pub written : (k : ℕ) → level_at o.script k ≡ l → written_by l k (logged o calls) ≡ (plain_of o calls l).written k

-- It is so after every log, of every level.
abbrev pub Agreement : Opening → Type 0
Agreement o = (calls : List Call) (l : ℕ) → Agrees o calls l

-- OWN STEPS. What the question about l answers as own steps is the number of turns of the log that moved the copy at l.
abbrev pub OwnSteps : Opening → Type 0
OwnSteps o =
    (calls : List Call) (l : ℕ) →
    ((reached o calls).steps l ≡ moves_of l (logged o calls))
    × ((a : Standing) → (respond (framed o) (reached o calls) (ask l)).1 ≡ told a →
    in_numbers (told a) ≡ pos 5 ∷ pos (status_number a.status) ∷ pos (channel_lacked a.status) ∷ pos (moves_of l (logged o calls)) ∷ [])

-- TAPES. A tape is what copies took from its channel, in order.
abbrev pub Tapes : Opening → Type 0
Tapes o = (calls : List Call) (k : ℕ) → (reached o calls).tape k ≡ taken_by_copies k (logged o calls)

-- TURNS. The turns so far are the accepted turns of the log; a call is refused as spent only if it is a turn and they are
-- 1,000,000; and where script, regime and host fit, a turn then is.
pub record Turns (o : Opening) : Type 0 where
  pub counted : (calls : List Call) → (reached o calls).turns ≡ accepted_turns (logged o calls)
  pub only : (calls : List Call) (x : Call) → (respond (framed o) (reached o calls) x).1 ≡ refused Spent → (x ≡ turn) × (accepted_turns (logged o calls) ≡ 1000000)
  pub then : (calls : List Call) → same_levels (framed o) ≡ true → enough_channels (framed o) ≡ true →
      accepted_turns (logged o calls) ≡ 1000000 → (respond (framed o) (reached o calls) turn).1 ≡ refused Spent

-- MOVES. A turn moves a level only where the question about it, asked right before, would answer ready, and leaves all
-- other copies as they are; it answers nobody only where the regime picks nobody of the ready levels.
pub record Moves (o : Opening) (calls : List Call) : Type 0 where
  pub moved : (m : Moved) → (respond (framed o) (reached o calls) turn).1 ≡ turned (Some m) →
      (respond (framed o) (reached o calls) (ask m.level)).1 ≡ told (record { status = Ready; steps = moves_of m.level (logged o calls) })
  pub others : (m : Moved) → (respond (framed o) (reached o calls) turn).1 ≡ turned (Some m) → (j : ℕ) → (j ≢ m.level) →
      (respond (framed o) (reached o calls) turn).0.copy j ≡ (reached o calls).copy j
  pub nobody : (respond (framed o) (reached o calls) turn).1 ≡ turned None → choice (framed o) (reached o calls) ≡ None

-- what holds of an act of the copy at level l
abbrev pub Rightful : Frame → State → ℕ → Act → Type 0
Rightful f s l Inner = Unit {0}
-- it takes and writes on channels of its own level alone
Rightful f s l (Took k v) = level_of f k ≡ l
Rightful f s l (Wrote k v) = level_of f k ≡ l
-- it reuses what flows to its level from another
Rightful f s l (Reused k v) = (f.order.flows (level_of f k) l ≡ true) × (level_of f k ≢ l)
-- it is given 0 where the channel does not flow to it, and past the tape
Rightful f s l (Defaulted k v) = (v ≡ pos 0) × ((f.order.flows (level_of f k) l ≡ false) ⊎ ((s.copy l).positions k ≡ 64))
-- what it writes to another level's channel is withheld
Rightful f s l (Withheld k v) = level_of f k ≡ l → ⊥

-- ACTS. Every act of a log is rightful.
abbrev pub Acts : Opening → Type 0
Acts o =
    (calls : List Call) (m : Moved) → (respond (framed o) (reached o calls) turn).1 ≡ turned (Some m) →
    Rightful (framed o) (reached o calls) m.level m.act

-- REFUSALS. A refused call changes nothing; where script and regime differ in the number of levels every call is refused
-- for that, and else, where the host has too few channels, for this.
pub record Refusals (o : Opening) : Type 0 where
  pub unchanged : (calls : List Call) (x : Call) (e : Refusal) → (respond (framed o) (reached o calls) x).1 ≡ refused e → (respond (framed o) (reached o calls) x).0 ≡ reached o calls
  pub levels : same_levels (framed o) ≡ false → (calls : List Call) (x : Call) → (respond (framed o) (reached o calls) x).1 ≡ refused Levels
  pub channels : same_levels (framed o) ≡ true → enough_channels (framed o) ≡ false → (calls : List Call) (x : Call) → (respond (framed o) (reached o calls) x).1 ≡ refused Channels

-- LIMITS. What no log exceeds.
pub record Limits (f : Frame) (s : State) : Type 0 where
  pub turns : s.turns ≤ 1000000
  pub tape : (k : ℕ) → length (s.tape k) ≤ 64
  pub position : (l k : ℕ) → (s.copy l).positions k ≤ length (s.tape k)
  pub next : (l : ℕ) → (s.copy l).next ≤ f.script.instruction_count
  pub steps : (l : ℕ) → s.steps l ≤ s.turns

-- No log from this opening exceeds them.
abbrev pub Limited : Opening → Type 0
Limited o = (calls : List Call) → Limits (framed o) (reached o calls)

-- ALL PROMISES, of the visits that are opened with o.
pub record Promises (o : Opening) : Type 0 where
  pub secrecy : Secrecy o
  pub conservation : Conservation o
  pub progress : Progress o
  pub agreement : Agreement o
  pub own_steps : OwnSteps o
  pub tapes : Tapes o
  pub turns : Turns o
  pub moves : (calls : List Call) → Moves o calls
  pub acts : Acts o
  pub refusals : Refusals o
  pub limits : Limited o

-- They are kept by every opening with a sound script and a lawful regime.
abbrev pub Kept : Type 0
Kept = (o : Opening) → Lawful o.order → Sound o.script → Promises o
