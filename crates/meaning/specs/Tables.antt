-- What a copy does next, and what each call answers and leaves, row by row: the laws above `plan` and `respond`.
-- Assumes nothing.
use Rattle.std.specs.Prelude.{◌≡◌, ℕ, suc, ◌%◌, ◌<◌, ◌≤◌, true, false, List, [], ◌∷◌, ◌++◌, length, ℤ, pos, Some, None, Option, ◌≢◌}
use Rattle.refusal.specs.declared.Refusal.TheVariants.{Levels, Channels, Channel, Direction, Level, Full, Empty, Spent}
use Rattle.script.specs.declared.parts.Instruction.{Instruction}
use Rattle.script.specs.declared.parts.Instruction.TheVariants.{Skip, Set, Compute, Jump, Input, Output, Stop}
use Rattle.script.specs.declared.parts.Operation.{Operation}
use Rattle.meaning.specs.Answers.{Call, feed, collect, turn, ask, refused, fed, collected, turned, told, moved_at}
use Rattle.meaning.specs.Arithmetic.{result_of}
use Rattle.meaning.specs.Copies.{Copy, go_to, go_on, assign, further, with_at}
use Rattle.meaning.specs.Programs.{instruction_at}
use Rattle.meaning.specs.Rules.{Gives}
use Rattle.meaning.specs.Visits.{Opening, Frame, State, opened, level_of, outward, default, again, fresh, waits, Plan, go, lacks_value, lacks_space, ended, plan, plan_of, ready, Reply, with_lists, counted, acted, respond}
use Rattle.meaning.specs.declared.answers.Act.{Act}
use Rattle.meaning.specs.declared.answers.Act.TheVariants.{Inner, Took, Reused, Defaulted, Wrote, Withheld}
use Rattle.meaning.specs.declared.answers.Status.TheVariants.{Ready, LacksValue, LacksSpace, Ended}

-- the copy c at level l
module _ (f : Frame) (s : State) (l : ℕ) (c : Copy) where
  -- its next instruction is i
  abbrev pub Next : Instruction → Type 0
  Next i = (c.next < f.script.instruction_count) × (instruction_at f.script c.next ≡ i)

  -- its next act: what instructions within the copy do is inner, what an in does goes by what it gives, and an out writes
  -- to a channel of the copy's own level that has space, waits for space there, and is withheld from all other channels
  pub data Plans : Plan → Type 0 where
    past_the_end : f.script.instruction_count ≤ c.next → Plans ended
    skips : Next Skip → Plans (go Inner (go_on c))
    sets : (t : ℕ) (v : ℤ) → Next (Set t v) → Plans (go Inner (assign c t v))
    computes : (o : Operation) (t a b : ℕ) → Next (Compute o t a b) → Plans (go Inner (assign c t (result_of o (c.registers a) (c.registers b))))
    jumps : (a i : ℕ) → Next (Jump a i) → c.registers a ≢ pos 0 → Plans (go Inner (go_to c i))
    jumps_not : (a i : ℕ) → Next (Jump a i) → c.registers a ≡ pos 0 → Plans (go Inner (go_on c))
    stops : Next Stop → Plans (go Inner (go_to c f.script.instruction_count))
    defaults : (t k : ℕ) → Next (Input t k) → Gives f s l c k default → Plans (go (Defaulted k (pos 0)) (assign c t (pos 0)))
    reuses : (t k : ℕ) (v : ℤ) → Next (Input t k) → Gives f s l c k (again v) → Plans (go (Reused k v) (assign (further c k) t v))
    takes : (t k : ℕ) (v : ℤ) → Next (Input t k) → Gives f s l c k (fresh v) → Plans (go (Took k v) (assign (further c k) t v))
    wants_value : (t k : ℕ) → Next (Input t k) → Gives f s l c k waits → Plans (lacks_value k)
    withholds : (a k : ℕ) → Next (Output a k) → level_of f k ≢ l → Plans (go (Withheld k (c.registers a)) (go_on c))
    writes : (a k : ℕ) → Next (Output a k) → level_of f k ≡ l → length (s.lists k) < f.capacity k → Plans (go (Wrote k (c.registers a)) (go_on c))
    wants_space : (a k : ℕ) → Next (Output a k) → level_of f k ≡ l → f.capacity k ≤ length (s.lists k) → Plans (lacks_space k)

-- every copy does next what one of the rows says
abbrev pub EveryPlan : Type 0
EveryPlan = (f : Frame) (s : State) (l : ℕ) (c : Copy) → Plans f s l c (plan_of f s l c)

-- a visit with frame f in state s
module _ (f : Frame) (s : State) where
  -- script, regime and host fit
  abbrev pub Fit : Type 0
  Fit = (f.script.levels ≡ f.order.size) × (f.script.channel_count ≤ f.count)

  -- and channel k is the script's
  abbrev pub Known : ℕ → Type 0
  Known k = Fit × (k < f.script.channel_count)

  -- and turns are left, of which the next picks p
  abbrev pub Picks : Option ℕ → Type 0
  Picks p = Fit × (s.turns < 1000000) × (f.order.picks (s.turns % f.order.size) (ready f s) ≡ p)

  -- and the script has level a, whose copy plans p
  abbrev pub Asked : ℕ → Plan → Type 0
  Asked a p = Fit × (a < f.script.levels) × (plan f s a ≡ p)

  -- what each call leaves and answers; the first refusal that applies is the one
  pub data Replies : Call → Reply → Type 0 where
    levels_differ : (x : Call) → f.script.levels ≢ f.order.size → Replies x (s, refused Levels)
    channels_lack : (x : Call) → f.script.levels ≡ f.order.size → f.count < f.script.channel_count → Replies x (s, refused Channels)
    feeds_none : (k : ℕ) (v : ℤ) → Fit → f.script.channel_count ≤ k → Replies (feed k v) (s, refused Channel)
    feeds_out : (k : ℕ) (v : ℤ) → Known k → outward f k ≡ true → Replies (feed k v) (s, refused Direction)
    feeds_full : (k : ℕ) (v : ℤ) → Known k → outward f k ≡ false → f.capacity k ≤ length (s.lists k) → Replies (feed k v) (s, refused Full)
    feeds : (k : ℕ) (v : ℤ) → Known k → outward f k ≡ false → length (s.lists k) < f.capacity k →
        Replies (feed k v) (with_lists s (with_at s.lists k (s.lists k ++ (v ∷ []))), fed)
    collects_none : (k : ℕ) → Fit → f.script.channel_count ≤ k → Replies (collect k) (s, refused Channel)
    collects_in : (k : ℕ) → Known k → outward f k ≡ false → Replies (collect k) (s, refused Direction)
    collects_empty : (k : ℕ) → Known k → outward f k ≡ true → s.lists k ≡ [] → Replies (collect k) (s, refused Empty)
    collects : (k : ℕ) (v : ℤ) (vs : List ℤ) → Known k → outward f k ≡ true → s.lists k ≡ v ∷ vs →
        Replies (collect k) (with_lists s (with_at s.lists k vs), collected v)
    spent : Fit → 1000000 ≤ s.turns → Replies turn (s, refused Spent)
    moves_nobody : Picks None → Replies turn (counted s, turned None)
    moves : (a : ℕ) (act : Act) (c : Copy) → Picks (Some a) → plan f s a ≡ go act c → Replies turn (counted (acted s a act c), turned (moved_at a act))
    -- (no lawful regime picks a level that is not ready)
    moves_unready : (a : ℕ) → Picks (Some a) → ready f s a ≡ false → Replies turn (counted s, turned None)
    asks_none : (a : ℕ) → Fit → f.script.levels ≤ a → Replies (ask a) (s, refused Level)
    asks_ready : (a : ℕ) (act : Act) (c : Copy) → Asked a (go act c) → Replies (ask a) (s, told (record { status = Ready; steps = s.steps a }))
    asks_value : (a k : ℕ) → Asked a (lacks_value k) → Replies (ask a) (s, told (record { status = LacksValue k; steps = s.steps a }))
    asks_space : (a k : ℕ) → Asked a (lacks_space k) → Replies (ask a) (s, told (record { status = LacksSpace k; steps = s.steps a }))
    asks_ended : (a : ℕ) → Asked a ended → Replies (ask a) (s, told (record { status = Ended; steps = s.steps a }))

-- every call is answered as one of the rows says
abbrev pub EveryReply : Type 0
EveryReply = (f : Frame) (s : State) (x : Call) → Replies f s x (respond f s x)

-- the ready levels are those of the script whose copies go on
pub record Readiness (f : Frame) (s : State) (a : ℕ) : Type 0 where
  pub goes : (act : Act) (c : Copy) → a < f.script.levels → plan f s a ≡ go act c → ready f s a ≡ true
  pub only : ready f s a ≡ true → (a < f.script.levels) × (act : Act) × (c : Copy) × (plan f s a ≡ go act c)

-- the same in every state and of every number as level
abbrev pub EveryReadiness : Type 0
EveryReadiness = (f : Frame) (s : State) (a : ℕ) → Readiness f s a

-- What the words for a change of a copy say: what is set, and what stays.
pub record CopyChanges (c : Copy) : Type 0 where
  pub assign_sets : (t : ℕ) (v : ℤ) → ((assign c t v).next ≡ suc c.next) × ((assign c t v).registers t ≡ v)
  pub assign_keeps : (t : ℕ) (v : ℤ) → ((i : ℕ) → i ≢ t → (assign c t v).registers i ≡ c.registers i) × ((assign c t v).positions ≡ c.positions)
  pub further_moves : (k : ℕ) → (further c k).positions k ≡ suc (c.positions k)
  pub further_keeps : (k : ℕ) →
      ((j : ℕ) → j ≢ k → (further c k).positions j ≡ c.positions j) × ((further c k).next ≡ c.next) × ((further c k).registers ≡ c.registers)
  pub goes_to : (i : ℕ) → ((go_to c i).next ≡ i) × ((go_to c i).registers ≡ c.registers) × ((go_to c i).positions ≡ c.positions)
  pub goes_on : go_on c ≡ go_to c (suc c.next)

-- And those for a change of a state: by an act of the copy at level a, which then is c; and by one turn more. Which lists
-- and tapes an act changes follows from conservation and from the promise about tapes.
pub record StateChanges (s : State) (a : ℕ) (act : Act) (c : Copy) : Type 0 where
  pub acts_on : ((acted s a act c).copy a ≡ c) × ((acted s a act c).steps a ≡ suc (s.steps a)) × ((acted s a act c).turns ≡ s.turns)
  pub acts_alone : (j : ℕ) → j ≢ a → ((acted s a act c).copy j ≡ s.copy j) × ((acted s a act c).steps j ≡ s.steps j)
  pub counts : counted s ≡ record { turns = suc s.turns; copy = s.copy; steps = s.steps; tape = s.tape; lists = s.lists }

-- the same of every copy and state, every level and every act
abbrev pub EveryChange : Type 0
EveryChange = (s : State) (a : ℕ) (act : Act) (c : Copy) → CopyChanges c × StateChanges s a act c

-- How a visit begins that is opened with o.
pub record Begins (o : Opening) : Type 0 where
  pub turns : (opened o).turns ≡ 0
  pub next : (l : ℕ) → ((opened o).copy l).next ≡ 0
  pub registers : (l i : ℕ) → ((opened o).copy l).registers i ≡ pos 0
  pub positions : (l k : ℕ) → ((opened o).copy l).positions k ≡ 0
  pub steps : (l : ℕ) → (opened o).steps l ≡ 0
  pub tapes : (k : ℕ) → (opened o).tape k ≡ []
  pub lists : (opened o).lists ≡ o.host.list

-- the same of every opening
abbrev pub EveryBeginning : Type 0
EveryBeginning = (o : Opening) → Begins o
