-- What a visit is made of, and how it answers a call. Assumes nothing.
use Rattle.std.specs.Prelude.{ℕ, suc, ◌%◌, Bool, true, false, cond, ◌&&◌, List, [], ◌∷◌, ◌++◌, length, ℤ, pos, Some, None, Option, ◌==◌, nat_le, nat_lt}
use Rattle.refusal.specs.declared.Refusal.TheVariants.{Levels, Channels, Channel, Direction, Level, Full, Empty, Spent}
use Rattle.host.specs.Channels.{rest}
use Rattle.host.specs.Channels as host
use Rattle.regime.specs.Order as regime
use Rattle.regime.specs.Order.{Order}
use Rattle.script.specs.declared.parts.Instruction.{Instruction}
use Rattle.script.specs.declared.parts.Instruction.TheVariants.{Skip, Set, Compute, Jump, Input, Output, Stop}
use Rattle.meaning.specs.Answers.{Call, feed, collect, turn, ask, Answer, refused, fed, collected, turned, told, moved_at}
use Rattle.meaning.specs.Arithmetic.{is_zero, result_of}
use Rattle.meaning.specs.Copies.{Copy, first, go_to, go_on, assign, further, with_at, nth}
use Rattle.meaning.specs.Programs.{Program, level_at, outward_at, instruction_at}
use Rattle.meaning.specs.declared.answers.Act.{Act}
use Rattle.meaning.specs.declared.answers.Act.TheVariants.{Inner, Took, Reused, Defaulted, Wrote, Withheld}
use Rattle.meaning.specs.declared.answers.Status.{Status}
use Rattle.meaning.specs.declared.answers.Status.TheVariants.{Ready, LacksValue, LacksSpace, Ended}

-- What a visit is opened with: a script, what its regime answers, and the channels of its host.
pub record Opening : Type 0 where
  pub script : Program
  pub order : Order
  pub host : host.Channels

-- What never changes in a visit.
pub record Frame : Type 0 where
  pub script : Program
  pub order : Order
  pub count : ℕ
  pub capacity : ℕ → ℕ

-- What its calls change: the accepted turns so far, the copy at each level and its own steps, the tape of each channel,
-- and the lists of the host.
pub record State : Type 0 where
  pub turns : ℕ
  pub copy : ℕ → Copy
  pub steps : ℕ → ℕ
  pub tape : ℕ → List ℤ
  pub lists : ℕ → List ℤ

-- what never changes in a visit that is opened so
abbrev pub framed : Opening → Frame
framed o = record { script = o.script; order = o.order; count = o.host.count; capacity = o.host.capacity }

-- the state that a visit begins in: no turn so far, every copy as it begins, every tape empty, the lists as handed over
abbrev pub opened : Opening → State
opened o = record { turns = 0; copy = λ _. first; steps = λ _. 0; tape = λ _. []; lists = o.host.list }

-- the level of channel k
abbrev pub level_of : Frame → ℕ → ℕ
level_of f k = level_at f.script k

-- has the script a channel k
abbrev pub known : Frame → ℕ → Bool
known f k = nat_lt k f.script.channel_count

-- do values go out by channel k
abbrev pub outward : Frame → ℕ → Bool
outward f k = outward_at f.script k

-- does the host hold fewer values on channel k than its capacity there
abbrev pub has_space : Frame → State → ℕ → Bool
has_space f s k = nat_lt (length (s.lists k)) (f.capacity k)

-- What a copy does next: it goes on, by an act and to a new copy; or it lacks a value or space on a channel; or it has
-- ended.
pub data Plan : Type 0 where
  go : Act → Copy → Plan
  lacks_value : ℕ → Plan
  lacks_space : ℕ → Plan
  ended : Plan

-- what an in gives: 0, a value of the tape, a value of the host, or nothing yet
pub data Got : Type 0 where
  default : Got
  again : ℤ → Got
  fresh : ℤ → Got
  waits : Got

-- what an in gives, by: does the channel flow to the copy's level; is its position below 64; the tape's value there; is
-- the channel of the copy's level; the oldest value that the host has on it. Rules.antt has the law
abbrev pub got : Bool → Bool → Option ℤ → Bool → Option ℤ → Got
got false early next own oldest = default
got true false next own oldest = default
got true true (Some v) own oldest = again v
got true true None true (Some v) = fresh v
got true true None true None = waits
got true true None false oldest = waits

-- what a copy does by an in from channel k to register t, by what the in gives
abbrev pub read_plan : Copy → ℕ → ℕ → Got → Plan
read_plan c t k default = go (Defaulted k (pos 0)) (assign c t (pos 0))
read_plan c t k (again v) = go (Reused k v) (assign (further c k) t v)
read_plan c t k (fresh v) = go (Took k v) (assign (further c k) t v)
read_plan c t k waits = lacks_value k

-- what a copy does by an out of v to channel k, by: is the channel of the copy's level; has it space
abbrev pub write_plan : Copy → ℕ → ℤ → Bool → Bool → Plan
write_plan c k v false space = go (Withheld k v) (go_on c)
write_plan c k v true true = go (Wrote k v) (go_on c)
write_plan c k v true false = lacks_space k

-- of the copy at level l
module _ (f : Frame) (s : State) (l : ℕ) where
  -- what an in from channel k gives it
  abbrev pub gets : Copy → ℕ → Got
  gets c k =
      got (f.order.flows (level_of f k) l) (nat_lt (c.positions k) 64) (nth (s.tape k) (c.positions k)) (level_of f k == l) (nth (s.lists k) 0)

  -- what it does by one instruction
  abbrev pub plan_do : Copy → Instruction → Plan
  plan_do c Skip = go Inner (go_on c)
  plan_do c (Set t v) = go Inner (assign c t v)
  plan_do c (Compute o t a b) = go Inner (assign c t (result_of o (c.registers a) (c.registers b)))
  plan_do c (Jump a i) = go Inner (go_to c (cond (is_zero (c.registers a)) (suc c.next) i))
  plan_do c (Input t k) = read_plan c t k (gets c k)
  plan_do c (Output a k) = write_plan c k (c.registers a) (level_of f k == l) (has_space f s k)
  plan_do c Stop = go Inner (go_to c f.script.instruction_count)

  -- what it does next, if c is what it holds
  abbrev pub plan_of : Copy → Plan
  plan_of c = cond (nat_lt c.next f.script.instruction_count) (plan_do c (instruction_at f.script c.next)) ended

  -- what it does next
  abbrev pub plan : Plan
  plan = plan_of (s.copy l)

-- the status of a copy, by what it does next
abbrev pub status : Plan → Status
status (go act c) = Ready
status (lacks_value k) = LacksValue k
status (lacks_space k) = LacksSpace k
status ended = Ended

-- does the status say that the copy is ready
abbrev pub is_ready : Status → Bool
is_ready Ready = true
is_ready (LacksValue k) = false
is_ready (LacksSpace k) = false
is_ready Ended = false

-- the levels whose copies are ready; nothing from n on is a level
abbrev pub ready : Frame → State → regime.Levels
ready f s a = nat_lt a f.script.levels && is_ready (status (plan f s a))

-- a value more at the end of the list of channel k
abbrev pub put_on : ℕ → ℤ → (ℕ → List ℤ) → ℕ → List ℤ
put_on k v lists = with_at lists k (lists k ++ (v ∷ []))

-- the oldest value of the list of channel k taken off, if there is one
abbrev pub take_off : ℕ → (ℕ → List ℤ) → ℕ → List ℤ
take_off k lists = with_at lists k (rest (lists k))

-- the host's lists after an act: took takes from one, and wrote puts to one
abbrev pub lists_after : Act → (ℕ → List ℤ) → ℕ → List ℤ
lists_after Inner lists = lists
lists_after (Took k v) lists = take_off k lists
lists_after (Reused k v) lists = lists
lists_after (Defaulted k v) lists = lists
lists_after (Wrote k v) lists = put_on k v lists
lists_after (Withheld k v) lists = lists

-- the tapes after an act: took adds its value to one, and no other act changes any
abbrev pub tapes_after : Act → (ℕ → List ℤ) → ℕ → List ℤ
tapes_after Inner tapes = tapes
tapes_after (Took k v) tapes = put_on k v tapes
tapes_after (Reused k v) tapes = tapes
tapes_after (Defaulted k v) tapes = tapes
tapes_after (Wrote k v) tapes = tapes
tapes_after (Withheld k v) tapes = tapes

-- the state with other lists
abbrev pub with_lists : State → (ℕ → List ℤ) → State
with_lists s lists = record { turns = s.turns; copy = s.copy; steps = s.steps; tape = s.tape; lists = lists }

-- the state with one turn more
abbrev pub counted : State → State
counted s = record { turns = suc s.turns; copy = s.copy; steps = s.steps; tape = s.tape; lists = s.lists }

-- the state after an act of the copy at level a, which then is c and has one own step more
abbrev pub acted : State → ℕ → Act → Copy → State
acted s a act c =
    record {
      turns = s.turns;
      copy = with_at s.copy a c;
      steps = with_at s.steps a (suc (s.steps a));
      tape = tapes_after act s.tape;
      lists = lists_after act s.lists;
    }

-- what a call leaves: the state after it, and its answer
abbrev pub Reply : Type 0
Reply = State × Answer

-- a feed of v to channel k, by: is the channel the script's; do values go out by it; has it space
abbrev pub feeding : State → ℕ → ℤ → Bool → Bool → Bool → Reply
feeding s k v false out space = (s, refused Channel)
feeding s k v true true space = (s, refused Direction)
feeding s k v true false false = (s, refused Full)
feeding s k v true false true = (with_lists s (put_on k v s.lists), fed)

-- a collect from channel k, by: is the channel the script's; do values go out by it; its oldest value
abbrev pub collecting : State → ℕ → Bool → Bool → Option ℤ → Reply
collecting s k false out oldest = (s, refused Channel)
collecting s k true false oldest = (s, refused Direction)
collecting s k true true None = (s, refused Empty)
collecting s k true true (Some v) = (with_lists s (take_off k s.lists), collected v)

-- the copy at level a, which was picked, does as it plans (under a lawful regime it always goes on)
abbrev pub moving : State → ℕ → Plan → Reply
moving s a (go act c) = (counted (acted s a act c), turned (moved_at a act))
moving s a (lacks_value k) = (counted s, turned None)
moving s a (lacks_space k) = (counted s, turned None)
moving s a ended = (counted s, turned None)

-- a turn by whom the regime picks: nobody, and only the turns are one more; or the copy of a level, which moves
abbrev pub picked : Frame → State → Option ℕ → Reply
picked f s None = (counted s, turned None)
picked f s (Some a) = moving s a (plan f s a)

-- who is picked: the place is the accepted turns so far modulo the number of levels
abbrev pub choice : Frame → State → Option ℕ
choice f s = f.order.picks (s.turns % f.order.size) (ready f s)

-- a turn, by: are there turns left
abbrev pub turning : Frame → State → Bool → Reply
turning f s true = picked f s (choice f s)
turning f s false = (s, refused Spent)

-- a question about level a, by: is the level the script's
abbrev pub asking : Frame → State → ℕ → Bool → Reply
asking f s a true = (s, told (record { status = status (plan f s a); steps = s.steps a }))
asking f s a false = (s, refused Level)

-- a call of a visit whose script, regime and host fit
abbrev pub serve : Frame → State → Call → Reply
serve f s (feed k v) = feeding s k v (known f k) (outward f k) (has_space f s k)
serve f s (collect k) = collecting s k (known f k) (outward f k) (nth (s.lists k) 0)
serve f s turn = turning f s (nat_lt s.turns 1000000)
serve f s (ask a) = asking f s a (nat_lt a f.script.levels)

-- have script and regime the same number of levels
abbrev pub same_levels : Frame → Bool
same_levels f = f.script.levels == f.order.size

-- has the host as many channels as the script
abbrev pub enough_channels : Frame → Bool
enough_channels f = nat_le f.script.channel_count f.count

-- a call of any visit, by: are the levels the same; has the host enough channels
abbrev pub admit : Frame → State → Call → Bool → Bool → Reply
admit f s x false enough = (s, refused Levels)
admit f s x true false = (s, refused Channels)
admit f s x true true = serve f s x

-- what a call leaves and answers
abbrev pub respond : Frame → State → Call → Reply
respond f s x = admit f s x (same_levels f) (enough_channels f)
