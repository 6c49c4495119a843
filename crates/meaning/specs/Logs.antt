-- Logs: calls with their answers, and what is read off them. Assumes nothing.
use Rattle.std.specs.Prelude.{ℕ, suc, Bool, true, false, cond, not, ◌&&◌, ◌||◌, List, [], ◌∷◌, ◌++◌, ℤ, Some, None, ◌==◌, nat_eq, nat_lt}
use Rattle.regime.specs.Order.{Order}
use Rattle.meaning.specs.Answers.{Call, feed, collect, turn, ask, Answer, refused, fed, collected, turned, told}
use Rattle.meaning.specs.Programs.{Program, level_at}
use Rattle.meaning.specs.Visits.{Frame, State, Opening, framed, opened, respond}
use Rattle.meaning.specs.declared.answers.Act.{Act}
use Rattle.meaning.specs.declared.answers.Act.TheVariants.{Inner, Took, Reused, Defaulted, Wrote, Withheld}

-- all calls in order, refused ones too, each with its answer
abbrev pub Log : Type 0
Log = List (Call × Answer)

-- the state that calls lead to from a state
abbrev pub after : Frame → State → List Call → State
after f s [] = s
after f s (x ∷ xs) = after f (respond f s x).0 xs

-- the log that calls leave from a state on
abbrev pub log : Frame → State → List Call → Log
log f s [] = []
log f s (x ∷ xs) = (x, (respond f s x).1) ∷ log f (respond f s x).0 xs

-- the state that calls lead to from an opening
abbrev pub reached : Opening → List Call → State
reached o calls = after (framed o) (opened o) calls

-- the log that calls leave from an opening on
abbrev pub logged : Opening → List Call → Log
logged o calls = log (framed o) (opened o) calls

-- a call is accepted when its answer is no refusal
abbrev pub is_accepted : Answer → Bool
is_accepted (refused e) = false
is_accepted fed = true
is_accepted (collected v) = true
is_accepted (turned t) = true
is_accepted (told a) = true

-- what is read off an answer that the copy at a level moved, by an act; and off any other answer
abbrev pub by_move : {A : Type 0} → (ℕ → Act → A) → A → Answer → A
by_move g d (turned (Some m)) = g m.level m.act
by_move g d (turned None) = d
by_move g d (refused e) = d
by_move g d fed = d
by_move g d (collected v) = d
by_move g d (told a) = d

-- the value v where the channel j is k, and nothing elsewhere
abbrev pub on : ℕ → ℕ → ℤ → List ℤ
on j k v = cond (k == j) (v ∷ []) []

-- what an act puts to channel k of the host: the value of a wrote act on it
abbrev pub puts : ℕ → Act → List ℤ
puts k Inner = []
puts k (Took j v) = []
puts k (Reused j v) = []
puts k (Defaulted j v) = []
puts k (Wrote j v) = on j k v
puts k (Withheld j v) = []

-- what an act takes from channel k of the host: the value of a took act on it
abbrev pub takes : ℕ → Act → List ℤ
takes k Inner = []
takes k (Took j v) = on j k v
takes k (Reused j v) = []
takes k (Defaulted j v) = []
takes k (Wrote j v) = []
takes k (Withheld j v) = []

-- what a collect from channel j that answers so takes from channel k: the value collected, where j is k
abbrev pub collects : ℕ → ℕ → Answer → List ℤ
collects j k (collected v) = on j k v
collects j k (refused e) = []
collects j k fed = []
collects j k (turned t) = []
collects j k (told a) = []

-- what channel k accepts by an entry: the value of an accepted feed to it, or of a wrote act on it
abbrev pub accepts : ℕ → Call → Answer → List ℤ
accepts k (feed j v) a = cond (is_accepted a) (on j k v) []
accepts k (collect j) a = []
accepts k turn a = by_move (λ l act. puts k act) [] a
accepts k (ask l) a = []

-- what is taken from channel k by an entry: the value of an accepted collect from it, or of a took act on it
abbrev pub taken_by : ℕ → Call → Answer → List ℤ
taken_by k (feed j v) a = []
taken_by k (collect j) a = collects j k a
taken_by k turn a = by_move (λ l act. takes k act) [] a
taken_by k (ask l) a = []

-- what channel k accepts in a log, in order
abbrev pub accepted : ℕ → Log → List ℤ
accepted k [] = []
accepted k (e ∷ es) = accepts k e.0 e.1 ++ accepted k es

-- what is taken from channel k in a log, in order
abbrev pub taken : ℕ → Log → List ℤ
taken k [] = []
taken k (e ∷ es) = taken_by k e.0 e.1 ++ taken k es

-- does the answer say that the copy at level l moved
abbrev pub moves : ℕ → Answer → Bool
moves l = by_move (λ a act. nat_eq l a) false

-- does the answer say that some copy moved
abbrev pub is_move : Answer → Bool
is_move = by_move (λ a act. true) false

-- is the call a turn
abbrev pub is_turn : Call → Bool
is_turn turn = true
is_turn (feed k v) = false
is_turn (collect k) = false
is_turn (ask l) = false

-- one more than n where it is so, else n
abbrev pub count_if : Bool → ℕ → ℕ
count_if true n = suc n
count_if false n = n

-- how many turns moved the copy at level l
abbrev pub moves_of : ℕ → Log → ℕ
moves_of l [] = 0
moves_of l (e ∷ es) = count_if (moves l e.1) (moves_of l es)

-- how many turns were accepted
abbrev pub accepted_turns : Log → ℕ
accepted_turns [] = 0
accepted_turns (e ∷ es) = count_if (is_turn e.0 && is_accepted e.1) (accepted_turns es)

-- did a turn move a copy
abbrev pub some_move : Log → Bool
some_move [] = false
some_move (e ∷ es) = is_move e.1 || some_move es

-- what the copy at level l wrote on channel k, in order
abbrev pub written_by : ℕ → ℕ → Log → List ℤ
written_by l k [] = []
written_by l k (e ∷ es) = by_move (λ a act. cond (l == a) (puts k act) []) [] e.1 ++ written_by l k es

-- what copies took from channel k, in order
abbrev pub taken_by_copies : ℕ → Log → List ℤ
taken_by_copies k [] = []
taken_by_copies k (e ∷ es) = by_move (λ a act. takes k act) [] e.1 ++ taken_by_copies k es

-- Struck at level l are feeds and collects on the script's channels, and questions about the script's levels, that do
-- not flow to l.
abbrev pub struck : Program → Order → ℕ → Call → Bool
struck sc r l (feed k v) = nat_lt k sc.channel_count && not (r.flows (level_at sc k) l)
struck sc r l (collect k) = nat_lt k sc.channel_count && not (r.flows (level_at sc k) l)
struck sc r l turn = false
struck sc r l (ask a) = nat_lt a sc.levels && not (r.flows a l)

-- the calls that are not struck, in order
abbrev pub kept : Program → Order → ℕ → List Call → List Call
kept sc r l [] = []
kept sc r l (x ∷ xs) = cond (struck sc r l x) (kept sc r l xs) (x ∷ kept sc r l xs)

-- an answer as level l sees it: that a level which does not flow to l moved counts as nobody
abbrev pub shown : Order → ℕ → Answer → Answer
shown r l (turned (Some m)) = cond (r.flows m.level l) (turned (Some m)) (turned None)
shown r l (turned None) = turned None
shown r l (refused e) = refused e
shown r l fed = fed
shown r l (collected v) = collected v
shown r l (told a) = told a

-- what level l sees of a log: the answers to the calls that are not struck
abbrev pub seen : Program → Order → ℕ → Log → List Answer
seen sc r l [] = []
seen sc r l (e ∷ es) = cond (struck sc r l e.0) (seen sc r l es) (shown r l e.1 ∷ seen sc r l es)
