-- What the channels of a host are, and what its calls answer and leave. Assumes nothing.
use Rattle.std.specs.Prelude.{ℕ, ◌-◌, ◌<◌, ◌≤◌, cond, List, [], ◌∷◌, ◌++◌, length, ℤ, Ok, Err, Result, ◌==◌, nat_lt}
use Rattle.refusal.specs.declared.Refusal.{Refusal}
use Rattle.refusal.specs.declared.Refusal.TheVariants.{Channel, Full, Empty}

-- how many channels there are, what each can hold, and what each holds, oldest first
pub record Channels : Type 0 where
  pub count : ℕ
  pub capacity : ℕ → ℕ
  pub list : ℕ → List ℤ

-- 0 to 16 channels, each of a capacity of 1 to 65,535; a list may be longer than that
pub record Lawful (b : Channels) : Type 0 where
  pub few : b.count ≤ 16
  pub roomy : (c : ℕ) → c < b.count → 1 ≤ b.capacity c
  pub bounded : (c : ℕ) → c < b.count → b.capacity c ≤ 65535

-- one channel has another list; count, capacities and all other lists are as they were
abbrev pub with_list : Channels → ℕ → List ℤ → Channels
with_list b c vs = record { count = b.count; capacity = b.capacity; list = λ d. cond (d == c) vs (b.list d) }

-- what a call leaves: the first where it is accepted, and the second where it is refused
abbrev pub on_ok : {A X : Type 0} → Result A Refusal → X → X → X
on_ok (Ok _) x y = x
on_ok (Err _) x y = y

-- what holds of an accepted call; of a refused one it says nothing
abbrev pub IfAccepted : {A : Type 0} → Result A Refusal → Type 0 → Type 0
IfAccepted (Ok _) P = P
IfAccepted (Err _) P = Unit {0}

-- what holds of a refused call; of an accepted one it says nothing
abbrev pub IfRefused : {A : Type 0} → Result A Refusal → Type 0 → Type 0
IfRefused (Ok _) P = Unit {0}
IfRefused (Err _) P = P

-- CHANNEL where there is no such channel, else the answer r
abbrev pub of_channel : {A : Type 0} → Channels → ℕ → Result A Refusal → Result A Refusal
of_channel b c r = cond (nat_lt c b.count) r (Err Channel)

-- what held answers: how many values the channel holds
abbrev pub stored : Channels → ℕ → Result ℕ Refusal
stored b c = of_channel b c (Ok (length (b.list c)))

-- what space answers: how many more values the channel can take, 0 where it holds its capacity or more (- stops at 0)
abbrev pub lacking : Channels → ℕ → Result ℕ Refusal
lacking b c = of_channel b c (Ok (b.capacity c - length (b.list c)))

-- whether one value more fits a list of capacity k: where it is shorter than k, else FULL
abbrev pub push_answer : ℕ → List ℤ → Result (Unit {0}) Refusal
push_answer k vs = cond (nat_lt (length vs) k) (Ok tt) (Err Full)

-- the value that is taken: the oldest, or EMPTY where there is none
abbrev pub oldest : List ℤ → Result ℤ Refusal
oldest [] = Err Empty
oldest (v ∷ vs) = Ok v

-- the values after the oldest
abbrev pub rest : List ℤ → List ℤ
rest [] = []
rest (v ∷ vs) = vs

-- what a put answers: CHANNEL, then FULL, else done
abbrev pub put_answer : Channels → ℕ → Result (Unit {0}) Refusal
put_answer b c = of_channel b c (push_answer (b.capacity c) (b.list c))

-- what a put leaves: the value at the end of the channel's list; all as it was where it is refused
abbrev pub after_put : Channels → ℕ → ℤ → Channels
after_put b c v = on_ok (put_answer b c) (with_list b c (b.list c ++ (v ∷ []))) b

-- what a take answers: CHANNEL, then EMPTY, else the oldest value of the channel
abbrev pub take_answer : Channels → ℕ → Result ℤ Refusal
take_answer b c = of_channel b c (oldest (b.list c))

-- what a take leaves: the channel without its oldest value; all as it was where it is refused
abbrev pub after_take : Channels → ℕ → Channels
after_take b c = on_ok (take_answer b c) (with_list b c (rest (b.list c))) b
