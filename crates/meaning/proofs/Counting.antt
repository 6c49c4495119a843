-- Own steps are the moves of the log, and the turns so far are its accepted turns. Assumes nothing.
use Rattle.std.proofs.Common.{◌≡◌, ℕ, suc, ◌+◌, ◌≤◌, Bool, true, false, cond, ◌&&◌, eqb, List, [], ◌∷◌, pos, sym, refl, ap, ◌∙◌, zero-add, arith}
use Rattle.std.proofs.lemmas.Bool.{eqb-true, le-ltb, and_right}
use Rattle.refusal.specs.declared.Refusal.TheVariants.{Spent}
use Rattle.meaning.specs.Answers.{Call, turn, ask, refused, told}
use Rattle.meaning.specs.Logs.{after, log, reached, logged, moves, count_if, moves_of, is_turn, is_accepted, accepted_turns}
use Rattle.meaning.specs.Numbers.{status_number, channel_lacked}
use Rattle.meaning.specs.Promises.{OwnSteps, Turns, Limited}
use Rattle.meaning.specs.Visits.{Opening, Frame, framed, State, opened, Reply, plan, status, enough_channels, turning, admit, respond}
use Rattle.meaning.specs.declared.answers.Standing.{Standing}
use Rattle.meaning.proofs.Lists.{clash}
use Rattle.meaning.proofs.Outcomes.{Outcome, refuses, feeds, collects, idles, goes_on, tells, outcome}

-- one more at a alone
one_more : (f : ℕ → ℕ) (a l n : ℕ) → cond (eqb l a) (suc (f a)) (f l) + n ≡ f l + count_if (eqb l a) n
one_more f a l n = at_test (eqb l a) refl
  where
    at_test : (b : Bool) → eqb l a ≡ b → cond b (suc (f a)) (f l) + n ≡ f l + count_if b n
    at_test true e = ap (λ i. suc (f i) + n) (sym (eqb-true l a e)) ∙ omega arith
    at_test false e = refl

-- one call counts its move
call_moves : (f : Frame) (s : State) (l n : ℕ) (x : Call) (r : Reply) → Outcome f s x r → r.0.steps l + n ≡ s.steps l + count_if (moves l r.1) n
call_moves f s l n x r (refuses y e h) = refl
call_moves f s l n x r (feeds k v p q) = refl
call_moves f s l n x r (collects k v p q first) = refl
call_moves f s l n x r (idles none left) = refl
call_moves f s l n x r (goes_on a act c q p left) = one_more s.steps a l n
call_moves f s l n x r (tells a h) = refl

-- and so do calls from any state on
calls_move : (f : Frame) (s : State) (calls : List Call) (l : ℕ) → (after f s calls).steps l ≡ s.steps l + moves_of l (log f s calls)
calls_move f s [] l = omega arith
calls_move f s (x ∷ xs) l =
    let r : Reply = respond f s x in
    calls_move f r.0 xs l ∙ call_moves f s l (moves_of l (log f r.0 xs)) x r (outcome f s x)

-- own steps are moves
pub steps_are_moves : (o : Opening) (calls : List Call) (l : ℕ) → (reached o calls).steps l ≡ moves_of l (logged o calls)
steps_are_moves o calls l = calls_move (framed o) (opened o) calls l ∙ zero-add (moves_of l (logged o calls))

-- a question about l answers the steps of the copy at l
told_steps : (f : Frame) (s : State) (l : ℕ) (x : Call) (r : Reply) → Outcome f s x r → x ≡ ask l → (a : Standing) → r.1 ≡ told a → a.steps ≡ s.steps l
told_steps f s l x r (refuses y u h) here a e = clash cc
told_steps f s l x r (feeds k v p q) here a e = clash cc
told_steps f s l x r (collects k v p q first) here a e = clash cc
told_steps f s l x r (idles none left) here a e = clash cc
told_steps f s l x r (goes_on b act c q p left) here a e = clash cc
told_steps f s l x r (tells b h) here a e =
    let same : b ≡ l = cc in
    let all : ◌≡◌ {A = Standing} (record { status = status (plan f s b); steps = s.steps b }) a = cc in
    sym (ap (λ (q : Standing). q.steps) all) ∙ ap s.steps same

-- own steps of an opening, in the state and in the answers to questions
pub own_steps : (o : Opening) → OwnSteps o
own_steps o calls l = (
  steps_are_moves o calls l,
  λ a e.
      let steps : a.steps ≡ moves_of l (logged o calls) =
      told_steps (framed o) (reached o calls) l (ask l) (respond (framed o) (reached o calls) (ask l)) (outcome (framed o) (reached o calls) (ask l)) refl a e
      ∙ steps_are_moves o calls l in
      ap (λ n. pos 5 ∷ pos (status_number a.status) ∷ pos (channel_lacked a.status) ∷ pos n ∷ []) steps,
)

-- one call counts its turn, if it is an accepted one
call_turns : (f : Frame) (s : State) (n : ℕ) (x : Call) (r : Reply) → Outcome f s x r → r.0.turns + n ≡ s.turns + count_if (is_turn x && is_accepted r.1) n
call_turns f s n x r (refuses y e h) = ap (λ b. s.turns + count_if b n) (sym (and_right (is_turn y) false refl))
call_turns f s n x r (feeds k v p q) = refl
call_turns f s n x r (collects k v p q first) = refl
call_turns f s n x r (idles none left) = omega arith
call_turns f s n x r (goes_on a act c q p left) = omega arith
call_turns f s n x r (tells a h) = refl

-- and so do calls from any state on
calls_turn : (f : Frame) (s : State) (calls : List Call) → (after f s calls).turns ≡ s.turns + accepted_turns (log f s calls)
calls_turn f s [] = omega arith
calls_turn f s (x ∷ xs) =
    let r : Reply = respond f s x in
    calls_turn f r.0 xs ∙ call_turns f s (accepted_turns (log f r.0 xs)) x r (outcome f s x)

-- the turns so far are accepted turns
turns_are_accepted : (o : Opening) (calls : List Call) → (reached o calls).turns ≡ accepted_turns (logged o calls)
turns_are_accepted o calls = calls_turn (framed o) (opened o) calls ∙ zero-add (accepted_turns (logged o calls))

-- a call that is refused as spent is a turn, and no turns are left
spent_only : (f : Frame) (s : State) (x : Call) (r : Reply) → Outcome f s x r → r.1 ≡ refused Spent → (x ≡ turn) × (1000000 ≤ s.turns)
spent_only f s x r (refuses y u h) e = let same : u ≡ Spent = cc in h same
spent_only f s x r (feeds k v p q) e = clash cc
spent_only f s x r (collects k v p q first) e = clash cc
spent_only f s x r (idles none left) e = clash cc
spent_only f s x r (goes_on a act c q p left) e = clash cc
spent_only f s x r (tells a h) e = clash cc

-- turns of an opening: spent are they at 1,000,000, which no log exceeds
pub turns : (o : Opening) → Limited o → Turns o
turns o limited =
    record {
      counted = turns_are_accepted o;
      only = λ calls x e.
          let h = spent_only (framed o) (reached o calls) x (respond (framed o) (reached o calls) x) (outcome (framed o) (reached o calls) x) e in
          (h.0, omega (arith, h.1, (limited calls).turns, turns_are_accepted o calls));
      then = λ calls levels channels all.
          let f : Frame = framed o in
          let s : State = reached o calls in
          let late : 1000000 ≤ s.turns = omega (arith, turns_are_accepted o calls) in
          ap (λ b. (admit f s turn b (enough_channels f)).1) levels ∙ ap (λ b. (admit f s turn true b).1) channels ∙ ap (λ b. (turning f s b).1) (le-ltb s.turns 1000000 late);
    }
