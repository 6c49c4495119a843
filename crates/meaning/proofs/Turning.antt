-- Whom a turn moves, and what refusals leave. Assumes nothing.
use Rattle.std.proofs.Common.{◌≡◌, ℕ, ◌%◌, true, ltb, List, Some, None, Option, refl, ap, ◌∙◌}
use Rattle.std.proofs.lemmas.Bool.{both_ways, and_parts}
use Rattle.refusal.specs.declared.Refusal.{Refusal}
use Rattle.regime.specs.Order.{Lawful}
use Rattle.meaning.specs.Answers.{Call, turn, ask, refused, turned, told}
use Rattle.meaning.specs.Logs.{reached, logged, moves_of}
use Rattle.meaning.specs.Promises.{Moves, Refusals}
use Rattle.meaning.specs.Visits.{Opening, Frame, framed, State, Plan, Reply, status, ready, choice, enough_channels, asking, admit, respond}
use Rattle.meaning.specs.declared.answers.Moved.{Moved}
use Rattle.meaning.specs.declared.answers.Status.TheVariants.{Ready}
use Rattle.meaning.proofs.Counting.{steps_are_moves}
use Rattle.meaning.proofs.Lists.{clash, with_at_other}
use Rattle.meaning.proofs.Outcomes.{goes, Outcome, refuses, feeds, collects, idles, goes_on, tells, outcome, turn_admits, Moving, moving_of}

-- the level that is chosen is one of the script's, and goes on
pub chosen_ready : (f : Frame) → Lawful f.order → (s : State) (a : ℕ) → choice f s ≡ Some a → (ltb a f.script.levels ≡ true) × (goes f s a ≡ true)
chosen_ready f lawful s a e =
    and_parts (ltb a f.script.levels) (goes f s a) (lawful.ready_only (s.turns % f.order.size) (ready f s) a e).1

-- where a turn answers nobody, nobody is chosen
nobody_chosen : (f : Frame) → Lawful f.order → (s : State) (x : Call) (r : Reply) → Outcome f s x r → r.1 ≡ turned None → choice f s ≡ None
nobody_chosen f lawful s x r (refuses y u h) e = clash cc
nobody_chosen f lawful s x r (feeds k v p q) e = clash cc
nobody_chosen f lawful s x r (collects k v p q first) e = clash cc
nobody_chosen f lawful s x r (idles none left) e = by_choice (choice f s) refl
  where
    by_choice : (c : Option ℕ) → choice f s ≡ c → choice f s ≡ None
    by_choice None p = p
    by_choice (Some b) p = absurd (both_ways (goes f s b) (none b p) (chosen_ready f lawful s b p).1)
nobody_chosen f lawful s x r (goes_on a act c q p left) e = clash cc
nobody_chosen f lawful s x r (tells a h) e = clash cc

-- moves of an opening
pub moves : (o : Opening) → Lawful o.order → (calls : List Call) → Moves o calls
moves o lawful calls = record { moved = moved; others = others; nobody = nobody_chosen f lawful s turn (respond f s turn) (outcome f s turn) }
  where
    f : Frame
    f = framed o

    s : State
    s = reached o calls

    moving : (m : Moved) → (respond f s turn).1 ≡ turned (Some m) → Moving f s m (respond f s turn)
    moving = moving_of f s turn (respond f s turn) (outcome f s turn)

    moved : (m : Moved) → (respond f s turn).1 ≡ turned (Some m) → (respond f s (ask m.level)).1 ≡ told (record { status = Ready; steps = moves_of m.level (logged o calls) })
    moved m e =
        let admitted = turn_admits f s turn (Some m) e in
        let l = m.level in
        ap (λ b. (admit f s (ask l) b (enough_channels f)).1) admitted.0
        ∙ ap (λ b. (admit f s (ask l) true b).1) admitted.1
        ∙ ap (λ b. (asking f s l b).1) (chosen_ready f lawful s l (moving m e).chosen).0
        ∙ ap (λ (p : Plan). told (record { status = status p; steps = s.steps l })) (moving m e).planned
        ∙ ap (λ n. told (record { status = Ready; steps = n })) (steps_are_moves o calls l)

    others : (m : Moved) → (respond f s turn).1 ≡ turned (Some m) → (j : ℕ) → (j ≡ m.level → ⊥) → (respond f s turn).0.copy j ≡ s.copy j
    others m e j nay =
        let here = moving m e in
        ap (λ (t : State). t.copy j) here.leaves ∙ with_at_other s.copy m.level here.copy j nay

-- a refused call leaves all as it was
refused_unchanged : (f : Frame) (s : State) (x : Call) (r : Reply) → Outcome f s x r → (e : Refusal) → r.1 ≡ refused e → r.0 ≡ s
refused_unchanged f s x r (refuses y u h) e p = refl
refused_unchanged f s x r (feeds k v q w) e p = clash cc
refused_unchanged f s x r (collects k v q w first) e p = clash cc
refused_unchanged f s x r (idles none left) e p = clash cc
refused_unchanged f s x r (goes_on a act c q w left) e p = clash cc
refused_unchanged f s x r (tells a h) e p = clash cc

-- refusals of an opening
pub refusals : (o : Opening) → Refusals o
refusals o =
    record {
      unchanged = λ calls x e p.
          let s : State = reached o calls in
          refused_unchanged f s x (respond f s x) (outcome f s x) e p;
      levels = λ differ calls x. ap (λ b. (admit f (reached o calls) x b (enough_channels f)).1) differ;
      channels = λ same few calls x.
          ap (λ b. (admit f (reached o calls) x b (enough_channels f)).1) same ∙ ap (λ b. (admit f (reached o calls) x true b).1) few;
    }
  where
    f : Frame
    f = framed o
