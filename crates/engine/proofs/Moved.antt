-- From what a copy does by its plan to what the turn leaves and answers. Assumes nothing.
use Rattle.std.proofs.Common.{◌≡◌, ℕ, suc, List, ℤ, Some, Option, sym, ap, ◌∙◌, subst}
use Rattle.std.proofs.lemmas.Option.{none-some}
use Rattle.copies.specs.Held.{copies_of, steps_of, tapes_of}
use Rattle.meaning.specs.Answers.{turned, moved_at}
use Rattle.meaning.specs.Visits.{Frame, State, Plan, go, lacks_value, lacks_space, ended, plan, counted, moving, picked}
use Rattle.meaning.specs.declared.answers.Act.{Act}
use Rattle.engine.specs.Serves.{act_of, done}
use Rattle.engine.specs.declared.visit.Course.{Course}

-- a copy that did something, after the turn was counted
by_plan : (s : State) (l : ℕ) (p : Plan) (act : Act) (t : State) → Some act ≡ act_of p → t ≡ done (counted s) l p → (t ≡ (moving s l p).0) × (turned (moved_at l act) ≡ (moving s l p).1)
by_plan s l (go a c) act t e after = let same : act ≡ a = cc in (after, ap (λ (x : Act). turned (moved_at l x)) same)
by_plan s l (lacks_value k) act t e after = absurd (none-some act (sym e))
by_plan s l (lacks_space k) act t e after = absurd (none-some act (sym e))
by_plan s l ended act t e after = absurd (none-some act (sym e))

-- the state of a course, with these lists of the host
abbrev state : Course → (ℕ → List ℤ) → State
state a lists = record { turns = a.turns; copy = copies_of a.copies; steps = steps_of a.copies; tape = tapes_of a.tapes; lists = lists }

-- where b is the course a after one turn more was counted
counts : (lists : ℕ → List ℤ) (a b : Course) → b.turns ≡ suc a.turns → b.copies ≡ a.copies → b.tapes ≡ a.tapes → state b lists ≡ counted (state a lists)
counts lists a b turns copies tapes = λ i. record { turns = turns i; copy = copies_of (copies i); steps = steps_of (copies i); tape = tapes_of (tapes i); lists = lists }

-- the turn in which the copy was picked that did something
pub moved : (f : Frame) (lists : ℕ → List ℤ) (a b : Course) → b.turns ≡ suc a.turns → b.copies ≡ a.copies → b.tapes ≡ a.tapes →
    (l : ℕ) (act : Act) (t : State) → Some act ≡ act_of (plan f (state b lists) l) → t ≡ done (state b lists) l (plan f (state b lists) l) →
    (o : Option ℕ) → o ≡ Some l → (t ≡ (picked f (state a lists) o).0) × (turned (moved_at l act) ≡ (picked f (state a lists) o).1)
moved f lists a b turns copies tapes l act t did after o given =
    let s : State = state a lists in
    let same : state b lists ≡ counted s = counts lists a b turns copies tapes in
    let acts = did ∙ ap (λ (m : State). act_of (plan f m l)) same in
    let leaves = after ∙ ap (λ (m : State). done m l (plan f m l)) same in
    subst (λ (x : Option ℕ). (t ≡ (picked f s x).0) × (turned (moved_at l act) ≡ (picked f s x).1)) (sym given) (by_plan s l (plan f s l) act t acts leaves)
