-- Two states that agree on all that flows to a level stay so, and show it the same answers. Assumes nothing.
use Rattle.std.proofs.Common.{◌≡◌, ℕ, suc, ◌%◌, ◌<◌, ◌≤◌, Bool, true, false, cond, not, ◌&&◌, eqb, ltb, leb, List, [], ◌∷◌, ◌++◌, map, length, ℤ, Some, None, Option, sym, refl, ap, ◌∙◌, subst, ap₂, le_trans}
use Rattle.std.proofs.lemmas.Bool.{eqb-true, ltb-true, ltb-false, lt-ltb, leb-true, both_ways, and_parts, not-true}
use Rattle.host.specs.Channels as host
use Rattle.host.specs.Channels.{rest}
use Rattle.regime.specs.Order as regime
use Rattle.regime.specs.Order.{Order, Lawful}
use Rattle.script.specs.declared.parts.Instruction.{Instruction}
use Rattle.script.specs.declared.parts.Instruction.TheVariants.{Skip, Set, Compute, Jump, Input, Output, Stop}
use Rattle.meaning.specs.Answers.{Call, feed, collect, turn, ask, Answer, turned, told, moved_at, in_numbers}
use Rattle.meaning.specs.Copies.{Copy, with_at, nth}
use Rattle.meaning.specs.Logs.{log, logged, struck, kept, shown, seen}
use Rattle.meaning.specs.Programs.{Program, Sound, level_at, instruction_at}
use Rattle.meaning.specs.Promises.{SameAnswers, FlowsTo, Secrecy}
use Rattle.meaning.specs.Visits.{Opening, Frame, State, opened, Plan, go, lacks_value, lacks_space, ended, got, read_plan, write_plan, plan_do, plan_of, plan, status, is_ready, choice, ready, Reply, put_on, take_off, lists_after, tapes_after, with_lists, counted, acted, known, outward, has_space, same_levels, enough_channels, feeding, collecting, moving, picked, turning, asking, serve, admit, respond}
use Rattle.meaning.specs.declared.answers.Act.{Act}
use Rattle.meaning.specs.declared.answers.Act.TheVariants.{Inner, Took, Reused, Defaulted, Wrote, Withheld}
use Rattle.meaning.specs.declared.answers.Status.{Status}
use Rattle.meaning.proofs.Fitting.{Fits, fits_at}
use Rattle.meaning.proofs.Outcomes.{Outcome, refuses, feeds, collects, idles, goes_on, tells, outcome}
use Rattle.meaning.proofs.Stepping.{Step, computes, defaults, reuses, takes_one, writes, withholds, Stepping, plan_stepping}

-- a change at a place that has not P is none at places that have
apart : {A : Type 0} (P : ℕ → Type 0) (f : ℕ → A) (k : ℕ) (v : A) → (P k → ⊥) → (j : ℕ) → P j → with_at f k v j ≡ f j
apart P f k v nay j h = at_test (eqb j k) refl
  where
    at_test : (b : Bool) → eqb j k ≡ b → cond b v (f j) ≡ f j
    at_test true e = absurd (nay (subst P (eqb-true j k e) h))
    at_test false e = refl

-- the same change on both sides keeps them the same at the places that have P
together : {A : Type 0} (P : ℕ → Type 0) (f g : ℕ → A) (k : ℕ) (v w : A) → (P k → v ≡ w) → ((j : ℕ) → P j → f j ≡ g j) → (j : ℕ) → P j → with_at f k v j ≡ with_at g k w j
together P f g k v w same_at same j h = at_test (eqb j k) refl
  where
    at_test : (b : Bool) → eqb j k ≡ b → cond b v (f j) ≡ cond b w (g j)
    at_test true e = same_at (subst P (eqb-true j k e) h)
    at_test false e = same j h

-- a script, a regime, a level l, and how many channels the host has
module _ (sc : Program) (r : Order) (l n : ℕ) where
  -- level a flows to l
  abbrev Flows : ℕ → Type 0
  Flows a = r.flows a l ≡ true

  -- channel k is the script's and the host's, and flows to l
  abbrev Heard : ℕ → Type 0
  Heard k = (k < sc.channel_count) × (k < n) × Flows (level_at sc k)

  -- two states are alike in all that flows to l
  record Alike (s t : State) : Type 0 where
    turns : s.turns ≡ t.turns
    copy : (a : ℕ) → Flows a → s.copy a ≡ t.copy a
    steps : (a : ℕ) → Flows a → s.steps a ≡ t.steps a
    tape : (k : ℕ) → Heard k → s.tape k ≡ t.tape k
    lists : (k : ℕ) → Heard k → s.lists k ≡ t.lists k

  -- a state is alike to itself
  alike_refl : (s : State) → Alike s s
  alike_refl s = record { turns = refl; copy = λ a h. refl; steps = λ a h. refl; tape = λ k h. refl; lists = λ k h. refl }

  -- alike goes both ways
  alike_sym : (s t : State) → Alike s t → Alike t s
  alike_sym s t e =
      record {
        turns = sym e.turns;
        copy = λ a h. sym (e.copy a h);
        steps = λ a h. sym (e.steps a h);
        tape = λ k h. sym (e.tape k h);
        lists = λ k h. sym (e.lists k h);
      }

  -- and on
  alike_trans : (s t u : State) → Alike s t → Alike t u → Alike s u
  alike_trans s t u d e =
      record {
        turns = d.turns ∙ e.turns;
        copy = λ a h. d.copy a h ∙ e.copy a h;
        steps = λ a h. d.steps a h ∙ e.steps a h;
        tape = λ k h. d.tape k h ∙ e.tape k h;
        lists = λ k h. d.lists k h ∙ e.lists k h;
      }

  -- states stay alike with one turn more
  alike_counted : (s t : State) → Alike s t → Alike (counted s) (counted t)
  alike_counted s t e = record { turns = ap suc e.turns; copy = e.copy; steps = e.steps; tape = e.tape; lists = e.lists }

  -- with lists alike
  alike_lists : (s t : State) (f g : ℕ → List ℤ) → Alike s t → ((k : ℕ) → Heard k → f k ≡ g k) → Alike (with_lists s f) (with_lists t g)
  alike_lists s t f g e same = record { turns = e.turns; copy = e.copy; steps = e.steps; tape = e.tape; lists = same }

  -- lists stay alike when both get the same value on a channel
  put_together : (f g : ℕ → List ℤ) (k : ℕ) (v : ℤ) → ((j : ℕ) → Heard j → f j ≡ g j) → (j : ℕ) → Heard j → put_on k v f j ≡ put_on k v g j
  put_together f g k v same = together Heard f g k (f k ++ (v ∷ [])) (g k ++ (v ∷ [])) (λ h. ap (λ (vs : List ℤ). vs ++ (v ∷ [])) (same k h)) same

  -- when both lose the oldest value of one
  take_together : (f g : ℕ → List ℤ) (k : ℕ) → ((j : ℕ) → Heard j → f j ≡ g j) → (j : ℕ) → Heard j → take_off k f j ≡ take_off k g j
  take_together f g k same = together Heard f g k (rest (f k)) (rest (g k)) (λ h. ap rest (same k h)) same

  -- so do tapes by the same act
  tapes_together : (f g : ℕ → List ℤ) (act : Act) → ((j : ℕ) → Heard j → f j ≡ g j) → (j : ℕ) → Heard j → tapes_after act f j ≡ tapes_after act g j
  tapes_together f g Inner same = same
  tapes_together f g (Took k v) same = put_together f g k v same
  tapes_together f g (Reused k v) same = same
  tapes_together f g (Defaulted k v) same = same
  tapes_together f g (Wrote k v) same = same
  tapes_together f g (Withheld k v) same = same

  -- and lists by the same act
  lists_together : (f g : ℕ → List ℤ) (act : Act) → ((j : ℕ) → Heard j → f j ≡ g j) → (j : ℕ) → Heard j → lists_after act f j ≡ lists_after act g j
  lists_together f g Inner same = same
  lists_together f g (Took k v) same = take_together f g k same
  lists_together f g (Reused k v) same = same
  lists_together f g (Defaulted k v) same = same
  lists_together f g (Wrote k v) same = put_together f g k v same
  lists_together f g (Withheld k v) same = same

  -- so states stay alike with the same act of the same level
  alike_acted : (s t : State) (a : ℕ) (act : Act) (c : Copy) → Alike s t → Alike (counted (acted s a act c)) (counted (acted t a act c))
  alike_acted s t a act c e =
      record {
        turns = ap suc e.turns;
        copy = together Flows s.copy t.copy a c c (λ _. refl) e.copy;
        steps = together Flows s.steps t.steps a (suc (s.steps a)) (suc (t.steps a)) (λ h. ap suc (e.steps a h)) e.steps;
        tape = tapes_together s.tape t.tape act e.tape;
        lists = lists_together s.lists t.lists act e.lists;
      }

  -- one host: what is hidden from l changes nothing that flows to it
  module _ (sound : Sound sc) (g : host.Channels) where
    -- a visit to that host
    abbrev visit : Frame
    visit = record { script = sc; order = r; count = g.count; capacity = g.capacity }

    -- a channel of a level that does not flow to l is not heard
    unheard : (k a : ℕ) → level_at sc k ≡ a → r.flows a l ≡ false → Heard k → ⊥
    unheard k a e nay h = both_ways (r.flows a l) nay (rw e at h.2)

    -- an act of such a level adds to no tape that is heard
    tapes_apart : (s : State) (a : ℕ) (act : Act) (d : Copy) → Step visit s a (s.copy a) act d → r.flows a l ≡ false → (f : ℕ → List ℤ) (j : ℕ) → Heard j → tapes_after act f j ≡ f j
    tapes_apart s a act d (computes e p) nay f j h = refl
    tapes_apart s a act d (defaults t k p) nay f j h = refl
    tapes_apart s a act d (reuses t k v p q) nay f j h = refl
    tapes_apart s a act d (takes_one t k v own early past first) nay f j h = apart Heard f k (f k ++ (v ∷ [])) (unheard k a own nay) j h
    tapes_apart s a act d (writes k v own) nay f j h = refl
    tapes_apart s a act d (withholds k v other) nay f j h = refl

    -- nor does it change a list that is heard
    lists_apart : (s : State) (a : ℕ) (act : Act) (d : Copy) → Step visit s a (s.copy a) act d → r.flows a l ≡ false → (f : ℕ → List ℤ) (j : ℕ) → Heard j → lists_after act f j ≡ f j
    lists_apart s a act d (computes e p) nay f j h = refl
    lists_apart s a act d (defaults t k p) nay f j h = refl
    lists_apart s a act d (reuses t k v p q) nay f j h = refl
    lists_apart s a act d (takes_one t k v own early past first) nay f j h = apart Heard f k (rest (f k)) (unheard k a own nay) j h
    lists_apart s a act d (writes k v own) nay f j h = apart Heard f k (f k ++ (v ∷ [])) (unheard k a own nay) j h
    lists_apart s a act d (withholds k v other) nay f j h = refl

    -- so it leaves what an idle turn leaves
    acted_apart : (s : State) (a : ℕ) (act : Act) (d : Copy) → Step visit s a (s.copy a) act d → r.flows a l ≡ false → Alike (counted (acted s a act d)) (counted s)
    acted_apart s a act d step nay =
        record {
          turns = refl;
          copy = apart Flows s.copy a d (both_ways (r.flows a l) nay);
          steps = apart Flows s.steps a (suc (s.steps a)) (both_ways (r.flows a l) nay);
          tape = tapes_apart s a act d step nay s.tape;
          lists = lists_apart s a act d step nay s.lists;
        }

    -- a turn is hidden from l: it shows nobody, and leaves what an idle turn leaves
    abbrev Hidden : State → Reply → Type 0
    Hidden s q = (shown r l q.1 ≡ turned None) × Alike q.0 (counted s)

    -- whatever such a level plans, its turn is hidden
    moving_hidden : (s : State) (a : ℕ) (p : Plan) → Stepping visit s a (s.copy a) p → r.flows a l ≡ false → Hidden s (moving s a p)
    moving_hidden s a (go act c) step nay = (ap (λ b. cond b (turned (moved_at a act)) (turned None)) nay, acted_apart s a act c step.0 nay)
    moving_hidden s a (lacks_value k) step nay = (refl, alike_refl (counted s))
    moving_hidden s a (lacks_space k) step nay = (refl, alike_refl (counted s))
    moving_hidden s a ended step nay = (refl, alike_refl (counted s))

    -- is a level picked that flows to l
    abbrev visible : Option ℕ → Bool
    visible None = false
    visible (Some a) = r.flows a l

    -- and so is a turn that picks such a level or nobody
    picked_hidden : (s : State) (c : Option ℕ) → visible c ≡ false → Hidden s (picked visit s c)
    picked_hidden s None nay = (refl, alike_refl (counted s))
    picked_hidden s (Some a) nay = moving_hidden s a (plan visit s a) (plan_stepping visit s a sound) nay

    -- a channel is not heard where a call on it is struck
    struck_unheard : (k : ℕ) → (known visit k && not (r.flows (level_at sc k) l)) ≡ true → Heard k → ⊥
    struck_unheard k e h =
        let nay = (and_parts (known visit k) (not (r.flows (level_at sc k) l)) e).1 in
        both_ways (r.flows (level_at sc k) l) (not-true (r.flows (level_at sc k) l) nay) h.2

    -- a struck call
    struck_hidden : (s : State) (x : Call) (q : Reply) → Outcome visit s x q → struck sc r l x ≡ true → Alike q.0 s
    struck_hidden s x q (refuses y e w) h = alike_refl s
    struck_hidden s x q (feeds k v p w) h =
        alike_lists s s (put_on k v s.lists) s.lists (alike_refl s) (apart Heard s.lists k (s.lists k ++ (v ∷ [])) (struck_unheard k h))
    struck_hidden s x q (collects k v p w first) h =
        alike_lists s s (take_off k s.lists) s.lists (alike_refl s) (apart Heard s.lists k (rest (s.lists k)) (struck_unheard k h))
    struck_hidden s x q (idles none left) h = absurd (both_ways false refl h)
    struck_hidden s x q (goes_on a act c w p left) h = absurd (both_ways false refl h)
    struck_hidden s x q (tells a w) h = alike_refl s

-- an in gives the same where the channel, if it flows to the level, has the same tape and list
got_alike : (fl early : Bool) (x y : Option ℤ) (own : Bool) (u w : Option ℤ) → (fl ≡ true → x ≡ y) → (fl ≡ true → u ≡ w) → got fl early x own u ≡ got fl early y own w
got_alike false early x y own u w p q = refl
got_alike true early x y own u w p q = ap₂ (λ (a b : Option ℤ). got true early a own b) (p refl) (q refl)

-- an out does the same where the channel, if it is of the level, has space on both sides or none
write_alike : (c : Copy) (k : ℕ) (v : ℤ) (own x y : Bool) → (own ≡ true → x ≡ y) → write_plan c k v own x ≡ write_plan c k v own y
write_alike c k v false x y p = refl
write_alike c k v true x y p = ap (write_plan c k v true) (p refl)

-- two plans of which neither counts where the script has ended
unless_ended : (b : Bool) (p q : Plan) → (b ≡ true → p ≡ q) → cond b p ended ≡ cond b q ended
unless_ended true p q h = h refl
unless_ended false p q h = refl

-- two hosts with the script's channels, and the same capacity on heard channels
module _ (sc : Program) (r : Order) (l n : ℕ) (enough : sc.channel_count ≤ n) (lawful : Lawful r) (sound : Sound sc) (g h : host.Channels)
    (capacities : (k : ℕ) → Heard sc r l n k → g.capacity k ≡ h.capacity k) where
  -- the visits to them
  abbrev one : Frame
  one = visit sc r l n sound g

  abbrev two : Frame
  two = visit sc r l n sound h

  module _ (s t : State) (alike : Alike sc r l n s t) where
    -- what a level that flows to l does
    do_alike : (a : ℕ) → r.flows a l ≡ true → (c : Copy) (i : Instruction) → Fits sc i → plan_do one s a c i ≡ plan_do two t a c i
    do_alike a fl c Skip fits = refl
    do_alike a fl c (Set x v) fits = refl
    do_alike a fl c (Compute o x y z) fits = refl
    do_alike a fl c (Jump x i) fits = refl
    do_alike a fl c (Input x k) fits =
        ap (read_plan c x k)
        (got_alike (r.flows (level_at sc k) a) (ltb (c.positions k) 64) (nth (s.tape k) (c.positions k)) (nth (t.tape k) (c.positions k)) (eqb (level_at sc k) a) (nth (s.lists k) 0) (nth (t.lists k) 0)
        (λ e. ap (λ (vs : List ℤ). nth vs (c.positions k)) (alike.tape k (heard e)))
        (λ e. ap (λ (vs : List ℤ). nth vs 0) (alike.lists k (heard e))))
      where
        heard : r.flows (level_at sc k) a ≡ true → Heard sc r l n k
        heard e = (fits.0, le_trans fits.0 enough, lawful.ordered.onward (level_at sc k) a l e fl)
    do_alike a fl c (Output x k) fits =
        write_alike c k (c.registers x) (eqb (level_at sc k) a) (has_space one s k) (has_space two t k)
        (λ e. space_alike (fits.0, le_trans fits.0 enough, rw (eqb-true (level_at sc k) a e) fl))
      where
        space_alike : Heard sc r l n k → has_space one s k ≡ has_space two t k
        space_alike d = ap₂ (λ (vs : List ℤ) (m : ℕ). ltb (length vs) m) (alike.lists k d) (capacities k d)
    do_alike a fl c Stop fits = refl

    -- what it plans
    plan_alike : (a : ℕ) → r.flows a l ≡ true → plan one s a ≡ plan two t a
    plan_alike a fl =
        let c : Copy = s.copy a in
        let m : ℕ = sc.instruction_count in
        let i : Instruction = instruction_at sc c.next in
        unless_ended (ltb c.next m) (plan_do one s a c i) (plan_do two t a c i) (λ e. do_alike a fl c i (fits_at sc sound c.next (ltb-true c.next m e)))
        ∙ ap (plan_of two t a) (alike.copy a fl)

    -- whether it is ready
    ready_alike : (a : ℕ) → r.flows a l ≡ true → ready one s a ≡ ready two t a
    ready_alike a fl = ap (λ (q : Plan). ltb a sc.levels && is_ready (status q)) (plan_alike a fl)

    -- and whether it is picked
    choice_alike : (a : ℕ) → r.flows a l ≡ true → choice one s ≡ Some a → choice two t ≡ Some a
    choice_alike a fl e =
        ap (λ m. r.picks (m % r.size) (ready two t)) (sym alike.turns)
        ∙ lawful.from_below (s.turns % r.size) a (ready one s) (ready two t) (λ b fb. ready_alike b (lawful.ordered.onward b a l fb fl)) e

-- what is not struck, and is there, flows
not_struck : (a b : Bool) → (a && not b) ≡ false → a ≡ true → b ≡ true
not_struck true true e h = refl
not_struck true false e h = sym e
not_struck false b e h = absurd (both_ways false refl h)

-- two hosts with the same number of channels
module _ (sc : Program) (r : Order) (l n : ℕ) (lawful : Lawful r) (sound : Sound sc) (g h : host.Channels)
    (capacities : (k : ℕ) → Heard sc r l n k → g.capacity k ≡ h.capacity k) (left-count : g.count ≡ n) (right-count : h.count ≡ n) where
  -- the visits to them
  abbrev left : Frame
  left = visit sc r l n sound g

  abbrev right : Frame
  right = visit sc r l n sound h

  -- two replies show l the same, and leave states alike
  abbrev RepliesAlike : Reply → Reply → Type 0
  RepliesAlike x y = (shown r l x.1 ≡ shown r l y.1) × Alike sc r l n x.0 y.0

  module _ (enough : sc.channel_count ≤ n) (s t : State) (alike : Alike sc r l n s t) where
    -- a turn of one level by the same plan
    moving_alike : (a : ℕ) (q : Plan) → RepliesAlike (moving s a q) (moving t a q)
    moving_alike a (go act c) = (refl, alike_acted sc r l n s t a act c alike)
    moving_alike a (lacks_value k) = (refl, alike_counted sc r l n s t alike)
    moving_alike a (lacks_space k) = (refl, alike_counted sc r l n s t alike)
    moving_alike a ended = (refl, alike_counted sc r l n s t alike)

    -- two turns that are both hidden
    both_hidden : (c d : Option ℕ) → visible sc r l n sound g c ≡ false → visible sc r l n sound h d ≡ false → RepliesAlike (picked left s c) (picked right t d)
    both_hidden c d ec ed =
        let x = picked_hidden sc r l n sound g s c ec in
        let y = picked_hidden sc r l n sound h t d ed in (
          x.0 ∙ sym y.0,
          alike_trans sc r l n (picked left s c).0 (counted s) (picked right t d).0 x.1
              (alike_trans sc r l n (counted s) (counted t) (picked right t d).0 (alike_counted sc r l n s t alike) (alike_sym sc r l n (picked right t d).0 (counted t) y.1)),
        )

    -- where one turn is hidden the other is
    hidden_too : (c : Option ℕ) → visible sc r l n sound g c ≡ false → choice left s ≡ c → (d : Option ℕ) → choice right t ≡ d → visible sc r l n sound h d ≡ false
    hidden_too c ec e None f = refl
    hidden_too c ec e (Some b) f = by_flow (r.flows b l) refl
      where
        by_flow : (z : Bool) → r.flows b l ≡ z → r.flows b l ≡ false
        by_flow true fl =
            let back : choice left s ≡ Some b =
            choice_alike sc r l n enough lawful sound h g (λ k d. sym (capacities k d)) t s (alike_sym sc r l n s t alike) b fl f in
            ap (visible sc r l n sound g) (sym back ∙ e) ∙ ec
        by_flow false fl = fl

    -- two turns with what their regime picks
    picked_alike : (c d : Option ℕ) → choice left s ≡ c → choice right t ≡ d → RepliesAlike (picked left s c) (picked right t d)
    picked_alike None d e f = both_hidden None d refl (hidden_too None refl e d f)
    picked_alike (Some a) d e f = by_flow (r.flows a l) refl
      where
        by_flow : (z : Bool) → r.flows a l ≡ z → RepliesAlike (picked left s (Some a)) (picked right t d)
        by_flow true fl =
            let same : Some a ≡ d = sym (choice_alike sc r l n enough lawful sound g h capacities s t alike a fl e) ∙ f in
            let plans : plan left s a ≡ plan right t a = plan_alike sc r l n enough lawful sound g h capacities s t alike a fl in
            let both : RepliesAlike (moving s a (plan left s a)) (moving t a (plan right t a)) =
            subst (λ q. RepliesAlike (moving s a (plan left s a)) (moving t a q)) plans (moving_alike a (plan left s a)) in
            subst (λ z. RepliesAlike (picked left s (Some a)) (picked right t z)) same both
        by_flow false fl = both_hidden (Some a) d fl (hidden_too (Some a) fl e d f)

    -- two turns, if there are turns left
    turn_alike : (b : Bool) → RepliesAlike (turning left s b) (turning right t b)
    turn_alike true = picked_alike (choice left s) (choice right t) refl refl
    turn_alike false = (refl, alike)

    -- two feeds, where space is alike
    feed_alike : (k : ℕ) (v : ℤ) (a b c d : Bool) → (a ≡ true → c ≡ d) → RepliesAlike (feeding s k v a b c) (feeding t k v a b d)
    feed_alike k v false b c d e = (refl, alike)
    feed_alike k v true true c d e = (refl, alike)
    feed_alike k v true false c d e = subst (λ z. RepliesAlike (feeding s k v true false c) (feeding t k v true false z)) (e refl) (same c)
      where
        same : (z : Bool) → RepliesAlike (feeding s k v true false z) (feeding t k v true false z)
        same true =
            (refl, alike_lists sc r l n s t (put_on k v s.lists) (put_on k v t.lists) alike (put_together sc r l n s.lists t.lists k v alike.lists))
        same false = (refl, alike)

    -- two collects, where the oldest value is alike
    collect_alike : (k : ℕ) (a b : Bool) (x y : Option ℤ) → (a ≡ true → x ≡ y) → RepliesAlike (collecting s k a b x) (collecting t k a b y)
    collect_alike k false b x y e = (refl, alike)
    collect_alike k true false x y e = (refl, alike)
    collect_alike k true true x y e = subst (λ z. RepliesAlike (collecting s k true true x) (collecting t k true true z)) (e refl) (same x)
      where
        same : (z : Option ℤ) → RepliesAlike (collecting s k true true z) (collecting t k true true z)
        same None = (refl, alike)
        same (Some v) =
            (refl, alike_lists sc r l n s t (take_off k s.lists) (take_off k t.lists) alike (take_together sc r l n s.lists t.lists k alike.lists))

    -- two questions about a level that flows to l
    ask_alike : (a : ℕ) (b : Bool) → (b ≡ true → r.flows a l ≡ true) → RepliesAlike (asking left s a b) (asking right t a b)
    ask_alike a false e = (refl, alike)
    ask_alike a true e = (
      ap₂ (λ (u : Status) (m : ℕ). told (record { status = u; steps = m }))
          (ap status (plan_alike sc r l n enough lawful sound g h capacities s t alike a (e refl))) (alike.steps a (e refl)),
      alike,
    )

    -- a channel with a call that is not struck is heard
    heard_if : (k : ℕ) → (known left k && not (r.flows (level_at sc k) l)) ≡ false → known left k ≡ true → Heard sc r l n k
    heard_if k e here =
        let inside = ltb-true k sc.channel_count here in
        (inside, le_trans inside enough, not_struck (known left k) (r.flows (level_at sc k) l) e here)

    -- each call that is not struck, where both hosts have the channels
    serve_alike : (x : Call) → struck sc r l x ≡ false → RepliesAlike (serve left s x) (serve right t x)
    serve_alike (feed k v) e =
        feed_alike k v (known left k) (outward left k) (has_space left s k) (has_space right t k)
        (λ here. ap₂ (λ (vs : List ℤ) (m : ℕ). ltb (length vs) m) (alike.lists k (heard_if k e here)) (capacities k (heard_if k e here)))
    serve_alike (collect k) e =
        collect_alike k (known left k) (outward left k) (nth (s.lists k) 0) (nth (t.lists k) 0) (λ here. ap (λ (vs : List ℤ). nth vs 0) (alike.lists k (heard_if k e here)))
    serve_alike turn e =
        subst (λ m. RepliesAlike (turning left s (ltb s.turns 1000000)) (turning right t (ltb m 1000000))) alike.turns (turn_alike (ltb s.turns 1000000))
    serve_alike (ask a) e = ask_alike a (ltb a sc.levels) (not_struck (ltb a sc.levels) (r.flows a l) e)

  module _ (s t : State) (alike : Alike sc r l n s t) where
    -- and where they have too few
    admit_alike : (x : Call) → struck sc r l x ≡ false → (a b : Bool) → (b ≡ true → sc.channel_count ≤ n) → RepliesAlike (admit left s x a b) (admit right t x a b)
    admit_alike x e false b enough = (refl, alike)
    admit_alike x e true false enough = (refl, alike)
    admit_alike x e true true enough = serve_alike (enough refl) s t alike x e

    -- so each call that is not struck is answered alike
    respond_alike : (x : Call) → struck sc r l x ≡ false → RepliesAlike (respond left s x) (respond right t x)
    respond_alike x e =
        subst (λ i. RepliesAlike (respond left s x) (admit right t x (same_levels right) (leb sc.channel_count i))) (left-count ∙ sym right-count)
        (admit_alike x e (same_levels left) (enough_channels left) (λ d. subst (λ i. sc.channel_count ≤ i) left-count (leb-true sc.channel_count g.count d)))

  -- what l sees of a log is what it sees of the log that the kept calls leave at the other host
  seen_kept : (xs : List Call) (s t : State) → Alike sc r l n s t → seen sc r l (log left s xs) ≡ seen sc r l (log right t (kept sc r l xs))
  seen_kept [] s t alike = refl
  seen_kept (x ∷ xs) s t alike = at_test (seen_kept xs) (struck sc r l x) refl
    where
      at_test : ((s t : State) → Alike sc r l n s t → seen sc r l (log left s xs) ≡ seen sc r l (log right t (kept sc r l xs))) → (b : Bool) → struck sc r l x ≡ b →
          cond b (seen sc r l (log left (respond left s x).0 xs)) (shown r l (respond left s x).1 ∷ seen sc r l (log left (respond left s x).0 xs))
          ≡ seen sc r l (log right t (cond b (kept sc r l xs) (x ∷ kept sc r l xs)))
      at_test later true e =
          later (respond left s x).0 t (alike_trans sc r l n (respond left s x).0 s t (struck_hidden sc r l n sound g s x (respond left s x) (outcome left s x) e) alike)
      at_test later false e =
          let both = respond_alike s t alike x e in
          let more = seen sc r l (log right (respond right t x).0 (kept sc r l xs)) in
          ap₂ (λ (a : Answer) (as_seen : List Answer). a ∷ as_seen) both.0 (later (respond left s x).0 (respond right t x).0 both.1)
          ∙ sym (ap (λ b. cond b more (shown r l (respond right t x).1 ∷ more)) e)

-- the same opening with another host
abbrev with_host : Opening → host.Channels → Opening
with_host o h = record { script = o.script; order = o.order; host = h }

-- two hosts that are alike at l
secret_host : (l : ℕ) (o : Opening) (h : host.Channels) → Lawful o.order → Sound o.script → o.host.count ≡ h.count →
    ((k : ℕ) → FlowsTo o l k → o.host.list k ≡ h.list k) → ((k : ℕ) → FlowsTo o l k → o.host.capacity k ≡ h.capacity k) → (xs ys : List Call) →
    kept o.script o.order l xs ≡ kept o.script o.order l ys →
    seen o.script o.order l (logged o xs) ≡ seen o.script o.order l (logged (with_host o h) ys)
secret_host l o h lawful sound count lists capacities xs ys e =
    let sc : Program = o.script in
    let r : Order = o.order in
    let n : ℕ = o.host.count in
    let p : Opening = with_host o h in
    let begun : Alike sc r l n (opened o) (opened p) =
    record { turns = refl; copy = λ a f. refl; steps = λ a f. refl; tape = λ k d. refl; lists = lists } in
    seen_kept sc r l n lawful sound o.host h capacities refl (sym count) xs (opened o) (opened p) begun
    ∙ ap (λ (zs : List Call). seen sc r l (logged p zs)) e
    ∙ sym (seen_kept sc r l n lawful sound h h (λ k d. refl) (sym count) (sym count) ys (opened p) (opened p) (alike_refl sc r l n (opened p)))

-- two lawful regimes that answer all that can be asked of levels alike are one
module _ (r q : Order) (lawful : Lawful r) (lawful-too : Lawful q) (same : SameAnswers r q) where
  -- a regime denies flow from or to what is no level
  denies : (w : Order) → Lawful w → (a b : ℕ) → ((a < w.size) × (b < w.size) → ⊥) → w.flows a b ≡ false
  denies w law a b nay = at_test (w.flows a b) refl
    where
      at_test : (z : Bool) → w.flows a b ≡ z → w.flows a b ≡ false
      at_test true e = absurd (nay (law.ordered.inside a b e))
      at_test false e = e

  -- so flow is the same between all numbers
  same_flows : (a b : ℕ) → r.flows a b ≡ q.flows a b
  same_flows a b = at_tests (ltb a r.size) (ltb b r.size) refl refl
    where
      outside : ((a < r.size) × (b < r.size) → ⊥) → r.flows a b ≡ q.flows a b
      outside nay = denies r lawful a b nay ∙ sym (denies q lawful-too a b (λ h. nay (rw (sym same.size) at h)))

      at_tests : (x y : Bool) → ltb a r.size ≡ x → ltb b r.size ≡ y → r.flows a b ≡ q.flows a b
      at_tests true true d e = same.flows a b (ltb-true a r.size d) (ltb-true b r.size e)
      at_tests false y d e = outside (λ h. both_ways (ltb a r.size) d (lt-ltb a r.size h.0))
      at_tests true false d e = outside (λ h. both_ways (ltb b r.size) e (lt-ltb b r.size h.1))

  -- the members of a set that are levels
  abbrev levels_of : regime.Levels → regime.Levels
  levels_of s a = ltb a r.size && s a

  -- are all its members below the number of levels
  levels_same : (s : regime.Levels) (a : ℕ) → a < r.size → s a ≡ levels_of s a
  levels_same s a h = sym (ap (λ b. b && s a) (lt-ltb a r.size h))

  -- so picks are the same for all places and sets
  same_picks : (p : ℕ) (s : regime.Levels) → r.picks p s ≡ q.picks p s
  same_picks p s = at_test (ltb p r.size) refl
    where
      size : q.size ≡ r.size
      size = sym same.size

      at_test : (z : Bool) → ltb p r.size ≡ z → r.picks p s ≡ q.picks p s
      at_test true e =
          lawful.ignores p s (levels_of s) (levels_same s)
          ∙ same.picks p (levels_of s) (ltb-true p r.size e) (λ a h. ltb-true a r.size (and_parts (ltb a r.size) (s a) h).0)
          ∙ sym (lawful-too.ignores p s (levels_of s) (λ a h. levels_same s a (subst (λ m. a < m) size h)))
      at_test false e =
          let past : r.size ≤ p = ltb-false p r.size e in
          lawful.no_place p s past ∙ sym (lawful-too.no_place p s (subst (λ m. m ≤ p) same.size past))

  -- and so all answers
  same_order : r ≡ q
  same_order = λ i. record { size = same.size i; flows = λ a b. same_flows a b i; picks = λ p s. same_picks p s i }

-- two openings with such regimes
pub secrecy : (o : Opening) → Lawful o.order → Sound o.script → Secrecy o
secrecy o lawful sound l p lawful-too alike xs ys called = record { answers = answers called; numbers = ap (map in_numbers) (answers called) }
  where
    orders : o.order ≡ p.order
    orders = same_order o.order p.order lawful lawful-too alike.regime

    openings : with_host o p.host ≡ p
    openings = λ i. record { script = alike.script i; order = orders i; host = p.host }

    answers : kept o.script o.order l xs ≡ kept p.script p.order l ys → seen o.script o.order l (logged o xs) ≡ seen p.script p.order l (logged p ys)
    answers =
        subst
        (λ (z : Opening). kept o.script o.order l xs ≡ kept z.script z.order l ys → seen o.script o.order l (logged o xs) ≡ seen z.script z.order l (logged z ys))
        openings
        (secret_host l o p.host lawful sound alike.count alike.list alike.capacity xs ys)
