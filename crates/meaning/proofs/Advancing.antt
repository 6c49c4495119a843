-- A ready copy stays ready until some copy moves, and each place comes up within as many turns as there are levels.
-- Assumes nothing.
use Rattle.std.proofs.Common.{◌≡◌, ℕ, zero, suc, ◌+◌, ◌-◌, ◌%◌, ◌<◌, ◌≤◌, Bool, true, false, cond, ◌&&◌, ◌||◌, eqb, ltb, ◌⊎◌, List, [], ◌∷◌, ◌++◌, length, ℤ, Some, None, Option, sym, refl, ap, ◌∙◌, subst, inl, inr, add-zero, mod-lt, mod-eq_of_lt, arith}
use native.Mathlib.Nat.{mod-add-mod, add-mod_right}
use Rattle.std.proofs.lemmas.Bool.{eqb-true, ltb-true, lt-ltb, both_ways, cases_lt, and_parts, and_from, and_right}
use Rattle.host.specs.Channels.{rest}
use Rattle.refusal.specs.declared.Refusal.TheVariants.{Levels}
use Rattle.regime.specs.Order as regime
use Rattle.regime.specs.Order.{Lawful}
use Rattle.script.specs.declared.parts.Instruction.{Instruction}
use Rattle.script.specs.declared.parts.Instruction.TheVariants.{Skip, Set, Compute, Jump, Input, Output, Stop}
use Rattle.meaning.specs.Answers.{Call, refused}
use Rattle.meaning.specs.Copies.{Copy, nth}
use Rattle.meaning.specs.Logs.{log, reached, is_move, is_accepted, is_turn, count_if, accepted_turns, some_move}
use Rattle.meaning.specs.Programs.{Sound, instruction_at}
use Rattle.meaning.specs.Promises.{Progress}
use Rattle.meaning.specs.Visits.{Opening, Frame, framed, State, Plan, ended, got, read_plan, write_plan, plan_do, status, is_ready, choice, ready, Reply, put_on, take_off, with_lists, counted, level_of, outward, has_space, same_levels, enough_channels, admit, respond}
use Rattle.meaning.proofs.Fitting.{Fits, fits_at}
use Rattle.meaning.proofs.Outcomes.{goes, Outcome, refuses, feeds, collects, idles, goes_on, tells, outcome}
use Rattle.meaning.proofs.Turning.{chosen_ready}

-- every place p comes up less than n turns after t
comes_up : (t n p : ℕ) → p < n → (j : ℕ) × (j < n) × ((t + j) % n ≡ p)
comes_up t n p h = either (cases_lt p (t % n))
  where
    below : t % n < n
    below = mod-lt t (omega arith)

    either : (p < t % n) ⊎ (t % n ≤ p) → (j : ℕ) × (j < n) × ((t + j) % n ≡ p)
    either (inl k) =
        let j : ℕ = (n - t % n) + p in
        let e : t % n + j ≡ p + n = omega (arith, below) in
        (j, omega (arith, below), sym (mod-add-mod t n j) ∙ ap (λ i. i % n) e ∙ add-mod_right p n ∙ mod-eq_of_lt h)
    either (inr k) =
        let j : ℕ = p - t % n in
        let e : t % n + j ≡ p = omega arith in
        (j, omega arith, sym (mod-add-mod t n j) ∙ ap (λ i. i % n) e ∙ mod-eq_of_lt h)

-- is there a value
abbrev is_some : Option ℤ → Bool
is_some None = false
is_some (Some v) = true

-- a list that got a value has one
some_after : (vs : List ℤ) (v : ℤ) → is_some (nth (vs ++ (v ∷ [])) 0) ≡ true
some_after [] v = refl
some_after (x ∷ xs) v = refl

-- the rest of a list is no longer than it
rest_shorter : (vs : List ℤ) → length (rest vs) ≤ length vs
rest_shorter [] = omega arith
rest_shorter (x ∷ xs) = omega arith

-- does a plan go on
abbrev proceeds : Plan → Bool
proceeds p = is_ready (status p)

-- other lists ease a state: where a channel inward had a value it has one, and where one outward had space it has some
record Eased (f : Frame) (s : State) (lists : ℕ → List ℤ) : Type 0 where
  value : (k : ℕ) → outward f k ≡ false → is_some (nth (s.lists k) 0) ≡ true → is_some (nth (lists k) 0) ≡ true
  space : (k : ℕ) → outward f k ≡ true → has_space f s k ≡ true → ltb (length (lists k)) (f.capacity k) ≡ true

module _ (f : Frame) (s : State) where
  -- a feed eases
  feed_eases : (k : ℕ) (v : ℤ) → outward f k ≡ false → Eased f s (put_on k v s.lists)
  feed_eases k v inward = record { value = λ j p h. value_at j h (eqb j k) refl; space = λ j p h. space_at j p h (eqb j k) refl }
    where
      value_at : (j : ℕ) → is_some (nth (s.lists j) 0) ≡ true → (b : Bool) → eqb j k ≡ b → is_some (nth (cond b (s.lists k ++ (v ∷ [])) (s.lists j)) 0) ≡ true
      value_at j h true e = some_after (s.lists k) v
      value_at j h false e = h

      space_at : (j : ℕ) → outward f j ≡ true → has_space f s j ≡ true → (b : Bool) → eqb j k ≡ b → ltb (length (cond b (s.lists k ++ (v ∷ [])) (s.lists j))) (f.capacity j) ≡ true
      space_at j p h true e = absurd (both_ways (outward f k) inward (rw (eqb-true j k e) at p))
      space_at j p h false e = h

  -- and so does a collect
  collect_eases : (k : ℕ) → outward f k ≡ true → Eased f s (take_off k s.lists)
  collect_eases k out = record { value = λ j p h. value_at j p h (eqb j k) refl; space = λ j p h. space_at j h (eqb j k) refl }
    where
      value_at : (j : ℕ) → outward f j ≡ false → is_some (nth (s.lists j) 0) ≡ true → (b : Bool) → eqb j k ≡ b → is_some (nth (cond b (rest (s.lists k)) (s.lists j)) 0) ≡ true
      value_at j p h true e = absurd (both_ways (outward f k) (rw (eqb-true j k e) at p) out)
      value_at j p h false e = h

      space_at : (j : ℕ) → has_space f s j ≡ true → (b : Bool) → eqb j k ≡ b → ltb (length (cond b (rest (s.lists k)) (s.lists j))) (f.capacity j) ≡ true
      space_at j h true e =
          let less : length (s.lists k) < f.capacity j =
          ltb-true (length (s.lists k)) (f.capacity j) (ap (λ i. ltb (length (s.lists i)) (f.capacity j)) (sym (eqb-true j k e)) ∙ h) in
          lt-ltb (length (rest (s.lists k))) (f.capacity j) (omega (arith, rest_shorter (s.lists k)))
      space_at j h false e = h

  -- a copy that goes on still does where the lists are eased
  module _ (lists : ℕ → List ℤ) (eased : Eased f s lists) (a : ℕ) where
    -- an in, as far as it needs a value of the host
    read_stays : (c : Copy) (t k : ℕ) (fl early : Bool) (next : Option ℤ) (own : Bool) (x y : Option ℤ) → (is_some x ≡ true → is_some y ≡ true) →
        proceeds (read_plan c t k (got fl early next own x)) ≡ true → proceeds (read_plan c t k (got fl early next own y)) ≡ true
    read_stays c t k false early next own x y h g = refl
    read_stays c t k true false next own x y h g = refl
    read_stays c t k true true (Some v) own x y h g = refl
    read_stays c t k true true None true (Some v) (Some w) h g = refl
    read_stays c t k true true None true (Some v) None h g = h refl
    read_stays c t k true true None true None (Some w) h g = refl
    read_stays c t k true true None true None None h g = g
    read_stays c t k true true None false x y h g = g

    -- an out, as far as it needs space
    write_stays : (c : Copy) (k : ℕ) (v : ℤ) (own x y : Bool) → (x ≡ true → y ≡ true) → proceeds (write_plan c k v own x) ≡ true → proceeds (write_plan c k v own y) ≡ true
    write_stays c k v false x y h g = refl
    write_stays c k v true true true h g = refl
    write_stays c k v true true false h g = h refl
    write_stays c k v true false true h g = refl
    write_stays c k v true false false h g = g

    -- each instruction of a sound script
    do_stays : (c : Copy) (i : Instruction) → Fits f.script i → proceeds (plan_do f s a c i) ≡ true → proceeds (plan_do f (with_lists s lists) a c i) ≡ true
    do_stays c Skip fits g = refl
    do_stays c (Set t v) fits g = refl
    do_stays c (Compute o t x y) fits g = refl
    do_stays c (Jump x i) fits g = refl
    do_stays c (Input t k) fits g =
        read_stays c t k (f.order.flows (level_of f k) a) (ltb (c.positions k) 64) (nth (s.tape k) (c.positions k)) (eqb (level_of f k) a) (nth (s.lists k) 0) (nth (lists k) 0) (eased.value k fits.1) g
    do_stays c (Output x k) fits g =
        write_stays c k (c.registers x) (eqb (level_of f k) a) (has_space f s k) (has_space f (with_lists s lists) k) (eased.space k fits.1) g
    do_stays c Stop fits g = refl

    -- a copy that has ended goes on at neither lists
    unless_ended : (b : Bool) (p q : Plan) → (b ≡ true → proceeds p ≡ true → proceeds q ≡ true) → proceeds (cond b p ended) ≡ true → proceeds (cond b q ended) ≡ true
    unless_ended true p q h g = h refl g
    unless_ended false p q h g = g

    -- whatever its next instruction is
    plan_stays : Sound f.script → goes f s a ≡ true → goes f (with_lists s lists) a ≡ true
    plan_stays sound =
        let c : Copy = s.copy a in
        let n : ℕ = f.script.instruction_count in
        let i : Instruction = instruction_at f.script c.next in
        unless_ended (ltb c.next n) (plan_do f s a c i) (plan_do f (with_lists s lists) a c i) (λ e. do_stays c i (fits_at f.script sound c.next (ltb-true c.next n e)))

    -- so whoever is ready stays ready
    ready_stays : Sound f.script → ready f s a ≡ true → ready f (with_lists s lists) a ≡ true
    ready_stays sound h =
        let p = and_parts (ltb a f.script.levels) (goes f s a) h in
        and_from (ltb a f.script.levels) (goes f (with_lists s lists) a) p.0 (plan_stays sound p.1)

-- a level a, and a place p at which every ready set with a picks some level
module _ (f : Frame) (lawful : Lawful f.order) (sound : Sound f.script) (a p : ℕ)
    (serves : (set : regime.Levels) → set a ≡ true → (b : ℕ) × (f.order.picks p set ≡ Some b)) where
  -- where a is ready and its place comes up after j turns more, calls with more than j accepted turns move a copy
  abbrev MovesFrom : List Call → Type 0
  MovesFrom xs = (s : State) → ready f s a ≡ true → (j : ℕ) → (s.turns + j) % f.order.size ≡ p → j < accepted_turns (log f s xs) → some_move (log f s xs) ≡ true

  -- no turn at the place p is idle
  no_idle : (s : State) → ready f s a ≡ true → s.turns % f.order.size ≡ p → ((b : ℕ) → choice f s ≡ Some b → goes f s b ≡ false) → ⊥
  no_idle s r e none =
      let found = serves (ready f s) r in
      let chosen : choice f s ≡ Some found.0 = ap (λ i. f.order.picks i (ready f s)) e ∙ found.1 in
      both_ways (goes f s found.0) (none found.0 chosen) (chosen_ready f lawful s found.0 chosen).1

  -- one call, and the calls after it
  call_moves : (xs : List Call) → MovesFrom xs → (s : State) → ready f s a ≡ true → (j : ℕ) → (s.turns + j) % f.order.size ≡ p → (x : Call) (r : Reply) → Outcome f s x r →
      j < count_if (is_turn x && is_accepted r.1) (accepted_turns (log f r.0 xs)) → (is_move r.1 || some_move (log f r.0 xs)) ≡ true
  call_moves xs later s h j e x r (refuses y u w) less =
      later s h j e (subst (λ b. j < count_if b (accepted_turns (log f s xs))) (and_right (is_turn y) false refl) less)
  call_moves xs later s h j e x r (feeds k v q w) less =
      later (with_lists s (put_on k v s.lists)) (ready_stays f s (put_on k v s.lists) (feed_eases f s k v w) a sound h) j e less
  call_moves xs later s h j e x r (collects k v q w first) less =
      later (with_lists s (take_off k s.lists)) (ready_stays f s (take_off k s.lists) (collect_eases f s k w) a sound h) j e less
  call_moves xs later s h zero e x r (idles none left) less = absurd (no_idle s h (ap (λ i. i % f.order.size) (sym (add-zero s.turns)) ∙ e) none)
  call_moves xs later s h (suc j) e x r (idles none left) less =
      let shift : suc s.turns + j ≡ s.turns + suc j = omega arith in
      later (counted s) h j (ap (λ i. i % f.order.size) shift ∙ e) (omega arith)
  call_moves xs later s h j e x r (goes_on b act c q w left) less = refl
  call_moves xs later s h j e x r (tells b w) less = later s h j e less

  -- all calls
  calls_move : (xs : List Call) → MovesFrom xs
  calls_move [] s h j e less = absurd (none_less j less)
    where
      none_less : (i : ℕ) → i < 0 → ⊥
      none_less i k = omega arith
  calls_move (x ∷ xs) s h j e less = call_moves xs (calls_move xs) s h j e x (respond f s x) (outcome f s x) less

-- no turn is accepted where script and regime differ in the number of levels
none_accepted : (f : Frame) (s : State) (xs : List Call) → same_levels f ≡ false → accepted_turns (log f s xs) ≡ 0
none_accepted f s [] e = refl
none_accepted f s (x ∷ xs) e =
    let r : respond f s x ≡ (s, refused Levels) = ap (λ b. admit f s x b (enough_channels f)) e in
    ap (λ (q : Reply). count_if (is_turn x && is_accepted q.1) (accepted_turns (log f q.0 xs))) r
    ∙ ap (λ b. count_if b (accepted_turns (log f s xs))) (and_right (is_turn x) false refl)
    ∙ none_accepted f s xs e

-- progress from any state on
progress_from : (f : Frame) → Lawful f.order → Sound f.script → (s : State) (calls : List Call) (a : ℕ) → ready f s a ≡ true →
    f.script.levels ≤ accepted_turns (log f s calls) → some_move (log f s calls) ≡ true
progress_from f lawful sound s calls a h enough = by_levels (same_levels f) refl
  where
    inside : a < f.script.levels
    inside = ltb-true a f.script.levels (and_parts (ltb a f.script.levels) (goes f s a) h).0

    by_levels : (b : Bool) → same_levels f ≡ b → some_move (log f s calls) ≡ true
    by_levels true e =
        let same : f.script.levels ≡ f.order.size = eqb-true f.script.levels f.order.size e in
        let place = lawful.served a (omega (arith, inside, same)) in
        let up = comes_up s.turns f.order.size place.0 place.1 in
        calls_move f lawful sound a place.0 place.2 calls s h up.0 up.2 (omega (arith, up.1, same, enough))
    by_levels false e = absurd (omega (arith, inside, enough, none_accepted f s calls e))

-- and from what an opening comes to
pub progress : (o : Opening) → Lawful o.order → Sound o.script → Progress o
progress o lawful sound before calls a = progress_from (framed o) lawful sound (reached o before) calls a
