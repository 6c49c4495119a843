-- Every plan and every reply is a row of its table. Assumes nothing.
use Rattle.std.proofs.Common.{◌≡◌, ℕ, suc, ◌<◌, Bool, true, false, cond, ◌&&◌, eqb, ltb, length, ℤ, pos, negsuc, Some, None, Option, refl, ap, ap₂}
use Rattle.std.proofs.lemmas.Bool.{both_ways, and_parts, lt-ltb, eqb-true, eqb-false, ltb-true, ltb-false, leb-true, leb-false, and_right}
use Rattle.script.specs.declared.parts.Instruction.{Instruction}
use Rattle.script.specs.declared.parts.Instruction.TheVariants.{Skip, Set, Compute, Jump, Input, Output, Stop}
use Rattle.host.specs.Channels.{rest}
use Rattle.meaning.specs.Answers.{Call, feed, collect, turn, ask, told}
use Rattle.meaning.specs.Arithmetic.{is_zero}
use Rattle.meaning.specs.Copies.{Copy, nth, go_to}
use Rattle.meaning.specs.Programs.{instruction_at}
use Rattle.meaning.specs.Rules.{Gives}
use Rattle.meaning.specs.Tables.{Next, Plans, past_the_end, skips, sets, computes, jumps, jumps_not, stops, defaults, reuses, takes, wants_value, withholds, writes, wants_space, EveryPlan, Fit, Replies, levels_differ, channels_lack, feeds_none, feeds_out, feeds_full, feeds, collects_none, collects_in, collects_empty, collects, spent, moves_nobody, moves, moves_unready, asks_none, asks_ready, asks_value, asks_space, asks_ended, EveryReply, EveryReadiness, EveryChange, EveryBeginning}
use Rattle.meaning.specs.Visits.{Frame, State, level_of, outward, known, has_space, Got, default, again, fresh, waits, gets, read_plan, write_plan, plan_do, Plan, go, lacks_value, lacks_space, ended, plan, status, is_ready, choice, same_levels, enough_channels, feeding, collecting, moving, picked, turning, asking, serve, admit}
use Rattle.meaning.specs.declared.answers.Act.{Act}
use Rattle.meaning.specs.declared.answers.Act.TheVariants.{Inner}
use Rattle.meaning.proofs.Hearing.{every_in}
use Rattle.meaning.proofs.Listed.{nth_empty}
use Rattle.meaning.proofs.Lists.{nth_first, with_at_here, with_at_other}

-- a value that is zero by its test is 0, and else it is not
zero_is : (a : ℤ) → is_zero a ≡ true → a ≡ pos 0
zero_is (pos a) e = ap pos (eqb-true a 0 e)
zero_is (negsuc a) e = absurd (both_ways false refl e)

-- the copy c at level l
module _ (f : Frame) (s : State) (l : ℕ) (c : Copy) where
  -- the plan of an in, by what it gives
  read_row : (t k : ℕ) → Next f s l c (Input t k) → (g : Got) → Gives f s l c k g → Plans f s l c (read_plan c t k g)
  read_row t k n default h = defaults t k n h
  read_row t k n (again v) h = reuses t k v n h
  read_row t k n (fresh v) h = takes t k v n h
  read_row t k n waits h = wants_value t k n h

  -- of an out, by the channel's level and space
  write_row : (a k : ℕ) → Next f s l c (Output a k) → (own space : Bool) → eqb (level_of f k) l ≡ own → has_space f s k ≡ space →
      Plans f s l c (write_plan c k (c.registers a) own space)
  write_row a k n false space e h = withholds a k n (eqb-false (level_of f k) l e)
  write_row a k n true true e h = writes a k n (eqb-true (level_of f k) l e) (ltb-true (length (s.lists k)) (f.capacity k) h)
  write_row a k n true false e h = wants_space a k n (eqb-true (level_of f k) l e) (ltb-false (length (s.lists k)) (f.capacity k) h)

  -- and of each instruction
  do_row : (i : Instruction) → Next f s l c i → Plans f s l c (plan_do f s l c i)
  do_row Skip n = skips n
  do_row (Set t v) n = sets t v n
  do_row (Compute o t a b) n = computes o t a b n
  do_row (Jump a i) n = by_zero (is_zero (c.registers a)) refl
    where
      by_zero : (z : Bool) → is_zero (c.registers a) ≡ z → Plans f s l c (go Inner (go_to c (cond z (suc c.next) i)))
      by_zero true e = jumps_not a i n (zero_is (c.registers a) e)
      by_zero false e = jumps a i n (λ h. both_ways (is_zero (c.registers a)) e (ap is_zero h))
  do_row (Input t k) n = read_row t k n (gets f s l c k) (every_in f s l c k)
  do_row (Output a k) n = write_row a k n (eqb (level_of f k) l) (has_space f s k) refl refl
  do_row Stop n = stops n

-- so every plan has its row
pub every_plan : EveryPlan
every_plan f s l c = at_test (ltb c.next f.script.instruction_count) refl
  where
    at_test : (b : Bool) → ltb c.next f.script.instruction_count ≡ b → Plans f s l c (cond b (plan_do f s l c (instruction_at f.script c.next)) ended)
    at_test true e = do_row f s l c (instruction_at f.script c.next) (ltb-true c.next f.script.instruction_count e, refl)
    at_test false e = past_the_end (ltb-false c.next f.script.instruction_count e)

-- a visit with frame f in state s
module _ (f : Frame) (s : State) where
  -- script, regime and host fit
  module _ (fit : Fit f s) where
    -- the reply to a feed
    feed_row : (k : ℕ) (v : ℤ) (a b c : Bool) → known f k ≡ a → outward f k ≡ b → has_space f s k ≡ c → Replies f s (feed k v) (feeding s k v a b c)
    feed_row k v false b c p q r = feeds_none k v fit (ltb-false k f.script.channel_count p)
    feed_row k v true true c p q r = feeds_out k v (fit, ltb-true k f.script.channel_count p) q
    feed_row k v true false false p q r = feeds_full k v (fit, ltb-true k f.script.channel_count p) q (ltb-false (length (s.lists k)) (f.capacity k) r)
    feed_row k v true false true p q r = feeds k v (fit, ltb-true k f.script.channel_count p) q (ltb-true (length (s.lists k)) (f.capacity k) r)

    -- to a collect
    collect_row : (k : ℕ) (a b : Bool) (oldest : Option ℤ) → known f k ≡ a → outward f k ≡ b → nth (s.lists k) 0 ≡ oldest → Replies f s (collect k) (collecting s k a b oldest)
    collect_row k false b oldest p q r = collects_none k fit (ltb-false k f.script.channel_count p)
    collect_row k true false oldest p q r = collects_in k (fit, ltb-true k f.script.channel_count p) q
    collect_row k true true None p q r = collects_empty k (fit, ltb-true k f.script.channel_count p) q (nth_empty (s.lists k) r)
    collect_row k true true (Some v) p q r = collects k v (rest (s.lists k)) (fit, ltb-true k f.script.channel_count p) q (nth_first (s.lists k) v r)

    -- to a turn that picks level a
    move_row : (a : ℕ) (p : Plan) → choice f s ≡ Some a → plan f s a ≡ p → s.turns < 1000000 → Replies f s turn (moving s a p)
    move_row a (go act c) q e left = moves a act c (fit, left, q) e
    move_row a (lacks_value k) q e left = moves_unready a (fit, left, q) (and_right (ltb a f.script.levels) (is_ready (status (plan f s a))) (ap (λ p. is_ready (status p)) e))
    move_row a (lacks_space k) q e left = moves_unready a (fit, left, q) (and_right (ltb a f.script.levels) (is_ready (status (plan f s a))) (ap (λ p. is_ready (status p)) e))
    move_row a ended q e left = moves_unready a (fit, left, q) (and_right (ltb a f.script.levels) (is_ready (status (plan f s a))) (ap (λ p. is_ready (status p)) e))

    -- to a turn that picks a level or nobody
    pick_row : (p : Option ℕ) → choice f s ≡ p → s.turns < 1000000 → Replies f s turn (picked f s p)
    pick_row None q left = moves_nobody (fit, left, q)
    pick_row (Some a) q left = move_row a (plan f s a) q refl left

    -- to a turn
    turn_row : (b : Bool) → ltb s.turns 1000000 ≡ b → Replies f s turn (turning f s b)
    turn_row true e = pick_row (choice f s) refl (ltb-true s.turns 1000000 e)
    turn_row false e = spent fit (ltb-false s.turns 1000000 e)

    -- to a question
    ask_row : (a : ℕ) (b : Bool) → ltb a f.script.levels ≡ b → Replies f s (ask a) (asking f s a b)
    ask_row a false e = asks_none a fit (ltb-false a f.script.levels e)
    ask_row a true e = by_plan (plan f s a) refl
      where
        by_plan : (p : Plan) → plan f s a ≡ p → Replies f s (ask a) (s, told (record { status = status p; steps = s.steps a }))
        by_plan (go act c) h = asks_ready a act c (fit, ltb-true a f.script.levels e, h)
        by_plan (lacks_value k) h = asks_value a k (fit, ltb-true a f.script.levels e, h)
        by_plan (lacks_space k) h = asks_space a k (fit, ltb-true a f.script.levels e, h)
        by_plan ended h = asks_ended a (fit, ltb-true a f.script.levels e, h)

    -- and to each call
    serve_row : (x : Call) → Replies f s x (serve f s x)
    serve_row (feed k v) = feed_row k v (known f k) (outward f k) (has_space f s k) refl refl refl
    serve_row (collect k) = collect_row k (known f k) (outward f k) (nth (s.lists k) 0) refl refl refl
    serve_row turn = turn_row (ltb s.turns 1000000) refl
    serve_row (ask a) = ask_row a (ltb a f.script.levels) refl

  -- the reply to each call, whether they fit or not
  admit_row : (x : Call) (a b : Bool) → same_levels f ≡ a → enough_channels f ≡ b → Replies f s x (admit f s x a b)
  admit_row x false b p q = levels_differ x (eqb-false f.script.levels f.order.size p)
  admit_row x true false p q = channels_lack x (eqb-true f.script.levels f.order.size p) (leb-false f.script.channel_count f.count q)
  admit_row x true true p q = serve_row (eqb-true f.script.levels f.order.size p, leb-true f.script.channel_count f.count q) x

-- so every call has its row
pub every_reply : EveryReply
every_reply f s x = admit_row f s x (same_levels f) (enough_channels f) refl refl

-- a plan that is ready goes on
goes_on : (p : Plan) → is_ready (status p) ≡ true → (act : Act) × (c : Copy) × (p ≡ go act c)
goes_on (go act c) e = (act, c, refl)
goes_on (lacks_value k) e = absurd (both_ways false refl e)
goes_on (lacks_space k) e = absurd (both_ways false refl e)
goes_on ended e = absurd (both_ways false refl e)

-- readiness is as it is said
pub every_readiness : EveryReadiness
every_readiness f s a =
    record {
      goes = λ act c h e. ap₂ (λ (b : Bool) (p : Plan). b && is_ready (status p)) (lt-ltb a f.script.levels h) e;
      only = λ e.
          let p = and_parts (ltb a f.script.levels) (is_ready (status (plan f s a))) e in
          let g = goes_on (plan f s a) p.1 in (ltb-true a f.script.levels p.0, g.0, g.1, g.2);
    }

-- changes change what they say, and nothing else
pub every_change : EveryChange
every_change s a act c = (
  record {
    assign_sets = λ t v. (refl, with_at_here c.registers t v);
    assign_keeps = λ t v. (with_at_other c.registers t v, refl);
    further_moves = λ k. with_at_here c.positions k (suc (c.positions k));
    further_keeps = λ k. (with_at_other c.positions k (suc (c.positions k)), refl, refl);
    goes_to = λ i. (refl, refl, refl);
    goes_on = refl;
  },
  record {
    acts_on = (with_at_here s.copy a c, with_at_here s.steps a (suc (s.steps a)), refl);
    acts_alone = λ j nay. (with_at_other s.copy a c j nay, with_at_other s.steps a (suc (s.steps a)) j nay);
    counts = refl;
  },
)

-- and every visit begins alike
pub every_beginning : EveryBeginning
every_beginning o =
    record {
      turns = refl;
      next = λ l. refl;
      registers = λ l i. refl;
      positions = λ l k. refl;
      steps = λ l. refl;
      tapes = λ k. refl;
      lists = refl;
    }
