-- What a call can come to, as a relation, so that each theorem goes through the cases once. Assumes nothing.
use Rattle.std.proofs.Common.{◌≡◌, ℕ, ◌<◌, ◌≤◌, Bool, true, false, ltb, ℤ, Some, None, Option, refl, ap, subst}
use Rattle.std.proofs.lemmas.Bool.{ltb-true, ltb-false}
use Rattle.refusal.specs.declared.Refusal.{Refusal}
use Rattle.refusal.specs.declared.Refusal.TheVariants.{Levels, Channels, Channel, Direction, Level, Full, Empty, Spent}
use Rattle.meaning.specs.Answers.{Call, feed, collect, turn, ask, refused, fed, collected, turned, told, moved_at}
use Rattle.meaning.specs.Copies.{Copy, nth}
use Rattle.meaning.specs.Visits.{Frame, State, Plan, go, lacks_value, lacks_space, ended, plan, choice, status, is_ready, Reply, put_on, take_off, with_lists, counted, acted, known, outward, has_space, same_levels, enough_channels, feeding, collecting, moving, picked, turning, asking, serve, admit, respond}
use Rattle.meaning.specs.declared.answers.Act.{Act}
use Rattle.meaning.specs.declared.answers.Moved.{Moved}
use Rattle.meaning.proofs.Lists.{clash}

module _ (f : Frame) (s : State) where
  -- does the copy at level a go on
  abbrev pub goes : ℕ → Bool
  goes a = is_ready (status (plan f s a))

  -- a call is refused as spent only if it is a turn and no turns are left
  abbrev pub IfSpent : Call → Refusal → Type 0
  IfSpent x e = e ≡ Spent → (x ≡ turn) × (1000000 ≤ s.turns)

  -- a call and what it comes to: a refusal, a value fed or collected, a turn that moves nobody or a level, an answer to a
  -- question
  pub data Outcome : Call → Reply → Type 0 where
    refuses : (x : Call) (e : Refusal) → IfSpent x e → Outcome x (s, refused e)
    feeds : (k : ℕ) (v : ℤ) → known f k ≡ true → outward f k ≡ false → Outcome (feed k v) (with_lists s (put_on k v s.lists), fed)
    collects : (k : ℕ) (v : ℤ) → known f k ≡ true → outward f k ≡ true → nth (s.lists k) 0 ≡ Some v →
        Outcome (collect k) (with_lists s (take_off k s.lists), collected v)
    idles : ((b : ℕ) → choice f s ≡ Some b → goes b ≡ false) → s.turns < 1000000 → Outcome turn (counted s, turned None)
    goes_on : (a : ℕ) (act : Act) (c : Copy) → choice f s ≡ Some a → plan f s a ≡ go act c → s.turns < 1000000 →
        Outcome turn (counted (acted s a act c), turned (moved_at a act))
    tells : (a : ℕ) → ltb a f.script.levels ≡ true → Outcome (ask a) (s, told (record { status = status (plan f s a); steps = s.steps a }))

  -- what a feed comes to
  feed_outcome : (k : ℕ) (v : ℤ) (a b c : Bool) → known f k ≡ a → outward f k ≡ b → Outcome (feed k v) (feeding s k v a b c)
  feed_outcome k v false b c p q = refuses (feed k v) Channel (λ e. clash cc)
  feed_outcome k v true true c p q = refuses (feed k v) Direction (λ e. clash cc)
  feed_outcome k v true false false p q = refuses (feed k v) Full (λ e. clash cc)
  feed_outcome k v true false true p q = feeds k v p q

  -- a collect
  collect_outcome : (k : ℕ) (a b : Bool) (oldest : Option ℤ) → known f k ≡ a → outward f k ≡ b → nth (s.lists k) 0 ≡ oldest → Outcome (collect k) (collecting s k a b oldest)
  collect_outcome k false b oldest p q e = refuses (collect k) Channel (λ e. clash cc)
  collect_outcome k true false oldest p q e = refuses (collect k) Direction (λ e. clash cc)
  collect_outcome k true true None p q e = refuses (collect k) Empty (λ e. clash cc)
  collect_outcome k true true (Some v) p q e = collects k v p q e

  -- one level is chosen
  one_choice : (a : ℕ) → choice f s ≡ Some a → goes a ≡ false → (b : ℕ) → choice f s ≡ Some b → goes b ≡ false
  one_choice a p h b q = let e : a ≡ b = cc in rw e at h

  -- a turn that picks level a
  move_outcome : (a : ℕ) (p : Plan) → choice f s ≡ Some a → plan f s a ≡ p → s.turns < 1000000 → Outcome turn (moving s a p)
  move_outcome a (go act c) q e left = goes_on a act c q e left
  move_outcome a (lacks_value k) q e left = idles (one_choice a q (ap (λ p. is_ready (status p)) e)) left
  move_outcome a (lacks_space k) q e left = idles (one_choice a q (ap (λ p. is_ready (status p)) e)) left
  move_outcome a ended q e left = idles (one_choice a q (ap (λ p. is_ready (status p)) e)) left

  -- a turn that picks a level or nobody
  pick_outcome : (p : Option ℕ) → choice f s ≡ p → s.turns < 1000000 → Outcome turn (picked f s p)
  pick_outcome None q left = idles (λ b e. clash cc) left
  pick_outcome (Some a) q left = move_outcome a (plan f s a) q refl left

  -- a turn
  turn_outcome : (b : Bool) → ltb s.turns 1000000 ≡ b → Outcome turn (turning f s b)
  turn_outcome true e = pick_outcome (choice f s) refl (ltb-true s.turns 1000000 e)
  turn_outcome false e = refuses turn Spent (λ _. (refl, ltb-false s.turns 1000000 e))

  -- a question
  ask_outcome : (a : ℕ) (b : Bool) → ltb a f.script.levels ≡ b → Outcome (ask a) (asking f s a b)
  ask_outcome a true e = tells a e
  ask_outcome a false e = refuses (ask a) Level (λ e. clash cc)

  -- each call where script, regime and host fit
  serve_outcome : (x : Call) → Outcome x (serve f s x)
  serve_outcome (feed k v) = feed_outcome k v (known f k) (outward f k) (has_space f s k) refl refl
  serve_outcome (collect k) = collect_outcome k (known f k) (outward f k) (nth (s.lists k) 0) refl refl refl
  serve_outcome turn = turn_outcome (ltb s.turns 1000000) refl
  serve_outcome (ask a) = ask_outcome a (ltb a f.script.levels) refl

  -- and where they do not
  admit_outcome : (x : Call) (a b : Bool) → Outcome x (admit f s x a b)
  admit_outcome x false b = refuses x Levels (λ e. clash cc)
  admit_outcome x true false = refuses x Channels (λ e. clash cc)
  admit_outcome x true true = serve_outcome x

  -- each call
  pub outcome : (x : Call) → Outcome x (respond f s x)
  outcome x = admit_outcome x (same_levels f) (enough_channels f)

  -- script, regime and host fit where a call is answered as a turn
  admits : (x : Call) (t : Option Moved) (a b : Bool) → (admit f s x a b).1 ≡ turned t → (a ≡ true) × (b ≡ true)
  admits x t false b e = clash cc
  admits x t true false e = clash cc
  admits x t true true e = (refl, refl)

  -- the same of the whole answer
  pub turn_admits : (x : Call) (t : Option Moved) → (respond f s x).1 ≡ turned t → (same_levels f ≡ true) × (enough_channels f ≡ true)
  turn_admits x t e = admits x t (same_levels f) (enough_channels f) e

  -- what is known where a copy moves
  pub record Moving (m : Moved) (r : Reply) : Type 0 where
    pub copy : Copy
    pub chosen : choice f s ≡ Some m.level
    pub planned : plan f s m.level ≡ go m.act copy
    pub left : s.turns < 1000000
    pub leaves : r.0 ≡ counted (acted s m.level m.act copy)

  -- where a call is answered with a move it is that outcome
  pub moving_of : (x : Call) (r : Reply) → Outcome x r → (m : Moved) → r.1 ≡ turned (Some m) → Moving m r
  moving_of x r (refuses y u h) m e = clash cc
  moving_of x r (feeds k v p q) m e = clash cc
  moving_of x r (collects k v p q h) m e = clash cc
  moving_of x r (idles none left) m e = clash cc
  moving_of x r (goes_on a act c q p left) m e =
      let here : ◌≡◌ {A = Moved} (record { level = a; act = act }) m = cc in
      subst (λ (n : Moved). Moving n r) here (record { copy = c; chosen = q; planned = p; left = left; leaves = refl })
  moving_of x r (tells a h) m e = clash cc
