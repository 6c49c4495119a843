-- What a level sees of a log is what it sees of each call. Assumes nothing.
use Rattle.std.proofs.Common.{◌≡◌, ℕ, ◌≤◌, Bool, true, false, cond, not, ◌&&◌, ltb, List, [], ◌∷◌, ◌++◌, Some, None, sym, refl, ap, ◌∙◌, ap₂, append-nil, arith}
use Rattle.std.proofs.lemmas.Bool.{ltb-true, lt-ltb, and_parts, not-true, both_ways, eq-eqb}
use Rattle.regime.specs.Order.{Order}
use Rattle.meaning.specs.Answers.{Call, feed, collect, turn, ask, Answer, refused, fed, collected, turned, told}
use Rattle.meaning.specs.Logs.{Log, after, log, reached, logged, count_if, moves_of, some_move, struck, kept, shown, seen}
use Rattle.meaning.specs.Programs.{Program, level_at}
use Rattle.meaning.specs.Promises.{sees}
use Rattle.meaning.specs.Sights.{Beside, feeds, collects, asks, Shown, heard, hidden, still, EverySight, EveryMove}
use Rattle.meaning.specs.Visits.{Opening, Frame, framed, State, opened, respond}
use Rattle.meaning.specs.declared.answers.Moved.{Moved}
use Rattle.meaning.proofs.Lists.{clash}

-- one call more adds its entry to the log
log_more : (f : Frame) (s : State) (calls : List Call) (x : Call) → log f s (calls ++ (x ∷ [])) ≡ log f s calls ++ ((x, (respond f (after f s calls) x).1) ∷ [])
log_more f s [] x = refl
log_more f s (y ∷ ys) x = ap (λ (es : Log). (y, (respond f s y).1) ∷ es) (log_more f (respond f s y).0 ys x)

-- a script, what a regime answers, and a level l
module _ (sc : Program) (r : Order) (l : ℕ) where
  -- of two logs on end l sees what it sees of each
  seen_more : (es ds : Log) → seen sc r l (es ++ ds) ≡ seen sc r l es ++ seen sc r l ds
  seen_more [] ds = refl
  seen_more (e ∷ es) ds = at_test (seen_more es ds) (struck sc r l e.0)
    where
      at_test : seen sc r l (es ++ ds) ≡ seen sc r l es ++ seen sc r l ds → (b : Bool) →
          cond b (seen sc r l (es ++ ds)) (shown r l e.1 ∷ seen sc r l (es ++ ds)) ≡ cond b (seen sc r l es) (shown r l e.1 ∷ seen sc r l es) ++ seen sc r l ds
      at_test later true = later
      at_test later false = ap (λ (as_seen : List Answer). shown r l e.1 ∷ as_seen) later

  -- of two rows of calls what is kept of each is kept
  kept_more : (xs ys : List Call) → kept sc r l (xs ++ ys) ≡ kept sc r l xs ++ kept sc r l ys
  kept_more [] ys = refl
  kept_more (x ∷ xs) ys = at_test (kept_more xs ys) (struck sc r l x)
    where
      at_test : kept sc r l (xs ++ ys) ≡ kept sc r l xs ++ kept sc r l ys → (b : Bool) →
          cond b (kept sc r l (xs ++ ys)) (x ∷ kept sc r l (xs ++ ys)) ≡ cond b (kept sc r l xs) (x ∷ kept sc r l xs) ++ kept sc r l ys
      at_test later true = later
      at_test later false = ap (λ (zs : List Call). x ∷ zs) later

-- an opening, and a level l
module _ (o : Opening) (l : ℕ) where
  -- a call beside l is struck
  beside_struck : (x : Call) → Beside o l x → struck o.script o.order l x ≡ true
  beside_struck x (feeds k v h e) = ap₂ (λ (a b : Bool). a && not b) (lt-ltb k o.script.channel_count h) e
  beside_struck x (collects k h e) = ap₂ (λ (a b : Bool). a && not b) (lt-ltb k o.script.channel_count h) e
  beside_struck x (asks a h e) = ap₂ (λ (b c : Bool). b && not c) (lt-ltb a o.script.levels h) e

  -- and a struck call is beside l
  struck_beside : (x : Call) → struck o.script o.order l x ≡ true → Beside o l x
  struck_beside (feed k v) e =
      let p = and_parts (ltb k o.script.channel_count) (not (o.order.flows (level_at o.script k) l)) e in
      feeds k v (ltb-true k o.script.channel_count p.0) (not-true (o.order.flows (level_at o.script k) l) p.1)
  struck_beside (collect k) e =
      let p = and_parts (ltb k o.script.channel_count) (not (o.order.flows (level_at o.script k) l)) e in
      collects k (ltb-true k o.script.channel_count p.0) (not-true (o.order.flows (level_at o.script k) l) p.1)
  struck_beside turn e = absurd (both_ways false refl e)
  struck_beside (ask a) e =
      let p = and_parts (ltb a o.script.levels) (not (o.order.flows a l)) e in
      asks a (ltb-true a o.script.levels p.0) (not-true (o.order.flows a l) p.1)

  -- so a call that is not beside l is not struck
  not_beside : (x : Call) → (Beside o l x → ⊥) → struck o.script o.order l x ≡ false
  not_beside x nay = at_test (struck o.script o.order l x) refl
    where
      at_test : (b : Bool) → struck o.script o.order l x ≡ b → struck o.script o.order l x ≡ false
      at_test true e = absurd (nay (struck_beside x e))
      at_test false e = e

  -- what is shown of an answer
  shown_as : (b a : Answer) → Shown o l b a → shown o.order l b ≡ a
  shown_as b a (heard m e) = ap (λ z. cond z (turned (Some m)) (turned None)) e
  shown_as b a (hidden m e) = ap (λ z. cond z (turned (Some m)) (turned None)) e
  shown_as b a (still c nay) = no_move c nay
    where
      no_move : (c : Answer) → ((m : Moved) → c ≡ turned (Some m) → ⊥) → shown o.order l c ≡ c
      no_move (turned (Some m)) nay = absurd (nay m refl)
      no_move (turned None) nay = refl
      no_move (refused e) nay = refl
      no_move fed nay = refl
      no_move (collected v) nay = refl
      no_move (told s) nay = refl

  -- there is always something to show
  shows : (b : Answer) → (a : Answer) × Shown o l b a
  shows (turned (Some m)) = at_test (o.order.flows m.level l) refl
    where
      at_test : (z : Bool) → o.order.flows m.level l ≡ z → (a : Answer) × Shown o l (turned (Some m)) a
      at_test true e = (turned (Some m), heard m e)
      at_test false e = (turned None, hidden m e)
  shows (turned None) = (turned None, still (turned None) (λ m e. clash cc))
  shows (refused r) = (refused r, still (refused r) (λ m e. clash cc))
  shows fed = (fed, still fed (λ m e. clash cc))
  shows (collected v) = (collected v, still (collected v) (λ m e. clash cc))
  shows (told s) = (told s, still (told s) (λ m e. clash cc))

  -- what is seen of one call more is what was seen, and what is seen of its entry
  sees_more : (calls : List Call) (x : Call) → sees l o (calls ++ (x ∷ [])) ≡ sees l o calls ++ seen o.script o.order l ((x, (respond (framed o) (reached o calls) x).1) ∷ [])
  sees_more calls x =
      ap (seen o.script o.order l) (log_more (framed o) (opened o) calls x)
      ∙ seen_more o.script o.order l (logged o calls) ((x, (respond (framed o) (reached o calls) x).1) ∷ [])

-- so every level sees every log
pub every_sight : EverySight
every_sight o l =
    record {
      at_first = (refl, refl);
      beside = λ calls x h.
          let e = beside_struck o l x h in (
            sees_more o l calls x ∙ ap (λ b. sees l o calls ++ cond b [] (shown o.order l (respond (framed o) (reached o calls) x).1 ∷ [])) e ∙ append-nil (sees l o calls),
            kept_more o.script o.order l calls (x ∷ []) ∙ ap (λ b. kept o.script o.order l calls ++ cond b [] (x ∷ [])) e ∙ append-nil (kept o.script o.order l calls),
          );
      others = λ calls x a nay h.
          let e = not_beside o l x nay in (
            sees_more o l calls x
                ∙ ap (λ b. sees l o calls ++ cond b [] (shown o.order l (respond (framed o) (reached o calls) x).1 ∷ [])) e
                ∙ ap (λ (w : Answer). sees l o calls ++ (w ∷ [])) (shown_as o l (respond (framed o) (reached o calls) x).1 a h),
            kept_more o.script o.order l calls (x ∷ []) ∙ ap (λ b. kept o.script o.order l calls ++ cond b [] (x ∷ [])) e,
          );
      shows = shows o l;
      begun = λ h count alike.
          record {
            script = refl;
            regime = record { size = refl; flows = λ a b _ _. refl; picks = λ p s _ _. refl };
            count = count;
            list = λ k d. sym (alike k d.0 d.2).0;
            capacity = λ k d. sym (alike k d.0 d.2).1;
          };
    }

-- an entry with a move counts for its level, and any other leaves what was counted
one_more : (x : Call) (w : Answer) (es : Log) → (some_move es ≡ true → (a : ℕ) × (1 ≤ moves_of a es)) → some_move ((x, w) ∷ es) ≡ true → (a : ℕ) × (1 ≤ moves_of a ((x, w) ∷ es))
one_more x (turned (Some m)) es later e =
    let counts : moves_of m.level ((x, turned (Some m)) ∷ es) ≡ count_if true (moves_of m.level es) = ap (λ b. count_if b (moves_of m.level es)) (eq-eqb m.level m.level refl) in
    (m.level, omega (arith, counts))
one_more x (turned None) es later e = later e
one_more x (refused r) es later e = later e
one_more x fed es later e = later e
one_more x (collected v) es later e = later e
one_more x (told s) es later e = later e

-- so a log with a move has a level that moved
pub every_move : EveryMove
every_move [] e = absurd (both_ways false refl e)
every_move (d ∷ es) e = one_more d.0 d.1 es (every_move es) e
