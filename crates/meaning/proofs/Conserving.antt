-- What a channel held and accepted is what was taken from it and what it holds. Assumes nothing.
use Rattle.std.proofs.Common.{◌≡◌, ℕ, List, [], ◌∷◌, ◌++◌, ℤ, sym, ap, ◌∙◌, append_assoc, append-nil}
use Rattle.refusal.specs.declared.Refusal.{Refusal}
use Rattle.meaning.specs.Answers.{Call, feed, collect, turn, ask, refused}
use Rattle.meaning.specs.Copies.{Copy}
use Rattle.meaning.specs.Logs.{after, log, puts, takes, accepts, taken_by, accepted, taken}
use Rattle.meaning.specs.Programs.{Sound}
use Rattle.meaning.specs.Promises.{Conservation}
use Rattle.meaning.specs.Visits.{Opening, Frame, framed, State, opened, Reply, lists_after, respond}
use Rattle.meaning.specs.declared.answers.Act.{Act}
use Rattle.meaning.proofs.Lists.{put_adds, take_removes}
use Rattle.meaning.proofs.Outcomes.{Outcome, refuses, feeds, collects, idles, goes_on, tells, outcome}
use Rattle.meaning.proofs.Stepping.{Step, computes, defaults, reuses, takes_one, writes, withholds, step_of}

module _ (f : Frame) (s : State) (k : ℕ) where
  -- channel k is conserved by one call
  abbrev Conserved : Call → Reply → Type 0
  Conserved x r = s.lists k ++ accepts k x r.1 ≡ taken_by k x r.1 ++ r.0.lists k

  -- where nothing is accepted and nothing taken
  unchanged : s.lists k ++ [] ≡ s.lists k
  unchanged = append-nil (s.lists k)

  -- by an act
  act_conserves : (l : ℕ) (c : Copy) (act : Act) (d : Copy) → Step f s l c act d → s.lists k ++ puts k act ≡ takes k act ++ lists_after act s.lists k
  act_conserves l c act d (computes e p) = unchanged
  act_conserves l c act d (defaults t j h) = unchanged
  act_conserves l c act d (reuses t j v p q) = unchanged
  act_conserves l c act d (takes_one t j v own early past first) = take_removes s.lists j k v first
  act_conserves l c act d (writes j v own) = put_adds s.lists j k v
  act_conserves l c act d (withholds j v other) = unchanged

  -- by a refusal
  refusal_conserves : (x : Call) (e : Refusal) → Conserved x (s, refused e)
  refusal_conserves (feed j v) e = unchanged
  refusal_conserves (collect j) e = unchanged
  refusal_conserves turn e = unchanged
  refusal_conserves (ask a) e = unchanged

  -- by each call
  call_conserves : Sound f.script → (x : Call) (r : Reply) → Outcome f s x r → Conserved x r
  call_conserves sound x r (refuses y e h) = refusal_conserves y e
  call_conserves sound x r (feeds j v p q) = put_adds s.lists j k v
  call_conserves sound x r (collects j v p q first) = take_removes s.lists j k v first
  call_conserves sound x r (idles none left) = unchanged
  call_conserves sound x r (goes_on a act c q p left) = act_conserves a (s.copy a) act c (step_of f s a sound act c p).0
  call_conserves sound x r (tells a h) = unchanged

-- by calls from any state on
calls_conserve : (f : Frame) → Sound f.script → (s : State) (calls : List Call) (k : ℕ) → s.lists k ++ accepted k (log f s calls) ≡ taken k (log f s calls) ++ (after f s calls).lists k
calls_conserve f sound s [] k = append-nil (s.lists k)
calls_conserve f sound s (x ∷ xs) k =
    let r : Reply = respond f s x in
    let put : List ℤ = accepts k x r.1 in
    let out : List ℤ = taken_by k x r.1 in
    let more : List ℤ = accepted k (log f r.0 xs) in
    sym (append_assoc (s.lists k) put more)
    ∙ ap (λ (l : List ℤ). l ++ more) (call_conserves f s k sound x r (outcome f s x))
    ∙ append_assoc out (r.0.lists k) more
    ∙ ap (λ (l : List ℤ). out ++ l) (calls_conserve f sound r.0 xs k)
    ∙ sym (append_assoc out (taken k (log f r.0 xs)) ((after f r.0 xs).lists k))

-- and from an opening on
pub conservation : (o : Opening) → Sound o.script → Conservation o
conservation o sound calls k = calls_conserve (framed o) sound (opened o) calls k
