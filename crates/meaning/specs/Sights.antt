-- What a level sees of a log, call by call, and which hosts are alike to it: the laws above the words of secrecy and
-- progress. Assumes nothing.
use Rattle.std.specs.Prelude.{◌≡◌, ℕ, ◌<◌, ◌≤◌, true, false, List, [], ◌∷◌, ◌++◌, ℤ, Some, None, ◌≢◌}
use Rattle.host.specs.Channels.{Channels}
use Rattle.meaning.specs.Answers.{Call, feed, collect, ask, Answer, turned}
use Rattle.meaning.specs.Logs.{Log, reached, kept, moves_of, some_move}
use Rattle.meaning.specs.Programs.{level_at}
use Rattle.meaning.specs.Promises.{BegunAlike, sees}
use Rattle.meaning.specs.Visits.{Opening, framed, respond}
use Rattle.meaning.specs.declared.answers.Moved.{Moved}

-- an opening, and the level l that looks on
module _ (o : Opening) (l : ℕ) where
  -- a call beside l: on a channel of the script, or about a level of it, that does not flow to l
  pub data Beside : Call → Type 0 where
    feeds : (k : ℕ) (v : ℤ) → k < o.script.channel_count → o.order.flows (level_at o.script k) l ≡ false → Beside (feed k v)
    collects : (k : ℕ) → k < o.script.channel_count → o.order.flows (level_at o.script k) l ≡ false → Beside (collect k)
    asks : (a : ℕ) → a < o.script.levels → o.order.flows a l ≡ false → Beside (ask a)

  -- an answer, and what l is shown of it: the move of a level that does not flow to l is nobody's, and all else is itself
  pub data Shown : Answer → Answer → Type 0 where
    heard : (m : Moved) → o.order.flows m.level l ≡ true → Shown (turned (Some m)) (turned (Some m))
    hidden : (m : Moved) → o.order.flows m.level l ≡ false → Shown (turned (Some m)) (turned None)
    still : (a : Answer) → ((m : Moved) → a ≢ turned (Some m)) → Shown a a

  -- the list of channel k and its capacity are the same at another host, if the channel is the script's and flows to l
  abbrev pub HostAlike : Channels → ℕ → Type 0
  HostAlike h k = k < o.script.channel_count → o.order.flows (level_at o.script k) l ≡ true → (h.list k ≡ o.host.list k) × (h.capacity k ≡ o.host.capacity k)

-- What level l sees of the visits that are opened with o.
pub record Sights (o : Opening) (l : ℕ) : Type 0 where
  -- of no calls it sees nothing, and none is kept
  pub at_first : (sees l o [] ≡ []) × (kept o.script o.order l [] ≡ [])
  -- a call beside it is neither seen nor kept
  pub beside : (calls : List Call) (x : Call) → Beside o l x →
      (sees l o (calls ++ (x ∷ [])) ≡ sees l o calls) × (kept o.script o.order l (calls ++ (x ∷ [])) ≡ kept o.script o.order l calls)
  -- every other call is kept, and its answer is seen as it is shown
  pub others : (calls : List Call) (x : Call) (a : Answer) → (Beside o l x → ⊥) → Shown o l (respond (framed o) (reached o calls) x).1 a →
      (sees l o (calls ++ (x ∷ [])) ≡ sees l o calls ++ (a ∷ [])) × (kept o.script o.order l (calls ++ (x ∷ [])) ≡ kept o.script o.order l calls ++ (x ∷ []))
  -- there is something to show of every answer
  pub shows : (b : Answer) → (a : Answer) × Shown o l b a
  -- a host with as many channels, alike in all that flows to l, makes an opening that is begun alike
  pub begun : (h : Channels) → o.host.count ≡ h.count → ((k : ℕ) → HostAlike o l h k) → BegunAlike l o (record { script = o.script; order = o.order; host = h })

-- the same of every opening and every number as level
abbrev pub EverySight : Type 0
EverySight = (o : Opening) (l : ℕ) → Sights o l

-- a log with a move has a level that moved, and that level's moves are counted
abbrev pub EveryMove : Type 0
EveryMove = (es : Log) → some_move es ≡ true → (a : ℕ) × (1 ≤ moves_of a es)
