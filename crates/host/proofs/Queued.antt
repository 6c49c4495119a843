-- A queue that changes in a row of them. Assumes nothing.
use Rattle.std.proofs.Common.{◌≡◌, ℕ, ◌<◌, List, [], ◌∷◌, ◌++◌, length, get_or, set, ℤ, Ok, Err, Result, sym, refl, ap, ◌∙◌}
use mathlib.Core.Path.{fun_ext}
use Rattle.std.proofs.lemmas.List.{length-set}
use Rattle.refusal.specs.declared.Refusal.{Refusal}
use Rattle.host.specs.Channels.{Channels, with_list, on_ok, of_channel, push_answer, oldest, rest, after_put, after_take}
use Rattle.host.specs.Queues.{queued}
use Rattle.host.proofs.Lists.{at_is, at_set, stays, with_same}
use Rattle.host.proofs.Shown.{on_channel}

-- a call leaves the list that it says where it is accepted, and else the channels as they are
left : {A : Type 0} (b : Channels) (c : ℕ) (r : Result A Refusal) (l : List ℤ) → with_list b c (on_ok r l (b.list c)) ≡ on_ok r (with_list b c l) b
left b c (Ok _) l = refl
left b c (Err _) l = with_same b c

-- without an oldest value nothing is behind it
behind : (l : List ℤ) → rest l ≡ on_ok (oldest l) (rest l) l
behind [] = refl
behind (v ∷ l) = refl

-- a queue that gets other values, and keeps its capacity, changes one channel and no other
pub changes : {Q : Type 0} (list : Q → List ℤ) (room : Q → ℕ) (k : ℕ) (qs : List Q) (c : ℕ) (new : Q) → c < length qs → room new ≡ (queued list room k qs).capacity c → queued list room k (set qs c new) ≡ with_list (queued list room k qs) c (list new)
changes list room k qs c new lt kept =
    ap (λ n. record { count = n; capacity = (queued list room k (set qs c new)).capacity; list = (queued list room k (set qs c new)).list }) (length-set qs c new)
    ∙ ap (λ h. record { count = length qs; capacity = h; list = (queued list room k (set qs c new)).list }) (fun_ext (λ d. at_set room qs c new k lt d ∙ stays (queued list room k qs).capacity c (room new) kept d))
    ∙ ap (λ h. record { count = length qs; capacity = (queued list room k qs).capacity; list = h }) (fun_ext (λ d. at_set list qs c new [] lt d))

module _ {Q : Type 0} (list : Q → List ℤ) (room : Q → ℕ) (k : ℕ) (qs : List Q) (c : ℕ) (q new : Q) (lt : c < length qs) (here : q ≡ get_or qs c q) (size : room new ≡ room q) where
  -- what stands at the channel is the queue
  held : (queued list room k qs).list c ≡ list q
  held = at_is list qs c q [] lt here

  -- and its capacity is the queue's
  most : (queued list room k qs).capacity c ≡ room q
  most = at_is room qs c q k lt here

  -- a call on the queue is a call on its channel
  called : {A : Type 0} (r : Result A Refusal) (l : List ℤ) → list new ≡ on_ok r l ((queued list room k qs).list c) → queued list room k (set qs c new) ≡ on_ok (of_channel (queued list room k qs) c r) (with_list (queued list room k qs) c l) (queued list room k qs)
  called r l e =
      let b = queued list room k qs in
      changes list room k qs c new lt (size ∙ sym most) ∙ ap (with_list b c) e ∙ left b c r l ∙ ap (λ x. on_ok x (with_list b c l) b) (sym (on_channel b c r lt))

  -- a put on its channel
  pub pushed : (v : ℤ) → list new ≡ on_ok (push_answer (room q) (list q)) (list q ++ (v ∷ [])) (list q) → queued list room k (set qs c new) ≡ after_put (queued list room k qs) c v
  pushed v e =
      let b = queued list room k qs in
      called (push_answer (b.capacity c) (b.list c)) (b.list c ++ (v ∷ [])) (rw (held, most) e)

  -- and a take from it
  pub popped : list new ≡ rest (list q) → queued list room k (set qs c new) ≡ after_take (queued list room k qs) c
  popped e =
      let b = queued list room k qs in
      called (oldest (b.list c)) (rest (b.list c)) (rw held (e ∙ behind (list q)))
