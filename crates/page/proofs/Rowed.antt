-- What a call on a row of 16 queues says of the slot host's channels. Assumes nothing.
use Rattle.std.proofs.Common.{◌≡◌, ℕ, List, length, ℤ, sym, ap, ◌∙◌, subst}
use Rattle.std.specs.Prelude.{Result}
use Rattle.refusal.specs.declared.Refusal.{Refusal}
use Rattle.host.specs.Channels.{Channels, after_put, after_take, lacking, put_answer}
use Rattle.host.specs.Queues.{queued}
use Rattle.page.specs.declared.slots.Queue.{Queue}
use Rattle.page.specs.Slots.{contents, room, row_of, slots}

-- what is answered of every such row is answered of the channels
pub told_space : (qs : List Queue) (r : Result ℕ Refusal) (c : ℕ) → length qs ≡ 16 → ((k : ℕ) → r ≡ lacking (queued contents room k qs) c) → r ≡ lacking (slots qs) c
told_space qs r c e h = h 32 ∙ ap (λ (b : Channels). lacking b c) (row_of qs e)

-- and so is what a put answers
pub told_put : (qs : List Queue) (r : Result (Unit {0}) Refusal) (c : ℕ) → length qs ≡ 16 → ((k : ℕ) → r ≡ put_answer (queued contents room k qs) c) → r ≡ put_answer (slots qs) c
told_put qs r c e h = h 32 ∙ ap (λ (b : Channels). put_answer b c) (row_of qs e)

-- what a put leaves of such a row it leaves of the channels
pub left_put : (qs ts : List Queue) (c : ℕ) (v : ℤ) → length qs ≡ 16 → length ts ≡ 16 → ((k : ℕ) → queued contents room k ts ≡ after_put (queued contents room k qs) c v) → slots ts ≡ after_put (slots qs) c v
left_put qs ts c v e f h = sym (row_of ts f) ∙ h 32 ∙ ap (λ (b : Channels). after_put b c v) (row_of qs e)

-- and so does a take
pub left_take : (qs ts : List Queue) (c : ℕ) → length qs ≡ 16 → length ts ≡ 16 → ((k : ℕ) → queued contents room k ts ≡ after_take (queued contents room k qs) c) → slots ts ≡ after_take (slots qs) c
left_take qs ts c e f h = sym (row_of ts f) ∙ h 32 ∙ ap (λ (b : Channels). after_take b c) (row_of qs e)
