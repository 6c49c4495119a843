-- What the calls of a host answer and leave, case by case. Assumes nothing.
use Rattle.std.proofs.Common.{◌≡◌, ℕ, ◌-◌, ◌<◌, ◌≤◌, List, [], ◌∷◌, ◌++◌, length, ℤ, Ok, Err, Result, sym, refl, ap, ◌∙◌, subst, arith}
use Rattle.std.proofs.lemmas.Bool.{lt-ltb, le-ltb, cond-true, cond-false}
use Rattle.refusal.specs.declared.Refusal.{Refusal}
use Rattle.refusal.specs.declared.Refusal.TheVariants.{Full, Empty}
use Rattle.host.specs.Channels.{Channels, with_list, on_ok, of_channel, stored, lacking, push_answer, oldest, rest, put_answer, after_put, take_answer, after_take, IfAccepted, IfRefused}

-- a call on a channel that there is
pub on_channel : {A : Type 0} (b : Channels) (c : ℕ) (r : Result A Refusal) → c < b.count → of_channel b c r ≡ r
on_channel b c r lt = cond-true _ _ _ (lt-ltb _ _ lt)

pub held_is : (b : Channels) (c n : ℕ) → c < b.count → n ≡ length (b.list c) → Ok n ≡ stored b c
held_is b c n lt e = ap Ok e ∙ sym (on_channel b c (Ok (length (b.list c))) lt)

pub space_is : (b : Channels) (c n : ℕ) → c < b.count → n ≡ b.capacity c - length (b.list c) → Ok n ≡ lacking b c
space_is b c n lt e = ap Ok e ∙ sym (on_channel b c (Ok (b.capacity c - length (b.list c))) lt)

-- a put where there is room
pub put_fits : (b : Channels) (c : ℕ) → c < b.count → length (b.list c) < b.capacity c → put_answer b c ≡ Ok tt
put_fits b c lt room = on_channel b c (push_answer (b.capacity c) (b.list c)) lt ∙ cond-true _ _ _ (lt-ltb _ _ room)

pub after_fits : (b : Channels) (c : ℕ) (v : ℤ) → c < b.count → length (b.list c) < b.capacity c → after_put b c v ≡ with_list b c (b.list c ++ (v ∷ []))
after_fits b c v lt room = ap (λ r. on_ok r (with_list b c (b.list c ++ (v ∷ []))) b) (put_fits b c lt room)

-- and where there is none
pub put_full : (b : Channels) (c : ℕ) → c < b.count → b.capacity c ≤ length (b.list c) → put_answer b c ≡ Err Full
put_full b c lt full = on_channel b c (push_answer (b.capacity c) (b.list c)) lt ∙ cond-false _ _ _ (le-ltb _ _ full)

pub after_full : (b : Channels) (c : ℕ) (v : ℤ) → c < b.count → b.capacity c ≤ length (b.list c) → after_put b c v ≡ b
after_full b c v lt full = ap (λ r. on_ok r (with_list b c (b.list c ++ (v ∷ []))) b) (put_full b c lt full)

-- a take where there is a value
pub take_some : (b : Channels) (c : ℕ) (v : ℤ) → c < b.count → oldest (b.list c) ≡ Ok v → take_answer b c ≡ Ok v
take_some b c v lt e = on_channel b c (oldest (b.list c)) lt ∙ e

pub after_some : (b : Channels) (c : ℕ) (v : ℤ) → c < b.count → oldest (b.list c) ≡ Ok v → after_take b c ≡ with_list b c (rest (b.list c))
after_some b c v lt e = ap (λ r. on_ok r (with_list b c (rest (b.list c))) b) (take_some b c v lt e)

-- and where there is none
pub take_none : (b : Channels) (c : ℕ) → c < b.count → b.list c ≡ [] → take_answer b c ≡ Err Empty
take_none b c lt e = on_channel b c (oldest (b.list c)) lt ∙ ap oldest e

pub after_none : (b : Channels) (c : ℕ) → c < b.count → b.list c ≡ [] → after_take b c ≡ b
after_none b c lt e = ap (λ r. on_ok r (with_list b c (rest (b.list c))) b) (take_none b c lt e)

-- a list that is not empty has an oldest value
pub has_oldest : (vs : List ℤ) → 0 < length vs → (v : ℤ) × (oldest vs ≡ Ok v)
has_oldest [] h = absurd (omega arith)
has_oldest (v ∷ vs) h = (v, refl)

-- a host without a memory of others' owes nothing on it
pub no_memory : {A : Type 0} (r : Result A Refusal) → IfAccepted r (Unit {0})
no_memory (Ok _) = tt
no_memory (Err _) = tt

-- an accepted call owes nothing on refusals
pub unrefused : {A : Type 0} (r : Result A Refusal) (P : Type 0) (v : A) → r ≡ Ok v → IfRefused r P
unrefused r P v e = subst (λ x. IfRefused x P) (sym e) tt
