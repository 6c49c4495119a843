-- Every act of a log is rightful. Assumes nothing.
use Rattle.std.proofs.Common.{◌≡◌, ℕ, suc, Bool, true, false, cond, eqb, List, [], ◌∷◌, ◌++◌, length, ℤ, Some, sym, refl, ap, ◌∙◌, inl, inr, arith, length-append}
use Rattle.std.proofs.lemmas.Bool.{eqb-true, eqb-false}
use Rattle.meaning.specs.Answers.{Call, turn}
use Rattle.meaning.specs.Copies.{Copy, nth}
use Rattle.meaning.specs.Logs.{after, reached}
use Rattle.meaning.specs.Programs.{Sound}
use Rattle.meaning.specs.Promises.{Limits, Limited, Rightful, Acts}
use Rattle.meaning.specs.Visits.{Opening, Frame, framed, State, opened, Reply, level_of, tapes_after, counted, acted, respond}
use Rattle.meaning.specs.declared.answers.Act.{Act}
use Rattle.meaning.proofs.Lists.{nth_below, with_at_other}
use Rattle.meaning.proofs.Outcomes.{Outcome, refuses, feeds, collects, idles, goes_on, tells, outcome, moving_of}
use Rattle.meaning.proofs.Stepping.{Step, computes, defaults, reuses, takes_one, writes, withholds, step_of}

-- the copy at a channel's own level is at the end of the channel's tape
abbrev AtEnd : Frame → State → Type 0
AtEnd f s = (k : ℕ) → (s.copy (level_of f k)).positions k ≡ length (s.tape k)

module _ (f : Frame) (s : State) (at_end : AtEnd f s) (l : ℕ) where
  -- of each channel of level l the copy at l is at the end
  own_end : (k : ℕ) → level_of f k ≡ l → (s.copy l).positions k ≡ length (s.tape k)
  own_end k own = ap (λ a. (s.copy a).positions k) (sym own) ∙ at_end k

  -- so it reuses nothing of its own channels
  no_reuse : (k : ℕ) (v : ℤ) → nth (s.tape k) ((s.copy l).positions k) ≡ Some v → level_of f k ≡ l → ⊥
  no_reuse k v e own = let h = nth_below (s.tape k) ((s.copy l).positions k) v e in omega (arith, own_end k own)

  -- after its own act it is at the end again
  own_act : (act : Act) (d : Copy) → Step f s l (s.copy l) act d → (k : ℕ) → level_of f k ≡ l → d.positions k ≡ length (tapes_after act s.tape k)
  own_act act d (computes e p) k own = ap (λ (at : ℕ → ℕ). at k) p ∙ own_end k own
  own_act act d (defaults t j h) k own = own_end k own
  own_act act d (reuses t j v p q) k own = at_test (eqb k j) refl
    where
      at_test : (b : Bool) → eqb k j ≡ b → cond b (suc ((s.copy l).positions j)) ((s.copy l).positions k) ≡ length (s.tape k)
      at_test true e = absurd (no_reuse j v q (ap (level_of f) (sym (eqb-true k j e)) ∙ own))
      at_test false e = own_end k own
  own_act act d (takes_one t j v here early past first) k own = at_test (eqb k j)
    where
      at_test : (b : Bool) → cond b (suc ((s.copy l).positions j)) ((s.copy l).positions k) ≡ length (cond b (s.tape j ++ (v ∷ [])) (s.tape k))
      at_test true = omega (arith, own_end j here, length-append (s.tape j) (v ∷ []))
      at_test false = own_end k own
  own_act act d (writes j v here) k own = own_end k own
  own_act act d (withholds j v other) k own = own_end k own

  -- and tapes of other levels stay as they are
  other_tape : (act : Act) (d : Copy) → Step f s l (s.copy l) act d → (k : ℕ) → (level_of f k ≡ l → ⊥) → tapes_after act s.tape k ≡ s.tape k
  other_tape act d (computes e p) k nay = refl
  other_tape act d (defaults t j h) k nay = refl
  other_tape act d (reuses t j v p q) k nay = refl
  other_tape act d (takes_one t j v here early past first) k nay = with_at_other s.tape j (s.tape j ++ (v ∷ [])) k (λ e. nay (ap (level_of f) e ∙ here))
  other_tape act d (writes j v here) k nay = refl
  other_tape act d (withholds j v other) k nay = refl

  -- so all copies are at the ends of the tapes of their own channels after it
  act_at_end : (act : Act) (d : Copy) → Step f s l (s.copy l) act d → AtEnd f (counted (acted s l act d))
  act_at_end act d step k = at_test (eqb (level_of f k) l) refl
    where
      at_test : (b : Bool) → eqb (level_of f k) l ≡ b → (cond b d (s.copy (level_of f k))).positions k ≡ length (tapes_after act s.tape k)
      at_test true e = own_act act d step k (eqb-true (level_of f k) l e)
      at_test false e = at_end k ∙ ap length (sym (other_tape act d step k (eqb-false (level_of f k) l e)))

  -- what a copy in its tapes does by a step is rightful
  rightful : Limits f s → (act : Act) (d : Copy) → Step f s l (s.copy l) act d → Rightful f s l act
  rightful limits act d (computes e p) = tt
  rightful limits act d (defaults t k (inl h)) = (refl, inl h)
  rightful limits act d (defaults t k (inr h)) = (refl, inr (omega (arith, limits.position l k, limits.tape k)))
  rightful limits act d (reuses t k v p q) = (p, no_reuse k v q)
  rightful limits act d (takes_one t k v own early past first) = own
  rightful limits act d (writes k v own) = own
  rightful limits act d (withholds k v other) = other

-- each call keeps own copies at the ends of their tapes
call_at_end : (f : Frame) → Sound f.script → (s : State) → AtEnd f s → (x : Call) (r : Reply) → Outcome f s x r → AtEnd f r.0
call_at_end f sound s at_end x r (refuses y e h) = at_end
call_at_end f sound s at_end x r (feeds k v p q) = at_end
call_at_end f sound s at_end x r (collects k v p q first) = at_end
call_at_end f sound s at_end x r (idles none left) = at_end
call_at_end f sound s at_end x r (goes_on a act d q p left) = act_at_end f s at_end a act d (step_of f s a sound act d p).0
call_at_end f sound s at_end x r (tells a h) = at_end

-- and so do calls from any state on
calls_at_end : (f : Frame) → Sound f.script → (calls : List Call) (s : State) → AtEnd f s → AtEnd f (after f s calls)
calls_at_end f sound [] s at_end = at_end
calls_at_end f sound (x ∷ xs) s at_end = calls_at_end f sound xs (respond f s x).0 (call_at_end f sound s at_end x (respond f s x) (outcome f s x))

-- an opening has them there, so every act of its logs is rightful
pub acts : (o : Opening) → Sound o.script → Limited o → Acts o
acts o sound limited calls m e =
    let f : Frame = framed o in
    let s : State = reached o calls in
    let here = moving_of f s turn (respond f s turn) (outcome f s turn) m e in
    rightful f s (calls_at_end f sound calls (opened o) (λ k. refl)) m.level (limited calls) m.act here.copy (step_of f s m.level sound m.act here.copy here.planned).0
