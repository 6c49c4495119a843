-- Every in gives what one of the rules says, and what the rules say is one thing. Assumes nothing.
use Rattle.std.proofs.Common.{◌≡◌, ℕ, ◌<◌, ◌≤◌, Bool, true, false, eqb, ltb, length, ℤ, pos, Some, None, Option, refl, ap, subst}
use Rattle.std.proofs.lemmas.Bool.{ltb-true, ltb-false, lt-ltb, le-ltb, eqb-true, eq-eqb}
use Rattle.meaning.specs.Copies.{Copy, nth}
use Rattle.meaning.specs.Visits.{Frame, State, level_of, Got, again, got, gets}
use Rattle.meaning.specs.Rules.{AtEnd, Gives, unheard, past_the_tape, from_the_tape, from_the_host, lacking, waiting, Inputs, OneRule}
use Rattle.meaning.proofs.Listed.{nth_some, nth_none, nth_below, nth_past, nth_first, nth_empty}

module _ (f : Frame) (s : State) (l : ℕ) (c : Copy) (k : ℕ) where
  -- what each of the five tests of an in gives
  abbrev Flows : Bool → Type 0
  Flows t = f.order.flows (level_of f k) l ≡ t

  abbrev Early : Bool → Type 0
  Early t = ltb (c.positions k) 64 ≡ t

  abbrev OnTape : Option ℤ → Type 0
  OnTape v = nth (s.tape k) (c.positions k) ≡ v

  abbrev Own : Bool → Type 0
  Own t = eqb (level_of f k) l ≡ t

  abbrev Oldest : Option ℤ → Type 0
  Oldest v = nth (s.lists k) 0 ≡ v

  -- the tests that say that the copy is where the tape ends
  at_end : Flows true → Early true → OnTape None → AtEnd f s l c k
  at_end p q e = ((p, ltb-true (c.positions k) 64 q), nth_none (s.tape k) (c.positions k) e)

  -- there is a rule for each outcome of the tests
  rule_of : (flows early : Bool) (next : Option ℤ) (own : Bool) (oldest : Option ℤ)
      → Flows flows → Early early → OnTape next → Own own → Oldest oldest → Gives f s l c k (got flows early next own oldest)
  rule_of false early next own oldest p q e o h = unheard p
  rule_of true false next own oldest p q e o h = past_the_tape p (ltb-false (c.positions k) 64 q)
  rule_of true true (Some v) own oldest p q e o h =
      let r = nth_some (s.tape k) (c.positions k) v (pos 0) e in
      subst (λ x. Gives f s l c k (again x)) r.1 (from_the_tape (p, ltb-true (c.positions k) 64 q) r.0)
  rule_of true true None true (Some v) p q e o h =
      let r = nth_first (s.lists k) v h in from_the_host v r.0 (at_end p q e) (eqb-true (level_of f k) l o) r.1
  rule_of true true None true None p q e o h = lacking (at_end p q e) (eqb-true (level_of f k) l o) (nth_empty (s.lists k) h)
  rule_of true true None false oldest p q e o h = waiting (at_end p q e) o

  -- what is got once the tests are known
  decided : (flows early : Bool) (next : Option ℤ) (own : Bool) (oldest : Option ℤ)
      → Flows flows → Early early → OnTape next → Own own → Oldest oldest → got flows early next own oldest ≡ gets f s l c k
  decided flows early next own oldest p q e o h = cc

  -- what a position below 64, and one at the tape's end, make of the tests
  early_at : c.positions k < 64 → Early true
  early_at h = lt-ltb (c.positions k) 64 h

  past : length (s.tape k) ≤ c.positions k → OnTape None
  past h = nth_past (s.tape k) (c.positions k) h

  -- each rule fixes the tests that decide
  got_by_rule : (g : Got) → Gives f s l c k g → g ≡ gets f s l c k
  got_by_rule g (unheard p) = decided false _ _ _ _ p refl refl refl refl
  got_by_rule g (past_the_tape p h) = decided true false _ _ _ p (le-ltb (c.positions k) 64 h) refl refl refl
  got_by_rule g (from_the_tape p h) = decided true true _ _ _ p.0 (early_at p.1) (nth_below (s.tape k) (c.positions k) (pos 0) h) refl refl
  got_by_rule g (from_the_host v vs p e h) =
      decided true true None true (Some v) p.0.0 (early_at p.0.1) (past p.1) (eq-eqb (level_of f k) l e) (ap (λ xs. nth xs 0) h)
  got_by_rule g (lacking p e h) =
      decided true true None true None p.0.0 (early_at p.0.1) (past p.1) (eq-eqb (level_of f k) l e) (ap (λ xs. nth xs 0) h)
  got_by_rule g (waiting p e) = decided true true None false _ p.0.0 (early_at p.0.1) (past p.1) e refl

-- every in gives what one of the rules says
pub every_in : Inputs
every_in f s l c k = rule_of f s l c k _ _ _ _ _ refl refl refl refl refl

-- and no two rules say different things
pub one_rule : OneRule
one_rule = got_by_rule
