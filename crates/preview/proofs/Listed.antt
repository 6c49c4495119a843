-- The list of one channel in the table of all. Assumes nothing.
use Rattle.std.proofs.Common.{◌≡◌, ℕ, zero, suc, ◌<◌, cond, eqb, List, [], ◌∷◌, ◌++◌, length, get_or, set, ℤ, true, false, is_some, Option, Ok, Err, Result, ap, ◌∙◌, refl, arith}
use Rattle.host.proofs.Lists.{at_set, stays}
use Rattle.refusal.specs.declared.Refusal.{Refusal}
use Rattle.host.specs.Channels.{IfRefused, on_ok}
use Rattle.meaning.specs.Copies.{with_at}
use Rattle.meaning.specs.Visits.{put_on}
use Rattle.copies.proofs.Rows.{read_as}
use Rattle.copies.specs.declared.tapes.Tape.{Tape}
use Rattle.preview.specs.Views.{given_in, list_in, lists_in}

-- what is read at a channel's place holds the channel's values
pub read_list : (ls : List (Option Tape)) (k : ℕ) (y : Option Tape) → k < length ls → list_in (get_or ls k y) ≡ lists_in ls k
read_list [] k y inside = absurd (omega arith)
read_list (l ∷ ls) zero y inside = refl
read_list (l ∷ ls) (suc k) y inside = read_list ls k y (omega arith)

-- a list that is there gives its channel a list, and no other
pub begun_given : (ls : List (Option Tape)) (k : ℕ) (x : Option Tape) (d : ℕ) → k < length ls → is_some x ≡ true → given_in (set ls k x) d ≡ with_at (given_in ls) k true d
begun_given ls k x d inside there = at_set is_some ls k x false inside d ∙ ap (λ b. cond (eqb d k) b (given_in ls d)) there

-- one that holds what the channel's held changes no channel's values
pub begun_lists : (ls : List (Option Tape)) (k : ℕ) (x : Option Tape) (d : ℕ) → k < length ls → list_in x ≡ lists_in ls k → lists_in (set ls k x) d ≡ lists_in ls d
begun_lists ls k x d inside kept = at_set list_in ls k x [] inside d ∙ stays (lists_in ls) k (list_in x) kept d

-- a call that is accepted gives the channel a list, and one that is refused leaves the list as it was
pub pushed_given : (r : Result (Unit {0}) Refusal) (ls : List (Option Tape)) (k : ℕ) (x y : Option Tape) (d : ℕ) → k < length ls → y ≡ get_or ls k y → is_some x ≡ true → IfRefused r (x ≡ get_or ls k y) → given_in (set ls k x) d ≡ on_ok r (with_at (given_in ls) k true) (given_in ls) d
pushed_given (Ok _) ls k x y d inside is there same = begun_given ls k x d inside there
pushed_given (Err _) ls k x y d inside is there same = at_set is_some ls k x false inside d ∙ stays (given_in ls) k (is_some x) (ap is_some same ∙ read_as is_some ls k y false inside is) d

-- a call that is accepted adds the value to the channel's list
pub pushed_lists : (r : Result (Unit {0}) Refusal) (ls : List (Option Tape)) (k : ℕ) (x : Option Tape) (v : ℤ) (d : ℕ) → k < length ls → list_in x ≡ on_ok r (lists_in ls k ++ (v ∷ [])) (lists_in ls k) → lists_in (set ls k x) d ≡ on_ok r (put_on k v (lists_in ls)) (lists_in ls) d
pushed_lists (Ok _) ls k x v d inside e = at_set list_in ls k x [] inside d ∙ ap (λ vs. cond (eqb d k) vs (lists_in ls d)) e
pushed_lists (Err _) ls k x v d inside e = begun_lists ls k x d inside e
