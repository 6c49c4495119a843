-- Tables of values and of records, read at a place. Assumes nothing.
use Rattle.std.proofs.Common.{◌≡◌, ℕ, zero, suc, ◌<◌, Bool, ◌&&◌, ltb, nat_lt, cond, eqb, List, [], ◌∷◌, map, length, get_or, set, ℤ, Some, None, Option, Bor, sym, refl, ap, ap₂, ◌∙◌}
use mathlib.Core.Path.{fun_ext}
use Rattle.std.specs.List.{slice_get}
use Rattle.std.specs.Option.{IfSome, is_some, option_copied}
use Rattle.std.proofs.lemmas.Bool.{lt-ltb, ltb-true, ltb-false}
use Rattle.std.proofs.lemmas.Option.{slice_get_past, slice_get_read}
use Rattle.host.proofs.Lists.{at_is, at_set}
use Rattle.script.specs.declared.parts.Instruction.{Instruction}
use Rattle.meaning.specs.Copies.{Copy, first, nth, with_at}
use Rattle.copies.specs.Held.{Moved, Stepped, assigns, reads, can_assign, can_compute, can_go_on, can_read, can_step, copies_of, copy_in, may_assign, may_compute, may_go_on, may_read, may_step, steps_in, steps_of}
use Rattle.copies.specs.Computed.{computes, goes_on}
use Rattle.copies.specs.declared.table.Copies.{Copies}
use Rattle.copies.specs.declared.table.LevelCopy.{LevelCopy}

-- a value of a list, if it is as long
nth_is : (vs : List ℤ) (i : ℕ) → slice_get vs i ≡ nth vs i
nth_is [] i = refl
nth_is (v ∷ vs) zero = refl
nth_is (v ∷ vs) (suc i) = nth_is vs i

-- what was looked up in a slice, copied
pub looked_up : (o : Option (Bor ℤ)) (vs : List ℤ) (i : ℕ) → is_some o ≡ ltb i (length vs) → IfSome o (λ x. x.now ≡ get_or vs i x.now) →
    option_copied o ≡ nth vs i
looked_up None vs i past h = sym (slice_get_past vs i (ltb-false i (length vs) (sym past))) ∙ nth_is vs i
looked_up (Some x) vs i inside h = sym (slice_get_read vs (length vs) i x.now refl (ltb-true i (length vs) (sym inside)) h) ∙ nth_is vs i

-- an element that was read, seen through f, is what the table seen through f has there
pub read_as : {A B : Type 0} (f : A → B) (l : List A) (i : ℕ) (x : A) (z : B) → i < length l → x ≡ get_or l i x → f (get_or l i x) ≡ get_or (map f l) i z
read_as f l i x z h e = ap f (sym e) ∙ sym (at_is f l i x z h e)

-- where an element changes in its place, the table seen through f changes there
pub changes : {A B : Type 0} (f : A → B) (l : List A) (i : ℕ) (x : A) (y z : B) → i < length l → f x ≡ y →
    ◌≡◌ {A = ℕ → B} (λ d. get_or (map f (set l i x)) d z) (with_at (λ d. get_or (map f l) d z) i y)
changes f l i x y z lt e = fun_ext (λ d. at_set f l i x z lt d ∙ ap (λ v. cond (eqb d i) v (get_or (map f l) d z)) e)

-- a copy that was read where it stands
module _ (t : Copies) (l : ℕ) (small : l < 16) (x : LevelCopy) (inside : l < length t.copies) (is : x ≡ get_or t.copies l x) where
  abbrev here : LevelCopy
  here = get_or t.copies l x

  same_copy : copy_in here ≡ copies_of t l
  same_copy = read_as copy_in t.copies l x first inside is

  same_steps : steps_in here ≡ steps_of t l
  same_steps = read_as steps_in t.copies l x 0 inside is

  -- may do what the table says that it may
  pub steps_too : can_step here ≡ may_step t l
  steps_too = ap (λ n. nat_lt n 4294967295) same_steps ∙ sym (ap (λ b. b && nat_lt (steps_of t l) 4294967295) (lt-ltb l 16 small))

  pub goes_too : can_go_on here ≡ may_go_on t l
  goes_too = ap₂ (λ (b : Bool) (c : Copy). b && goes_on c) steps_too same_copy

  pub assigns_too : (i : ℕ) → can_assign here i ≡ may_assign t l i
  assigns_too i = ap₂ (λ (b : Bool) (c : Copy). b && assigns c i) steps_too same_copy

  pub reads_too : (i k : ℕ) → can_read here i k ≡ may_read t l i k
  reads_too i k = ap₂ (λ (b : Bool) (c : Copy). b && reads c i k) steps_too same_copy

  pub computes_too : (i : Instruction) → can_compute here i ≡ may_compute t l i
  computes_too i = ap₂ (λ (b : Bool) (c : Copy). b && computes c i) steps_too same_copy

  -- and its step is the step of the table
  pub stepped : (y : LevelCopy) (f : Copy → Copy) → Moved here y (f (copy_in here)) → Stepped t (record { copies = set t.copies l y }) l (f (copies_of t l))
  stepped y f m = record {
    copies = changes copy_in t.copies l y _ first inside (m.copy ∙ ap f same_copy);
    steps = changes steps_in t.copies l y _ 0 inside (m.steps ∙ ap suc same_steps);
  }
