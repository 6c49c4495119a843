-- One step of a record's reading after another. Assumes nothing.
use Rattle.std.proofs.Common.{◌≡◌, ℕ, zero, suc, ◌/◌, ◌^◌, Bool, true, false, List, [], ◌∷◌, ◌++◌, Some, None, Ok, Err, Option, Result, sym, refl, ap, ◌∙◌, ⊎_elim, mul_comm, pow-suc, div-one, arith}
use native.Mathlib.Nat.{div-div-eq-div-mul}
use Rattle.std.proofs.lemmas.Bool.{cond-true, cond-false, cases_Bool}
use Rattle.refusal.specs.declared.Fault.{Fault}
use Rattle.format.specs.declared.layout.Site.{Site}
use Rattle.format.specs.declared.layout.Field.{Field}
use Rattle.format.specs.Numbers.{odd, bit}
use Rattle.format.specs.Rules.{Rule, broken}
use Rattle.format.specs.Reading.{read_field, unless, read_fields}

module _ (s : Site) (w : ℕ) (ws : List ℕ) (m : ℕ) (bs : List ℕ) (b : Bool) (is : b ≡ odd m) where
  pub fields_more : (f : Field) (r : List ℕ) (fs : List Field) (e : List ℕ) → read_field s w b bs ≡ Ok (f, r) → read_fields s ws (m / 2) r ≡ Ok (fs, e) → read_fields s (w ∷ ws) m bs ≡ Ok (f ∷ fs, e)
  fields_more f r fs e p q = simp (sym is, p, q)

pub refused : {X : Type 0} (r : Result X Fault) (o : Option Fault) (x : X) (f : Fault) → r ≡ unless o x → o ≡ Some f → r ≡ Err f
refused r o x f e d = e ∙ ap (λ o. unless o x) d

pub passed : {X : Type 0} (r : Result X Fault) (o : Option Fault) (x y : X) → r ≡ unless o x → o ≡ None → x ≡ y → r ≡ Ok y
passed r o x y e d same = e ∙ ap (λ o. unless o x) d ∙ ap Ok same

-- one list of rules after another
pub broken_stops : (rs qs : List Rule) (f : Fault) → broken rs ≡ Some f → broken (rs ++ qs) ≡ Some f
broken_stops [] qs f e = let z : ◌≡◌ {A = ℕ} 0 1 = cc in absurd (omega arith)
broken_stops (r ∷ rs) qs f e =
    ⊎_elim
    (λ t. cond-true _ _ _ t ∙ broken_stops rs qs f (sym (cond-true _ _ _ t) ∙ e))
    (λ t. cond-false _ _ _ t ∙ (sym (cond-false _ _ _ t) ∙ e))
    (cases_Bool r.kept)

pub all_kept : (r : Rule) (rs : List Rule) → broken (r ∷ rs) ≡ None → (r.kept ≡ true) × (broken rs ≡ None)
all_kept r rs e =
    let on : (r.kept ≡ true) → (r.kept ≡ true) × (broken rs ≡ None) = λ t. (t, sym (cond-true _ _ _ t) ∙ e) in
    let off : (r.kept ≡ false) → (r.kept ≡ true) × (broken rs ≡ None) = λ t. let d = sym (cond-false _ _ _ t) ∙ e in let z : ◌≡◌ {A = ℕ} 0 1 = cc in absurd (omega arith) in
    ⊎_elim on off (cases_Bool r.kept)

pub broken_append : (rs qs : List Rule) → broken rs ≡ None → broken (rs ++ qs) ≡ broken qs
broken_append [] qs e = refl
broken_append (r ∷ rs) qs e = let k = all_kept r rs e in cond-true _ _ _ k.0 ∙ broken_append rs qs k.1

pub bit_is : (k m : ℕ) → odd (m / 2 ^ k) ≡ bit k m
bit_is zero m = ap odd (div-one m)
bit_is (suc k) m = ap odd (ap (λ x. m / x) (pow-suc 2 k ∙ mul_comm _ _) ∙ sym (div-div-eq-div-mul m 2 (2 ^ k))) ∙ bit_is k (m / 2)
