-- Reading what is written, and writing what is read. Assumes nothing.
use Rattle.std.proofs.Common.{◌≡◌, ℕ, zero, suc, ◌+◌, ◌-◌, ◌*◌, ◌/◌, ◌%◌, ◌^◌, ◌<◌, ◌≤◌, Bool, true, false, cond, not, ◌&&◌, eqb, ltb, leb, List, [], ◌∷◌, ◌++◌, map, length, take, drop, Some, None, Ok, Err, Option, Result, sym, refl, ap, ◌∙◌, subst, ⊎_elim, append_assoc, pow-suc, arith, lit<, lit≤, length-append}
use native.Mathlib.Nat.{one-le-pow}
use Rattle.std.specs.List.{AllByRecursion}
use Rattle.std.proofs.lemmas.Bool.{lt-ltb, le-leb, cond-true, cond-false, cond_both, cases_Bool, not-true, eq-eqb, eqb-true, leb-true, ltb-true, eqb-false, ne_eqb}
use Rattle.std.proofs.lemmas.List.{take_at, drop_at, take-append-drop, length-take-le}
use Rattle.std.proofs.ByRecursion.{All-take, All-drop}
use Rattle.refusal.specs.declared.Fault.{Fault}
use Rattle.format.specs.declared.layout.Site.{Site}
use Rattle.format.specs.declared.layout.Field.{Field}
use Rattle.format.specs.Numbers.{number, odd, bytes_of, Bytes}
use Rattle.format.specs.Encoding.{map_of, body_of, record_of}
use Rattle.format.specs.Rules.{Rule, broken, is_there, value_of, not_zero}
use Rattle.format.specs.Reading.{read_field, and_then, unless, read_fields, read_record}
use Rattle.format.proofs.Steps.{fields_more, all_kept, broken_append}

pub length_bytes_of : (w v : ℕ) → length (bytes_of w v) ≡ w
length_bytes_of zero v = refl
length_bytes_of (suc w) v = ap suc (length_bytes_of w (v / 256))

pub number_bytes_of : (w v : ℕ) → v < 256 ^ w → number (bytes_of w v) ≡ v
number_bytes_of zero v h = omega arith
number_bytes_of (suc w) v h =
    let up : 256 ^ suc w ≡ 256 ^ w * 256 = pow-suc 256 w in
    let small : v / 256 < 256 ^ w = omega arith in
    let e = number_bytes_of w (v / 256) small in
    omega arith

pub bytes_of_number : (bs : List ℕ) → Bytes bs → bytes_of (length bs) (number bs) ≡ bs
bytes_of_number [] h = refl
bytes_of_number (b ∷ bs) h =
    let low : (b + 256 * number bs) % 256 ≡ b = omega (arith, h.0) in
    let high : (b + 256 * number bs) / 256 ≡ number bs = omega (arith, h.0) in
    simp (low, high, bytes_of_number bs h.1)

pub number_small : (bs : List ℕ) → Bytes bs → number bs < 256 ^ length bs
number_small [] h = omega arith
number_small (b ∷ bs) h =
    let up : 256 ^ suc (length bs) ≡ 256 ^ length bs * 256 = pow-suc 256 (length bs) in
    omega (arith, h.0, number_small bs h.1)

odd_even : (m : ℕ) → false ≡ odd (0 + 2 * m)
odd_even m = let e : (0 + 2 * m) % 2 ≡ 0 = omega arith in simp e

odd_odd : (m : ℕ) → true ≡ odd (1 + 2 * m)
odd_odd m = let e : (1 + 2 * m) % 2 ≡ 1 = omega arith in simp e

-- each value fits its width
abbrev pub Fit : List ℕ → List ℕ → Type 0
Fit [] [] = Unit {0}
Fit [] (v ∷ vs) = ⊥
Fit (w ∷ ws) [] = ⊥
Fit (w ∷ ws) (v ∷ vs) = (v < 256 ^ w) × Fit ws vs

-- fields that hold vs, as read from what writes vs
pub record Back (s : Site) (ws vs rest : List ℕ) (m : ℕ) (bs : List ℕ) : Type 0 where
  pub fields : List Field
  pub reads : read_fields s ws m bs ≡ Ok (fields, rest)
  pub holds : map value_of fields ≡ vs
  pub clean : broken (map (not_zero s) fields) ≡ None
  pub shown : AllByRecursion (λ f. not (is_there f) ≡ eqb (value_of f) 0) fields

module _ (s : Site) (w : ℕ) (ws : List ℕ) (v : ℕ) (vs rest : List ℕ) (ih : Back s ws vs rest (map_of vs) (body_of ws vs ++ rest)) where
  -- a field that is 0 is absent
  back_none : v ≡ 0 → Back s (w ∷ ws) (v ∷ vs) rest (0 + 2 * map_of vs) (body_of ws vs ++ rest)
  back_none e =
      let half : (0 + 2 * map_of vs) / 2 ≡ map_of vs = omega arith in
      record {
        fields = record { byte = s.map_at; value = None } ∷ ih.fields;
        reads = fields_more s w ws (0 + 2 * map_of vs) _ false (odd_even (map_of vs)) _ _ ih.fields rest refl (rw half ih.reads);
        holds = cc ih.holds;
        clean = ih.clean;
        shown = (refl, ih.shown);
      }

  -- any other is written
  back_some : (v ≡ 0 → ⊥) → v < 256 ^ w → Back s (w ∷ ws) (v ∷ vs) rest (1 + 2 * map_of vs) ((bytes_of w v ++ body_of ws vs) ++ rest)
  back_some ne h =
      let half : (1 + 2 * map_of vs) / 2 ≡ map_of vs = omega arith in
      let mine = bytes_of w v in
      let after = body_of ws vs ++ rest in
      let long : w ≤ length (mine ++ after) = simp (length-append, length_bytes_of) (omega arith) in
      let front : take w (mine ++ after) ≡ mine = take_at mine after w (length_bytes_of w v) in
      let end : drop w (mine ++ after) ≡ after = drop_at mine after w (length_bytes_of w v) in
      let test = ne_eqb v 0 ne in
      rw append_assoc (record {
        fields = record { byte = s.length - length (mine ++ after); value = Some v } ∷ ih.fields;
        reads = fields_more s w ws (1 + 2 * map_of vs) (mine ++ after) true (odd_odd (map_of vs)) _ after ih.fields rest
            (cond-true _ _ _ (le-leb w _ long) ∙ simp (front, end, number_bytes_of w v h)) (rw half ih.reads);
        holds = cc ih.holds;
        clean = simp test ih.clean;
        shown = (sym test, ih.shown);
      })

pub back : (s : Site) (ws vs rest : List ℕ) → Fit ws vs → Back s ws vs rest (map_of vs) (body_of ws vs ++ rest)
back s [] [] rest h = record { fields = []; reads = refl; holds = refl; clean = refl; shown = tt }
back s [] (v ∷ vs) rest h = absurd h
back s (w ∷ ws) [] rest h = absurd h
back s (w ∷ ws) (v ∷ vs) rest h =
    let ih = back s ws vs rest h.1 in
    let here : (eqb v 0 ≡ true) → Back s (w ∷ ws) (v ∷ vs) rest (map_of (v ∷ vs)) (body_of (w ∷ ws) (v ∷ vs) ++ rest) = λ e. simp e (back_none s w ws v vs rest ih (eqb-true v 0 e)) in
    let there : (eqb v 0 ≡ false) → Back s (w ∷ ws) (v ∷ vs) rest (map_of (v ∷ vs)) (body_of (w ∷ ws) (v ∷ vs) ++ rest) = λ e. simp e (back_some s w ws v vs rest ih (eqb-false v 0 e) h.0) in
    ⊎_elim here there (cases_Bool (eqb v 0))

-- an answer that came through both steps
pub and_then_ok : {X Y E : Type 0} (r : Result X E) (k : X → Result Y E) (y : Y) → and_then r k ≡ Ok y → (x : X) × (r ≡ Ok x) × (k x ≡ Ok y)
and_then_ok (Ok x) k y e = (x, refl, e)
and_then_ok (Err g) k y e = let z : ◌≡◌ {A = ℕ} 0 1 = cc in absurd (omega arith)

-- the two parts of an answer
pub parts : {X Y E : Type 0} (x x' : X) (y y' : Y) → ◌≡◌ {A = Result (X × Y) E} (Ok (x, y)) (Ok (x', y')) → (x ≡ x') × (y ≡ y')
parts {X} {Y} x x' y y' e = let d : ◌≡◌ {A = X × Y} (x, y) (x', y') = cc in (ap (λ (p : X × Y). p.0) d, ap (λ (p : X × Y). p.1) d)

abbrev pub absent : Site → Field
absent s = record { byte = s.map_at; value = None }

abbrev pub present : Site → ℕ → List ℕ → Field
present s w bs = record { byte = s.length - length bs; value = Some (number (take w bs)) }

pub field_absent : (s : Site) (w : ℕ) (bs : List ℕ) (f : Field) (r : List ℕ) → read_field s w false bs ≡ Ok (f, r) → (absent s ≡ f) × (bs ≡ r)
field_absent s w bs f r e = parts _ _ _ _ e

pub field_present : (s : Site) (w : ℕ) (bs : List ℕ) (f : Field) (r : List ℕ) → read_field s w true bs ≡ Ok (f, r) → (w ≤ length bs) × ((present s w bs ≡ f) × (drop w bs ≡ r))
field_present s w bs f r e =
    let fits : (leb w (length bs) ≡ true) → (w ≤ length bs) × ((present s w bs ≡ f) × (drop w bs ≡ r)) = λ t. (leb-true w (length bs) t, parts _ _ _ _ (sym (cond-true _ _ _ t) ∙ e)) in
    let short : (leb w (length bs) ≡ false) → (w ≤ length bs) × ((present s w bs ≡ f) × (drop w bs ≡ r)) = λ t. let d = sym (cond-false _ _ _ t) ∙ e in let z : ◌≡◌ {A = ℕ} 0 1 = cc in absurd (omega arith) in
    ⊎_elim fits short (cases_Bool (leb w (length bs)))

field_bytes : (s : Site) (w : ℕ) (b : Bool) (bs : List ℕ) (f : Field) (r : List ℕ) → Bytes bs → read_field s w b bs ≡ Ok (f, r) → Bytes r
field_bytes s w false bs f r h e = subst Bytes (field_absent s w bs f r e).1 h
field_bytes s w true bs f r h e = subst Bytes (field_present s w bs f r e).1.1 (All-drop (λ b. b < 256) w bs h)

-- the record that is read is the one that would be written
pub record Forth (ws : List ℕ) (m : ℕ) (bs : List ℕ) (fs : List Field) (rest : List ℕ) : Type 0 where
  pub map_is : map_of (map value_of fs) ≡ m
  pub body_is : body_of ws (map value_of fs) ++ rest ≡ bs
  pub fit : Fit ws (map value_of fs)

module _ (s : Site) (w : ℕ) (ws : List ℕ) (m : ℕ) (bs : List ℕ) (f : Field) (r : List ℕ) (fs : List Field) (rest : List ℕ) (h : Bytes bs) (fine : (not_zero s f).kept ≡ true) where
  forth_none : odd m ≡ false → read_field s w (odd m) bs ≡ Ok (f, r) → Forth ws (m / 2) r fs rest → Forth (w ∷ ws) m bs (f ∷ fs) rest
  forth_none o e ih =
      let is = field_absent s w bs f r (subst (λ b. read_field s w b bs ≡ Ok (f, r)) o e) in
      let value : 0 ≡ value_of f = ap value_of is.0 in
      let test : eqb (value_of f) 0 ≡ true = eq-eqb (value_of f) 0 (sym value) in
      let ne : (m % 2 ≡ 1) → ⊥ = eqb-false (m % 2) 1 o in
      let even : m % 2 ≡ 0 = omega arith in
      let more : 0 < 256 ^ w = one-le-pow w 256 (lit< tt) in
      record {
        map_is = simp test (omega (arith, ih.map_is));
        body_is = simp test (ih.body_is ∙ sym is.1);
        fit = (omega arith, ih.fit);
      }

  forth_some : odd m ≡ true → read_field s w (odd m) bs ≡ Ok (f, r) → Forth ws (m / 2) r fs rest → Forth (w ∷ ws) m bs (f ∷ fs) rest
  forth_some o e ih =
      let is = field_present s w bs f r (subst (λ b. read_field s w b bs ≡ Ok (f, r)) o e) in
      let value : number (take w bs) ≡ value_of f = ap value_of is.1.0 in
      let there : true ≡ is_there f = ap is_there is.1.0 in
      let test : eqb (value_of f) 0 ≡ false = subst (λ b. (b && eqb (value_of f) 0) ≡ false) (sym there) (not-true _ fine) in
      let mine = All-take (λ b. b < 256) w bs h in
      let long = length-take-le w bs is.0 in
      let front : bytes_of w (value_of f) ≡ take w bs = ap (bytes_of w) (sym value) ∙ subst (λ k. bytes_of k (number (take w bs)) ≡ take w bs) long (bytes_of_number (take w bs) mine) in
      let small : number (take w bs) < 256 ^ w = subst (λ k. number (take w bs) < 256 ^ k) long (number_small (take w bs) mine) in
      record {
        map_is = simp test (omega (arith, ih.map_is, eqb-true (m % 2) 1 o));
        body_is = simp (test, front) (append_assoc (take w bs) (body_of ws (map value_of fs)) rest ∙ ap (λ l. take w bs ++ l) (ih.body_is ∙ sym is.1.1) ∙ take-append-drop w bs);
        fit = (subst (λ k. k < 256 ^ w) value small, ih.fit);
      }

pub forth : (s : Site) (ws : List ℕ) (m : ℕ) (bs : List ℕ) (fs : List Field) (rest : List ℕ) → m < 2 ^ length ws → Bytes bs → read_fields s ws m bs ≡ Ok (fs, rest) → broken (map (not_zero s) fs) ≡ None → Forth ws m bs fs rest
forth s [] m bs fs rest lt h e ok =
    let is = parts _ _ _ _ e in
    subst (λ l. Forth [] m bs l rest) is.0 (record { map_is = omega arith; body_is = sym is.1; fit = tt })
forth s (w ∷ ws) m bs fs rest lt h e ok =
    let one = and_then_ok (read_field s w (odd m) bs) _ _ e in
    let x = one.0 in
    let two = and_then_ok (read_fields s ws (m / 2) x.1) _ _ one.2 in
    let y = two.0 in
    let is = parts _ _ _ _ two.2 in
    let rules : broken (map (not_zero s) (x.0 ∷ y.0)) ≡ None = subst (λ l. broken (map (not_zero s) l) ≡ None) (sym is.0) ok in
    let fine = all_kept (not_zero s x.0) (map (not_zero s) y.0) rules in
    let up : 2 ^ suc (length ws) ≡ 2 ^ length ws * 2 = pow-suc 2 (length ws) in
    let ih = forth s ws (m / 2) x.1 y.0 y.1 (omega arith) (field_bytes s w (odd m) bs x.0 x.1 h one.1) two.1 fine.1 in
    let here : Forth (w ∷ ws) m bs (x.0 ∷ y.0) y.1 =
    ⊎_elim (λ t. forth_some s w ws m bs x.0 x.1 y.0 y.1 h fine.0 t one.1 ih) (λ t. forth_none s w ws m bs x.0 x.1 y.0 y.1 h fine.0 t one.1 ih) (cases_Bool (odd m)) in
    subst (λ l. Forth (w ∷ ws) m bs l rest) is.0 (subst (λ l. Forth (w ∷ ws) m bs (x.0 ∷ y.0) l) is.1 here)

pub broken_split : (rs qs : List Rule) → broken (rs ++ qs) ≡ None → (broken rs ≡ None) × (broken qs ≡ None)
broken_split [] qs e = (refl, e)
broken_split (r ∷ rs) qs e =
    let k = all_kept r (rs ++ qs) e in
    let l = broken_split rs qs k.1 in
    (cond-true _ _ _ k.0 ∙ l.0, l.1)

pub unless_ok : {X : Type 0} (o : Option Fault) (x y : X) → unless o x ≡ Ok y → (o ≡ None) × (x ≡ y)
unless_ok None x y e = (refl, cc)
unless_ok (Some f) x y e = let z : ◌≡◌ {A = ℕ} 0 1 = cc in absurd (omega arith)

-- the map has no bit past the fields
pub map_small : (ws vs : List ℕ) → Fit ws vs → map_of vs < 2 ^ length ws
map_small [] [] h = lit< tt
map_small [] (v ∷ vs) h = absurd h
map_small (w ∷ ws) [] h = absurd h
map_small (w ∷ ws) (v ∷ vs) h =
    let ih = map_small ws vs h.1 in
    let up : 2 ^ suc (length ws) ≡ 2 ^ length ws * 2 = pow-suc 2 (length ws) in
    let bit : cond (eqb v 0) 0 1 ≤ 1 = cond_both (eqb v 0) 0 1 (λ x. x ≤ 1) (λ _. lit≤ tt) (λ _. lit≤ tt) in
    omega arith

module _ {X : Type 0} (ws : List ℕ) (rules : Site → List Field → List Rule) (make : List Field → X) (s : Site) where
  -- what is written is read, up to the record's own rules
  pub read_record_lem : (vs rest : List ℕ) → Fit ws vs → (fs : List Field) × (map value_of fs ≡ vs) × (read_record ws rules make s (record_of ws vs ++ rest) ≡ unless (broken (rules s fs)) (make fs, rest)) × AllByRecursion (λ f. not (is_there f) ≡ eqb (value_of f) 0) fs
  read_record_lem vs rest h =
      let b = back s ws vs rest h in (
        b.fields,
        b.holds,
        cond-true _ _ _ (lt-ltb _ _ (map_small ws vs h))
            ∙ ap (λ x. and_then x (λ x. unless (broken (map (not_zero s) x.0 ++ rules s x.0)) (make x.0, x.1))) b.reads
            ∙ ap (λ o. unless o (make b.fields, rest)) (broken_append (map (not_zero s) b.fields) (rules s b.fields) b.clean),
        b.shown,
      )

  -- what is read is what would be written
  pub write_record : (bs rest : List ℕ) (x : X) → Bytes bs → read_record ws rules make s bs ≡ Ok (x, rest) → (fs : List Field) × (record_of ws (map value_of fs) ++ rest ≡ bs) × Fit ws (map value_of fs) × (broken (rules s fs) ≡ None) × (make fs ≡ x)
  write_record [] rest x h e = let z : ◌≡◌ {A = ℕ} 0 1 = cc in absurd (omega arith)
  write_record (m ∷ bs) rest x h e =
      let wide : (ltb m (2 ^ length ws) ≡ true) → (fs : List Field) × (record_of ws (map value_of fs) ++ rest ≡ m ∷ bs) × Fit ws (map value_of fs) × (broken (rules s fs) ≡ None) × (make fs ≡ x) =
      λ t.
      let one = and_then_ok (read_fields s ws m bs) _ _ (sym (cond-true _ _ _ t) ∙ e) in
      let y = one.0 in
      let two = unless_ok _ _ _ one.2 in
      let three = broken_split (map (not_zero s) y.0) (rules s y.0) two.0 in
      let f = forth s ws m bs y.0 y.1 (ltb-true _ _ t) h.1 one.1 three.0 in
      let end : y.1 ≡ rest = ap (λ (p : X × List ℕ). p.1) two.1 in
      (y.0, subst (λ l. record_of ws (map value_of y.0) ++ l ≡ m ∷ bs) end (simp (f.map_is, f.body_is)), f.fit, three.1, ap (λ (p : X × List ℕ). p.0) two.1) in
      let narrow : (ltb m (2 ^ length ws) ≡ false) → (fs : List Field) × (record_of ws (map value_of fs) ++ rest ≡ m ∷ bs) × Fit ws (map value_of fs) × (broken (rules s fs) ≡ None) × (make fs ≡ x) =
      λ t. let d = sym (cond-false _ _ _ t) ∙ e in let z : ◌≡◌ {A = ℕ} 0 1 = cc in absurd (omega arith) in
      ⊎_elim wide narrow (cases_Bool (ltb m (2 ^ length ws)))
