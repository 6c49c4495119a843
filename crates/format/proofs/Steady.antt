-- What a reader of a front answers depends on the bytes that it reads, and its faults lie there. Assumes nothing.
use Rattle.std.proofs.Common.{◌≡◌, ℕ, zero, suc, ◌+◌, ◌-◌, ◌*◌, ◌/◌, ◌^◌, ◌<◌, ◌≤◌, Bool, true, false, cond, ◌&&◌, ltb, leb, ◌⊎◌, List, [], ◌∷◌, ◌++◌, map, length, take, drop, Some, None, Ok, Err, Option, Result, sym, refl, ap, ◌∙◌, subst, inl, inr, ⊎_elim, arith, length-append, length-drop}
use Rattle.std.specs.List.{AllByRecursion}
use Rattle.std.proofs.lemmas.Bool.{le-leb, leb-false, cond-true, cond-false, cases_Bool}
use Rattle.std.proofs.lemmas.List.{take-append-le, drop-append-le}
use Rattle.refusal.specs.declared.Refusal.{Refusal}
use Rattle.refusal.specs.declared.Refusal.TheVariants as why
use Rattle.refusal.specs.declared.Part.{Part}
use Rattle.refusal.specs.declared.Part.TheVariants as part
use Rattle.refusal.specs.declared.Fault.{Fault}
use Rattle.script.specs.declared.parts.Channel.{Channel}
use Rattle.format.specs.declared.layout.Site.{Site}
use Rattle.format.specs.declared.layout.Field.{Field}
use Rattle.format.specs.Numbers.{number, odd}
use Rattle.format.specs.Encoding.{channel_widths, instruction_widths}
use Rattle.format.specs.Rules.{Rule, broken, fault, not_zero, channel_rules, instruction_rules}
use Rattle.format.specs.Laws.{announced, record_size}
use Rattle.format.specs.Reading.{and_then, unless, short_at, read_field, read_fields, read_body, read_record, site_at, channel_of, read_channel, instruction_of, read_instruction, read_many, read_head, read_count}
use Rattle.format.proofs.Round.{and_then_ok, parts, unless_ok, field_absent, field_present}
use Rattle.format.proofs.Fronts.{step, stop, and_then_err, head_ok}

-- a fault of a reader that begins at low: 1 at the file's end, and any other before it
pub record Told (low end : ℕ) (f : Fault) : Type 0 where
  pub after : low ≤ f.byte
  pub at_end : f.refusal ≡ why.Short → f.byte ≡ end
  pub before : (f.refusal ≡ why.Short → ⊥) → f.byte < end
  pub no_tail : f.refusal ≡ why.Tail → ⊥

pub record Steady {X : Type 0} (p : ℕ → List ℕ → Result (X × List ℕ) Fault) : Type 0 where
  pub left : (end : ℕ) (bs : List ℕ) (x : X) (r : List ℕ) → p end bs ≡ Ok (x, r) → length r ≤ length bs
  pub ok_more : (end : ℕ) (bs more : List ℕ) (x : X) (r : List ℕ) → p end bs ≡ Ok (x, r) → p (end + length more) (bs ++ more) ≡ Ok (x, r ++ more)
  pub err_more : (end : ℕ) (bs more : List ℕ) (f : Fault) → p end bs ≡ Err f → (f.refusal ≡ why.Short → ⊥) → p (end + length more) (bs ++ more) ≡ Err f
  pub told : (end : ℕ) (bs : List ℕ) (f : Fault) → length bs ≤ end → p end bs ≡ Err f → Told (end - length bs) end f

-- a later reader's fault is one of the whole
told_later : (low low' end : ℕ) (f : Fault) → low ≤ low' → Told low' end f → Told low end f
told_later low low' end f le t = record { after = omega (arith, t.after); at_end = t.at_end; before = t.before; no_tail = t.no_tail }

-- nothing is read
pub steady_none : {X : Type 0} (x : X) → Steady (λ end bs. Ok (x, bs))
steady_none x = record {
  left = λ end bs y r e. let q = parts _ _ _ _ e in omega (arith, ap length q.1);
  ok_more = λ end bs more y r e. let q = parts _ _ _ _ e in ap (λ z. Ok (z, bs ++ more)) q.0 ∙ ap (λ l. Ok (y, l ++ more)) q.1;
  err_more = λ end bs more f e _. let z : ◌≡◌ {A = ℕ} 0 1 = cc in absurd (omega arith);
  told = λ end bs f _ e. let z : ◌≡◌ {A = ℕ} 0 1 = cc in absurd (omega arith);
}

-- one reader after another
pub steady_then : {X Y : Type 0} (p : ℕ → List ℕ → Result (X × List ℕ) Fault) (q : X → ℕ → List ℕ → Result (Y × List ℕ) Fault) → Steady p → ((x : X) → Steady (q x)) → Steady (λ end bs. and_then (p end bs) (λ y. q y.0 end y.1))
steady_then {X} {Y} p q sp sq = record {
  left = λ end bs y r e.
      let a = and_then_ok (p end bs) (λ y. q y.0 end y.1) (y, r) e in
      omega (arith, sp.left end bs a.0.0 a.0.1 a.1, (sq a.0.0).left end a.0.1 y r a.2);
  ok_more = λ end bs more y r e.
      let a = and_then_ok (p end bs) (λ y. q y.0 end y.1) (y, r) e in
      step _ _ (λ y. q y.0 (end + length more) y.1) (sp.ok_more end bs more a.0.0 a.0.1 a.1) ∙ (sq a.0.0).ok_more end a.0.1 more y r a.2;
  err_more = λ end bs more f e ns.
      ⊎_elim
      (λ g. stop _ f (λ y. q y.0 (end + length more) y.1) (sp.err_more end bs more f g ns))
      (λ g. step _ _ (λ y. q y.0 (end + length more) y.1) (sp.ok_more end bs more g.0.0 g.0.1 g.1) ∙ (sq g.0.0).err_more end g.0.1 more f g.2 ns)
      (and_then_err (p end bs) (λ y. q y.0 end y.1) f e);
  told = λ end bs f le e.
      ⊎_elim
      (λ g. sp.told end bs f le g)
      (λ g.
      let short : length g.0.1 ≤ length bs = sp.left end bs g.0.0 g.0.1 g.1 in
      told_later (end - length bs) (end - length g.0.1) end f (omega arith) ((sq g.0.0).told end g.0.1 f (omega arith) g.2))
      (and_then_err (p end bs) (λ y. q y.0 end y.1) f e);
}

-- records one after another
pub steady_many : {X : Type 0} (one : ℕ → ℕ → List ℕ → Result (X × List ℕ) Fault) → ((i : ℕ) → Steady (λ end bs. one end i bs)) → (k i : ℕ) → Steady (λ end bs. read_many (one end) k i bs)
steady_many one each zero i = steady_none []
steady_many one each (suc k) i =
    steady_then (λ end bs. one end i bs) (λ x end bs. and_then (read_many (one end) k (i + 1) bs) (λ y. Ok (x ∷ y.0, y.1))) (each i)
    (λ x. steady_then (λ end bs. read_many (one end) k (i + 1) bs) (λ ys end bs. Ok (x ∷ ys, bs)) (steady_many one each k (i + 1)) (λ ys. steady_none (x ∷ ys)))

-- the site of the same record in a longer file
abbrev grown : ℕ → Site → Site
grown k s = record { length = s.length + k; part = s.part; map_at = s.map_at }

field_more : (s : Site) (w : ℕ) (b : Bool) (bs more : List ℕ) (f : Field) (r : List ℕ) → read_field s w b bs ≡ Ok (f, r) → read_field (grown (length more) s) w b (bs ++ more) ≡ Ok (f, r ++ more)
field_more s w false bs more f r e = let q = field_absent s w bs f r e in ap (λ g. Ok (g, bs ++ more)) q.0 ∙ ap (λ l. Ok (f, l ++ more)) q.1
field_more s w true bs more f r e =
    let q = field_present s w bs f r e in
    let long : w ≤ length (bs ++ more) = simp length-append (omega (arith, q.0)) in
    let place : s.length + length more - length (bs ++ more) ≡ s.length - length bs = simp length-append (omega arith) in
    let front : take w (bs ++ more) ≡ take w bs = take-append-le w bs more q.0 in
    let back : drop w (bs ++ more) ≡ drop w bs ++ more = drop-append-le w bs more q.0 in
    cond-true _ _ _ (le-leb w (length (bs ++ more)) long)
    ∙ ap (λ k. Ok (record { byte = k; value = Some (number (take w (bs ++ more))) }, drop w (bs ++ more))) place
    ∙ ap (λ l. Ok (record { byte = s.length - length bs; value = Some (number l) }, drop w (bs ++ more))) front
    ∙ ap (λ l. Ok (record { byte = s.length - length bs; value = Some (number (take w bs)) }, l)) back
    ∙ ap (λ g. Ok (g, drop w bs ++ more)) q.1.0
    ∙ ap (λ l. Ok (f, l ++ more)) q.1.1

fields_more : (s : Site) (ws : List ℕ) (m : ℕ) (bs more : List ℕ) (fs : List Field) (r : List ℕ) → read_fields s ws m bs ≡ Ok (fs, r) → read_fields (grown (length more) s) ws m (bs ++ more) ≡ Ok (fs, r ++ more)
fields_more s [] m bs more fs r e = let q = parts _ _ _ _ e in ap (λ l. Ok (l, bs ++ more)) q.0 ∙ ap (λ l. Ok (fs, l ++ more)) q.1
fields_more s (w ∷ ws) m bs more fs r e =
    let a = and_then_ok (read_field s w (odd m) bs) (λ x. and_then (read_fields s ws (m / 2) x.1) (λ y. Ok (x.0 ∷ y.0, y.1))) (fs, r) e in
    let b = and_then_ok (read_fields s ws (m / 2) a.0.1) (λ y. Ok (a.0.0 ∷ y.0, y.1)) (fs, r) a.2 in
    let q = parts _ _ _ _ b.2 in
    step _ _ (λ x. and_then (read_fields (grown (length more) s) ws (m / 2) x.1) (λ y. Ok (x.0 ∷ y.0, y.1))) (field_more s w (odd m) bs more a.0.0 a.0.1 a.1)
    ∙ step _ _ (λ y. Ok (a.0.0 ∷ y.0, y.1)) (fields_more s ws (m / 2) a.0.1 more b.0.0 b.0.1 b.1)
    ∙ ap (λ l. Ok (l, b.0.1 ++ more)) q.0
    ∙ ap (λ l. Ok (fs, l ++ more)) q.1

-- where the bytes that a record's faults tell may stand: from low to below high, and before the file's end
abbrev Placed : ℕ → ℕ → ℕ → ℕ → Type 0
Placed low high end b = (low ≤ b) × (b < high) × (b < end)

-- a field of at least one byte is read, or the file ends in it
field_placed : (s : Site) (w : ℕ) (b : Bool) (bs : List ℕ) (f : Field) (r : List ℕ) (low high : ℕ) → 1 ≤ w → length bs ≤ s.length → low ≤ s.length - length bs → s.length - length bs + cond b w 0 ≤ high → Placed low high s.length s.map_at → read_field s w b bs ≡ Ok (f, r) → Placed low high s.length f.byte × (length r ≤ length bs) × (s.length - length r ≤ s.length - length bs + cond b w 0)
field_placed s w false bs f r low high one le l h p e =
    let q = field_absent s w bs f r e in
    (subst (λ (g : Field). Placed low high s.length g.byte) q.0 p, omega (arith, ap length q.1), omega (arith, ap length q.1))
field_placed s w true bs f r low high one le l h p e =
    let q = field_present s w bs f r e in
    let size : length r ≡ length bs - w = ap length (sym q.1.1) ∙ length-drop w bs in
    let long = q.0 in
    let here : Placed low high s.length (s.length - length bs) = (l, omega arith, omega arith) in
    (subst (λ (g : Field). Placed low high s.length g.byte) q.1.0 here, omega arith, omega arith)

field_short : (s : Site) (w : ℕ) (b : Bool) (bs : List ℕ) (g : Fault) → read_field s w b bs ≡ Err g → (short_at s ≡ g) × (length bs < cond b w 0)
field_short s w false bs g e = let z : ◌≡◌ {A = ℕ} 0 1 = cc in absurd (omega arith)
field_short s w true bs g e =
    ⊎_elim
    (λ t. let d = sym (cond-true _ _ _ t) ∙ e in let z : ◌≡◌ {A = ℕ} 0 1 = cc in absurd (omega arith))
    (λ t. let d = sym (cond-false _ _ _ t) ∙ e in let told : short_at s ≡ g = cc in (told, leb-false w (length bs) t))
    (cases_Bool (leb w (length bs)))

-- the widths of a record are at least 1
abbrev pub Wide : List ℕ → Type 0
Wide = AllByRecursion (λ w. 1 ≤ w)

fields_placed : (s : Site) (ws : List ℕ) (m : ℕ) (bs : List ℕ) (fs : List Field) (r : List ℕ) (low high : ℕ) → Wide ws → length bs ≤ s.length → low ≤ s.length - length bs → s.length - length bs + announced ws m ≤ high → Placed low high s.length s.map_at → read_fields s ws m bs ≡ Ok (fs, r) → AllByRecursion (λ f. Placed low high s.length f.byte) fs × (length fs ≡ length ws) × (length r ≤ length bs)
fields_placed s [] m bs fs r low high wide le l h p e =
    let q = parts _ _ _ _ e in
    (subst (AllByRecursion (λ f. Placed low high s.length f.byte)) q.0 tt, ap length (sym q.0), omega (arith, ap length q.1))
fields_placed s (w ∷ ws) m bs fs r low high wide le l h p e =
    let a = and_then_ok (read_field s w (odd m) bs) (λ x. and_then (read_fields s ws (m / 2) x.1) (λ y. Ok (x.0 ∷ y.0, y.1))) (fs, r) e in
    let b = and_then_ok (read_fields s ws (m / 2) a.0.1) (λ y. Ok (a.0.0 ∷ y.0, y.1)) (fs, r) a.2 in
    let q = parts _ _ _ _ b.2 in
    let one = field_placed s w (odd m) bs a.0.0 a.0.1 low high wide.0 le l (omega arith) p a.1 in
    let short = one.1 in
    let near = one.2 in
    let more = fields_placed s ws (m / 2) a.0.1 b.0.0 b.0.1 low high wide.1 (omega arith) (omega arith) (omega arith) p b.1 in
    (subst (AllByRecursion (λ f. Placed low high s.length f.byte)) q.0 (one.0, more.0), ap length (sym q.0) ∙ ap suc more.1, omega (arith, more.2, ap length q.1))

fields_short : (s : Site) (ws : List ℕ) (m : ℕ) (bs : List ℕ) (g : Fault) (high : ℕ) → Wide ws → length bs ≤ s.length → s.length - length bs + announced ws m ≤ high → Placed 0 high s.length s.map_at → read_fields s ws m bs ≡ Err g → (short_at s ≡ g) × (s.length < high)
fields_short s [] m bs g high wide le h p e = let z : ◌≡◌ {A = ℕ} 0 1 = cc in absurd (omega arith)
fields_short s (w ∷ ws) m bs g high wide le h p e =
    ⊎_elim
    (λ u. let d = field_short s w (odd m) bs g u in (d.0, omega (arith, d.1)))
    (λ u.
    let one = field_placed s w (odd m) bs u.0.0 u.0.1 0 high wide.0 le (omega arith) (omega arith) p u.1 in
    let short = one.1 in
    let near = one.2 in
    let v : read_fields s ws (m / 2) u.0.1 ≡ Err g =
    ⊎_elim (λ x. x) (λ x. let y = x.2 in let z : ◌≡◌ {A = ℕ} 0 1 = cc in absurd (omega arith)) (and_then_err (read_fields s ws (m / 2) u.0.1) (λ y. Ok (u.0.0 ∷ y.0, y.1)) g u.2) in
    fields_short s ws (m / 2) u.0.1 g high wide.1 (omega arith) (omega arith) p v)
    (and_then_err (read_field s w (odd m) bs) (λ x. and_then (read_fields s ws (m / 2) x.1) (λ y. Ok (x.0 ∷ y.0, y.1))) g e)

fields_err : (s : Site) (ws : List ℕ) (m : ℕ) (bs : List ℕ) (g : Fault) → read_fields s ws m bs ≡ Err g → g.refusal ≡ why.Short
fields_err s [] m bs g e = let z : ◌≡◌ {A = ℕ} 0 1 = cc in absurd (omega arith)
fields_err s (w ∷ ws) m bs g e =
    ⊎_elim
    (λ u. sym (ap (λ (f : Fault). f.refusal) (field_short s w (odd m) bs g u).0))
    (λ u.
    let v : read_fields s ws (m / 2) u.0.1 ≡ Err g =
    ⊎_elim (λ x. x) (λ x. let y = x.2 in let z : ◌≡◌ {A = ℕ} 0 1 = cc in absurd (omega arith)) (and_then_err (read_fields s ws (m / 2) u.0.1) (λ y. Ok (u.0.0 ∷ y.0, y.1)) g u.2) in
    fields_err s ws (m / 2) u.0.1 g v)
    (and_then_err (read_field s w (odd m) bs) (λ x. and_then (read_fields s ws (m / 2) x.1) (λ y. Ok (x.0 ∷ y.0, y.1))) g e)

field_left : (s : Site) (w : ℕ) (b : Bool) (bs : List ℕ) (f : Field) (r : List ℕ) → read_field s w b bs ≡ Ok (f, r) → length r ≤ length bs
field_left s w false bs f r e = omega (arith, ap length (field_absent s w bs f r e).1)
field_left s w true bs f r e = let size : length (drop w bs) ≡ length bs - w = length-drop w bs in omega (arith, ap length (field_present s w bs f r e).1.1)

fields_left : (s : Site) (ws : List ℕ) (m : ℕ) (bs : List ℕ) (fs : List Field) (r : List ℕ) → read_fields s ws m bs ≡ Ok (fs, r) → length r ≤ length bs
fields_left s [] m bs fs r e = omega (arith, ap length (parts _ _ _ _ e).1)
fields_left s (w ∷ ws) m bs fs r e =
    let a = and_then_ok (read_field s w (odd m) bs) (λ x. and_then (read_fields s ws (m / 2) x.1) (λ y. Ok (x.0 ∷ y.0, y.1))) (fs, r) e in
    let b = and_then_ok (read_fields s ws (m / 2) a.0.1) (λ y. Ok (a.0.0 ∷ y.0, y.1)) (fs, r) a.2 in
    omega (arith, field_left s w (odd m) bs a.0.0 a.0.1 a.1, fields_left s ws (m / 2) a.0.1 b.0.0 b.0.1 b.1, ap length (parts _ _ _ _ b.2).1)

-- the first broken rule is one of them
broken_one : (Q : Fault → Type 0) (rs : List Rule) (f : Fault) → AllByRecursion (λ r. Q r.else) rs → broken rs ≡ Some f → Q f
broken_one Q [] f h e = let z : ◌≡◌ {A = ℕ} 0 1 = cc in absurd (omega arith)
broken_one Q (r ∷ rs) f h e =
    ⊎_elim
    (λ t. broken_one Q rs f h.1 (sym (cond-true _ _ _ t) ∙ e))
    (λ t. let d = sym (cond-false _ _ _ t) ∙ e in let same : r.else ≡ f = cc in subst Q same h.0)
    (cases_Bool r.kept)

unless_err : {X : Type 0} (o : Option Fault) (x : X) (f : Fault) → unless o x ≡ Err f → o ≡ Some f
unless_err None x f e = let z : ◌≡◌ {A = ℕ} 0 1 = cc in absurd (omega arith)
unless_err (Some g) x f e = cc

-- a fault that is neither 1 nor 6
abbrev pub Middle : Refusal → Type 0
Middle r = (r ≡ why.Map) ⊎ ((r ≡ why.Zero) ⊎ (r ≡ why.Range))

-- the rules of a record speak of its site and its fields alone
pub record Local (ws : List ℕ) (rules : Site → List Field → List Rule) : Type 1 where
  pub wide : Wide ws
  pub same : (k : ℕ) (s : Site) (fs : List Field) → rules (grown k s) fs ≡ rules s fs
  pub placed : (Q : ℕ → Type 0) (s : Site) (fs : List Field) → length fs ≡ length ws → Q s.map_at → AllByRecursion (λ f. Q f.byte) fs → AllByRecursion (λ r. Q r.else.byte × Middle r.else.refusal × (r.else.part ≡ s.part)) (rules s fs)

middle_not_short : (r : Refusal) → Middle r → r ≡ why.Short → ⊥
middle_not_short r m e =
    ⊎_elim (λ u. let z : ◌≡◌ {A = ℕ} 0 1 = cc in omega arith) (λ v. ⊎_elim (λ u. let z : ◌≡◌ {A = ℕ} 0 1 = cc in omega arith) (λ u. let z : ◌≡◌ {A = ℕ} 0 1 = cc in omega arith) v) m

middle_not_tail : (r : Refusal) → Middle r → r ≡ why.Tail → ⊥
middle_not_tail r m e =
    ⊎_elim (λ u. let z : ◌≡◌ {A = ℕ} 0 1 = cc in omega arith) (λ v. ⊎_elim (λ u. let z : ◌≡◌ {A = ℕ} 0 1 = cc in omega arith) (λ u. let z : ◌≡◌ {A = ℕ} 0 1 = cc in omega arith) v) m

short_not_tail : (r : Refusal) → r ≡ why.Short → r ≡ why.Tail → ⊥
short_not_tail r a b = let z : ◌≡◌ {A = ℕ} 0 1 = cc in omega arith

head_not_tail : (r : Refusal) → r ≡ why.Head → r ≡ why.Tail → ⊥
head_not_tail r a b = let z : ◌≡◌ {A = ℕ} 0 1 = cc in omega arith

head_not_short : (r : Refusal) → r ≡ why.Head → r ≡ why.Short → ⊥
head_not_short r a b = let z : ◌≡◌ {A = ℕ} 0 1 = cc in omega arith

all_both : {X : Type 0} (P : X → Type 0) (xs ys : List X) → AllByRecursion P xs → AllByRecursion P ys → AllByRecursion P (xs ++ ys)
all_both P [] ys h g = g
all_both P (x ∷ xs) ys h g = (h.0, all_both P xs ys h.1 g)

zeros_placed : (Q : ℕ → Type 0) (s : Site) (fs : List Field) → AllByRecursion (λ f. Q f.byte) fs → AllByRecursion (λ r. Q r.else.byte × Middle r.else.refusal × (r.else.part ≡ s.part)) (map (not_zero s) fs)
zeros_placed Q s [] h = tt
zeros_placed Q s (f ∷ fs) h = ((h.0, inr (inl refl), refl), zeros_placed Q s fs h.1)

zeros_same : (k : ℕ) (s : Site) (fs : List Field) → map (not_zero (grown k s)) fs ≡ map (not_zero s) fs
zeros_same k s [] = refl
zeros_same k s (f ∷ fs) = ap (λ l. not_zero s f ∷ l) (zeros_same k s fs)

module _ {X : Type 0} (ws : List ℕ) (rules : Site → List Field → List Rule) (make : List Field → X) (loc : Local ws rules) where
  -- what is left of a record once its fields are read
  abbrev judged : Site → List Field × List ℕ → Result (X × List ℕ) Fault
  judged s x = unless (broken (map (not_zero s) x.0 ++ rules s x.0)) (make x.0, x.1)

  body_ok : (s : Site) (m : ℕ) (bs more : List ℕ) (x : X) (r : List ℕ) → read_body ws rules make s m bs ≡ Ok (x, r) → (read_body ws rules make (grown (length more) s) m (bs ++ more) ≡ Ok (x, r ++ more))
  body_ok s m bs more x r e =
      ⊎_elim
      (λ t.
      let a = and_then_ok (read_fields s ws m bs) (judged s) (x, r) (sym (cond-true _ _ _ t) ∙ e) in
      let fs = a.0.0 in
      let b = unless_ok _ _ _ a.2 in
      let rules_same : broken (map (not_zero (grown (length more) s)) fs ++ rules (grown (length more) s) fs) ≡ None =
      ap (λ l. broken (l ++ rules (grown (length more) s) fs)) (zeros_same (length more) s fs) ∙ ap (λ l. broken (map (not_zero s) fs ++ l)) (loc.same (length more) s fs) ∙ b.0 in
      let made : make fs ≡ x = ap (λ (p : X × List ℕ). p.0) b.1 in
      let rest : a.0.1 ≡ r = ap (λ (p : X × List ℕ). p.1) b.1 in
      cond-true _ _ _ t
      ∙ step _ _ (judged (grown (length more) s)) (fields_more s ws m bs more fs a.0.1 a.1)
      ∙ ap (λ o. unless o (make fs, a.0.1 ++ more)) rules_same
      ∙ ap (λ y. Ok (y, a.0.1 ++ more)) made
      ∙ ap (λ l. Ok (x, l ++ more)) rest)
      (λ t. let d = sym (cond-false _ _ _ t) ∙ e in let z : ◌≡◌ {A = ℕ} 0 1 = cc in absurd (omega arith))
      (cases_Bool (ltb m (2 ^ length ws)))

  -- the facts that a body's reading starts from: its site is the byte before it
  record SetOut (s : Site) (bs : List ℕ) : Type 0 where
    fits : suc (length bs) ≤ s.length
    here : s.map_at ≡ s.length - suc (length bs)

  -- where a record's faults lie
  pub record Lies (s : Site) (size : ℕ) (f : Fault) : Type 0 where
    pub after : s.map_at ≤ f.byte
    pub within : f.byte < s.map_at + size
    pub part_is : f.part ≡ s.part
    pub kind : ((f.refusal ≡ why.Short) × (f.byte ≡ s.length)) ⊎ (Middle f.refusal × (f.byte < s.length))

  body_told : (s : Site) (m : ℕ) (bs : List ℕ) (f : Fault) → SetOut s bs → read_body ws rules make s m bs ≡ Err f → Lies s (1 + announced ws m) f
  body_told s m bs f o e =
      let high = s.map_at + (1 + announced ws m) in
      let at_map : Placed s.map_at high s.length s.map_at = (omega arith, omega arith, omega (arith, o.fits, o.here)) in
      let reach : s.length - length bs + announced ws m ≤ high = omega (arith, o.fits, o.here) in
      ⊎_elim
      (λ t.
      ⊎_elim
      (λ u.
      let d = fields_short s ws m bs f high loc.wide (omega (arith, o.fits)) reach (omega arith, at_map.1, at_map.2) u in
      let byte : s.length ≡ f.byte = ap (λ (g : Fault). g.byte) d.0 in
      let refusal : why.Short ≡ f.refusal = ap (λ (g : Fault). g.refusal) d.0 in
      record { after = omega (arith, at_map.2, byte); within = omega (arith, d.1, byte); kind = inl (sym refusal, sym byte); part_is = sym (ap (λ (g : Fault). g.part) d.0) })
      (λ u.
      let fs = u.0.0 in
      let p = fields_placed s ws m bs fs u.0.1 s.map_at high loc.wide (omega (arith, o.fits)) (omega (arith, o.fits, o.here)) reach at_map u.1 in
      let Q : ℕ → Type 0 = Placed s.map_at high s.length in
      let all = all_both (λ (r : Rule). Q r.else.byte × Middle r.else.refusal × (r.else.part ≡ s.part)) (map (not_zero s) fs) (rules s fs) (zeros_placed Q s fs p.0) (loc.placed Q s fs p.1 at_map p.0) in
      let q = broken_one (λ g. Q g.byte × Middle g.refusal × (g.part ≡ s.part)) (map (not_zero s) fs ++ rules s fs) f all (unless_err _ _ f u.2) in
      record { after = q.0.0; within = q.0.1; kind = inr (q.1, q.0.2); part_is = q.2 })
      (and_then_err (read_fields s ws m bs) (judged s) f (sym (cond-true _ _ _ t) ∙ e)))
      (λ t.
      let d = sym (cond-false _ _ _ t) ∙ e in
      let told : fault why.Map s.map_at s.part ≡ f = cc in
      let byte : s.map_at ≡ f.byte = ap (λ (g : Fault). g.byte) told in
      let refusal : why.Map ≡ f.refusal = ap (λ (g : Fault). g.refusal) told in
      record { after = omega (arith, byte); within = omega (arith, byte); kind = inr (inl (sym refusal), omega (arith, at_map.2, byte)); part_is = sym (ap (λ (g : Fault). g.part) told) })
      (cases_Bool (ltb m (2 ^ length ws)))

  -- a fault other than 1 stays, whatever is appended
  body_err : (s : Site) (m : ℕ) (bs more : List ℕ) (f : Fault) → read_body ws rules make s m bs ≡ Err f → ((f.refusal ≡ why.Short) → ⊥) → read_body ws rules make (grown (length more) s) m (bs ++ more) ≡ Err f
  body_err s m bs more f e ns =
      ⊎_elim
      (λ t.
      ⊎_elim
      (λ u. absurd (ns (fields_err s ws m bs f u)))
      (λ u.
      let fs = u.0.0 in
      let first = unless_err _ _ f u.2 in
      let rules_same : broken (map (not_zero (grown (length more) s)) fs ++ rules (grown (length more) s) fs) ≡ Some f =
      ap (λ l. broken (l ++ rules (grown (length more) s) fs)) (zeros_same (length more) s fs) ∙ ap (λ l. broken (map (not_zero s) fs ++ l)) (loc.same (length more) s fs) ∙ first in
      cond-true _ _ _ t
      ∙ step _ _ (judged (grown (length more) s)) (fields_more s ws m bs more fs u.0.1 u.1)
      ∙ ap (λ o. unless o (make fs, u.0.1 ++ more)) rules_same)
      (and_then_err (read_fields s ws m bs) (judged s) f (sym (cond-true _ _ _ t) ∙ e)))
      (λ t. cond-false _ _ _ t ∙ (sym (cond-false _ _ _ t) ∙ e))
      (cases_Bool (ltb m (2 ^ length ws)))

  body_left : (s : Site) (m : ℕ) (bs : List ℕ) (x : X) (r : List ℕ) → read_body ws rules make s m bs ≡ Ok (x, r) → length r ≤ length bs
  body_left s m bs x r e =
      ⊎_elim
      (λ t.
      let a = and_then_ok (read_fields s ws m bs) (judged s) (x, r) (sym (cond-true _ _ _ t) ∙ e) in
      let b = unless_ok _ _ _ a.2 in
      let rest : a.0.1 ≡ r = ap (λ (p : X × List ℕ). p.1) b.1 in
      omega (arith, ap length rest, fields_left s ws m bs a.0.0 a.0.1 a.1))
      (λ t. let d = sym (cond-false _ _ _ t) ∙ e in let z : ◌≡◌ {A = ℕ} 0 1 = cc in absurd (omega arith))
      (cases_Bool (ltb m (2 ^ length ws)))

  module _ (p : Part) where
    -- the site of a record in a longer file
    site_more : (end : ℕ) (bs more : List ℕ) → site_at (end + length more) p (bs ++ more) ≡ grown (length more) (site_at end p bs)
    site_more end bs more =
        let place : end + length more - length (bs ++ more) ≡ end - length bs = simp length-append (omega arith) in
        ap (λ k. record { length = end + length more; part = p; map_at = k }) place

    pub record_told : (end : ℕ) (bs : List ℕ) (f : Fault) → length bs ≤ end → read_record ws rules make (site_at end p bs) bs ≡ Err f → Lies (site_at end p bs) (record_size ws bs) f
    record_told end [] f le e =
        let told : fault why.Short end p ≡ f = cc in
        let byte : end ≡ f.byte = ap (λ (g : Fault). g.byte) told in
        let refusal : why.Short ≡ f.refusal = ap (λ (g : Fault). g.refusal) told in
        record { after = omega (arith, byte); within = omega (arith, byte); kind = inl (sym refusal, sym byte); part_is = sym (ap (λ (g : Fault). g.part) told) }
    record_told end (m ∷ bs) f le e = body_told (site_at end p (m ∷ bs)) m bs f (record { fits = omega arith; here = refl }) e

    record_ok : (end : ℕ) (bs more : List ℕ) (x : X) (r : List ℕ) → read_record ws rules make (site_at end p bs) bs ≡ Ok (x, r) → read_record ws rules make (site_at (end + length more) p (bs ++ more)) (bs ++ more) ≡ Ok (x, r ++ more)
    record_ok end [] more x r e = let z : ◌≡◌ {A = ℕ} 0 1 = cc in absurd (omega arith)
    record_ok end (m ∷ bs) more x r e = ap (λ s. read_body ws rules make s m (bs ++ more)) (site_more end (m ∷ bs) more) ∙ body_ok (site_at end p (m ∷ bs)) m bs more x r e

    record_err : (end : ℕ) (bs more : List ℕ) (f : Fault) → read_record ws rules make (site_at end p bs) bs ≡ Err f → ((f.refusal ≡ why.Short) → ⊥) → read_record ws rules make (site_at (end + length more) p (bs ++ more)) (bs ++ more) ≡ Err f
    record_err end [] more f e ns = let told : fault why.Short end p ≡ f = cc in absurd (ns (sym (ap (λ (g : Fault). g.refusal) told)))
    record_err end (m ∷ bs) more f e ns = ap (λ s. read_body ws rules make s m (bs ++ more)) (site_more end (m ∷ bs) more) ∙ body_err (site_at end p (m ∷ bs)) m bs more f e ns

    record_left : (end : ℕ) (bs : List ℕ) (x : X) (r : List ℕ) → read_record ws rules make (site_at end p bs) bs ≡ Ok (x, r) → length r ≤ length bs
    record_left end [] x r e = let z : ◌≡◌ {A = ℕ} 0 1 = cc in absurd (omega arith)
    record_left end (m ∷ bs) x r e = omega (arith, body_left (site_at end p (m ∷ bs)) m bs x r e)

    -- a record's reader is steady
    pub steady_record : Steady (λ end bs. read_record ws rules make (site_at end p bs) bs)
    steady_record = record {
      left = record_left;
      ok_more = record_ok;
      err_more = record_err;
      told = λ end bs f le e.
          let l = record_told end bs f le e in
          record {
            after = l.after;
            at_end = λ s. ⊎_elim (λ u. u.1) (λ u. absurd (middle_not_short f.refusal u.0 s)) l.kind;
            before = λ ns. ⊎_elim (λ u. absurd (ns u.0)) (λ u. u.1) l.kind;
            no_tail = λ s. ⊎_elim (λ u. short_not_tail f.refusal u.0 s) (λ u. middle_not_tail f.refusal u.0 s) l.kind;
          };
    }

-- the two readers of the head, and that of the count
head_told : (end low high : ℕ) (bs : List ℕ) (f : Fault) → length bs ≤ end → read_head end low high bs ≡ Err f → Told (end - length bs) end f
head_told end low high [] f le e =
    let told : fault why.Short end part.Head ≡ f = cc in
    let byte : end ≡ f.byte = ap (λ (g : Fault). g.byte) told in
    let refusal : f.refusal ≡ why.Short = sym (ap (λ (g : Fault). g.refusal) told) in
    record { after = omega (arith, byte); at_end = λ _. sym byte; before = λ ns. absurd (ns refusal); no_tail = short_not_tail f.refusal refusal }
head_told end low high (b ∷ bs) f le e =
    ⊎_elim
    (λ t. let d = sym (cond-true _ _ _ t) ∙ e in let z : ◌≡◌ {A = ℕ} 0 1 = cc in absurd (omega arith))
    (λ t.
    let d = sym (cond-false _ _ _ t) ∙ e in
    let told : fault why.Head (end - length (b ∷ bs)) part.Head ≡ f = cc in
    let byte : end - length (b ∷ bs) ≡ f.byte = ap (λ (g : Fault). g.byte) told in
    let refusal : f.refusal ≡ why.Head = sym (ap (λ (g : Fault). g.refusal) told) in
    record { after = omega (arith, byte); at_end = λ s. absurd (head_not_short f.refusal refusal s); before = λ _. omega (arith, byte); no_tail = head_not_tail f.refusal refusal })
    (cases_Bool (leb low b && leb b high))

head_more : (end low high b : ℕ) (bs more : List ℕ) → read_head (end + length more) low high ((b ∷ bs) ++ more) ≡ cond (leb low b && leb b high) (Ok (b, bs ++ more)) (Err (fault why.Head (end - length (b ∷ bs)) part.Head))
head_more end low high b bs more =
    let place : end + length more - suc (length (bs ++ more)) ≡ end - suc (length bs) = simp length-append (omega arith) in
    ap (λ k. cond (leb low b && leb b high) (Ok (b, bs ++ more)) (Err (fault why.Head k part.Head))) place

head_err_more : (end low high : ℕ) (bs more : List ℕ) (f : Fault) → read_head end low high bs ≡ Err f → (f.refusal ≡ why.Short → ⊥) → read_head (end + length more) low high (bs ++ more) ≡ Err f
head_err_more end low high [] more f e ns = let told : fault why.Short end part.Head ≡ f = cc in absurd (ns (sym (ap (λ (g : Fault). g.refusal) told)))
head_err_more end low high (b ∷ bs) more f e ns =
    ⊎_elim
    (λ t. let d = sym (cond-true _ _ _ t) ∙ e in let z : ◌≡◌ {A = ℕ} 0 1 = cc in absurd (omega arith))
    (λ t. head_more end low high b bs more ∙ cond-false _ _ _ t ∙ (sym (cond-false _ _ _ t) ∙ e))
    (cases_Bool (leb low b && leb b high))

head_ok_more : (end low high : ℕ) (bs more : List ℕ) (x : ℕ) (r : List ℕ) → read_head end low high bs ≡ Ok (x, r) → read_head (end + length more) low high (bs ++ more) ≡ Ok (x, r ++ more)
head_ok_more end low high [] more x r e = let z : ◌≡◌ {A = ℕ} 0 1 = cc in absurd (omega arith)
head_ok_more end low high (b ∷ bs) more x r e =
    ⊎_elim
    (λ t.
    let q = parts _ _ _ _ (sym (cond-true _ _ _ t) ∙ e) in
    head_more end low high b bs more ∙ cond-true _ _ _ t ∙ ap (λ y. Ok (y, bs ++ more)) q.0 ∙ ap (λ l. Ok (x, l ++ more)) q.1)
    (λ t. let d = sym (cond-false _ _ _ t) ∙ e in let z : ◌≡◌ {A = ℕ} 0 1 = cc in absurd (omega arith))
    (cases_Bool (leb low b && leb b high))

pub steady_head : (low high : ℕ) → Steady (λ end bs. read_head end low high bs)
steady_head low high = record {
  left = λ end bs x r e. omega (arith, ap length (head_ok end low high bs x r e).0);
  ok_more = λ end bs more x r e. head_ok_more end low high bs more x r e;
  err_more = λ end bs more f e ns. head_err_more end low high bs more f e ns;
  told = λ end bs f le e. head_told end low high bs f le e;
}

count_short : (end low : ℕ) (f : Fault) → low ≤ end → fault why.Short end part.Count ≡ f → Told low end f
count_short end low f le told =
    let byte : end ≡ f.byte = ap (λ (g : Fault). g.byte) told in
    let refusal : f.refusal ≡ why.Short = sym (ap (λ (g : Fault). g.refusal) told) in
    record { after = omega (arith, byte); at_end = λ _. sym byte; before = λ ns. absurd (ns refusal); no_tail = short_not_tail f.refusal refusal }

count_told : (end : ℕ) (bs : List ℕ) (f : Fault) → length bs ≤ end → read_count end bs ≡ Err f → Told (end - length bs) end f
count_told end [] f le e = count_short end _ f (omega arith) (cc)
count_told end (a ∷ []) f le e = count_short end _ f (omega arith) (cc)
count_told end (a ∷ b ∷ bs) f le e =
    let m = a + b * 256 in
    ⊎_elim
    (λ t. let d = sym (cond-true _ _ _ t) ∙ e in let z : ◌≡◌ {A = ℕ} 0 1 = cc in absurd (omega arith))
    (λ t.
    let d = sym (cond-false _ _ _ t) ∙ e in
    let told : fault why.Head (end - length (a ∷ b ∷ bs)) part.Count ≡ f = cc in
    let byte : end - length (a ∷ b ∷ bs) ≡ f.byte = ap (λ (g : Fault). g.byte) told in
    let refusal : f.refusal ≡ why.Head = sym (ap (λ (g : Fault). g.refusal) told) in
    record { after = omega (arith, byte); at_end = λ s. absurd (head_not_short f.refusal refusal s); before = λ _. omega (arith, byte); no_tail = head_not_tail f.refusal refusal })
    (cases_Bool (leb 1 m && leb m 256))

count_more : (end a b : ℕ) (bs more : List ℕ) → read_count (end + length more) ((a ∷ b ∷ bs) ++ more) ≡ (let m = a + b * 256 in cond (leb 1 m && leb m 256) (Ok (m, bs ++ more)) (Err (fault why.Head (end - length (a ∷ b ∷ bs)) part.Count)))
count_more end a b bs more =
    let m = a + b * 256 in
    let place : end + length more - suc (suc (length (bs ++ more))) ≡ end - suc (suc (length bs)) = simp length-append (omega arith) in
    ap (λ k. cond (leb 1 m && leb m 256) (Ok (m, bs ++ more)) (Err (fault why.Head k part.Count))) place

count_err_more : (end : ℕ) (bs more : List ℕ) (f : Fault) → read_count end bs ≡ Err f → (f.refusal ≡ why.Short → ⊥) → read_count (end + length more) (bs ++ more) ≡ Err f
count_err_more end [] more f e ns = let told : fault why.Short end part.Count ≡ f = cc in absurd (ns (sym (ap (λ (g : Fault). g.refusal) told)))
count_err_more end (a ∷ []) more f e ns = let told : fault why.Short end part.Count ≡ f = cc in absurd (ns (sym (ap (λ (g : Fault). g.refusal) told)))
count_err_more end (a ∷ b ∷ bs) more f e ns =
    let m = a + b * 256 in
    ⊎_elim
    (λ t. let d = sym (cond-true _ _ _ t) ∙ e in let z : ◌≡◌ {A = ℕ} 0 1 = cc in absurd (omega arith))
    (λ t. count_more end a b bs more ∙ cond-false _ _ _ t ∙ (sym (cond-false _ _ _ t) ∙ e))
    (cases_Bool (leb 1 m && leb m 256))

count_ok_more : (end : ℕ) (bs more : List ℕ) (x : ℕ) (r : List ℕ) → read_count end bs ≡ Ok (x, r) → (read_count (end + length more) (bs ++ more) ≡ Ok (x, r ++ more)) × (length r ≤ length bs)
count_ok_more end [] more x r e = let z : ◌≡◌ {A = ℕ} 0 1 = cc in absurd (omega arith)
count_ok_more end (a ∷ []) more x r e = let z : ◌≡◌ {A = ℕ} 0 1 = cc in absurd (omega arith)
count_ok_more end (a ∷ b ∷ bs) more x r e =
    let m = a + b * 256 in
    ⊎_elim
    (λ t.
    let q = parts _ _ _ _ (sym (cond-true _ _ _ t) ∙ e) in
    (count_more end a b bs more ∙ cond-true _ _ _ t ∙ ap (λ y. Ok (y, bs ++ more)) q.0 ∙ ap (λ l. Ok (x, l ++ more)) q.1, omega (arith, ap length q.1)))
    (λ t. let d = sym (cond-false _ _ _ t) ∙ e in let z : ◌≡◌ {A = ℕ} 0 1 = cc in absurd (omega arith))
    (cases_Bool (leb 1 m && leb m 256))

pub steady_count : Steady read_count
steady_count = record {
  left = λ end bs x r e. (count_ok_more end bs [] x r e).1;
  ok_more = λ end bs more x r e. (count_ok_more end bs more x r e).0;
  err_more = count_err_more;
  told = count_told;
}

-- the faults of a channel's rules stand at its fields
channel_placed : (n : ℕ) (Q : ℕ → Type 0) (s : Site) (fs : List Field) → length fs ≡ 2 → Q s.map_at → AllByRecursion (λ f. Q f.byte) fs → AllByRecursion (λ r. Q r.else.byte × Middle r.else.refusal × (r.else.part ≡ s.part)) (channel_rules n s fs)
channel_placed n Q s [] e q h = absurd (omega arith)
channel_placed n Q s (a ∷ []) e q h = absurd (omega arith)
channel_placed n Q s (a ∷ b ∷ fs) e q h = ((h.0, inr (inr refl), refl), ((h.1.0, inr (inr refl), refl), tt))

-- and those of an instruction's rules at its fields or its map byte
instruction_placed : (cs : List Channel) (m : ℕ) (Q : ℕ → Type 0) (s : Site) (fs : List Field) → length fs ≡ 7 → Q s.map_at → AllByRecursion (λ f. Q f.byte) fs → AllByRecursion (λ r. Q r.else.byte × Middle r.else.refusal × (r.else.part ≡ s.part)) (instruction_rules cs m s fs)
instruction_placed cs m Q s [] e q h = absurd (omega arith)
instruction_placed cs m Q s (a ∷ []) e q h = absurd (omega arith)
instruction_placed cs m Q s (a ∷ b ∷ []) e q h = absurd (omega arith)
instruction_placed cs m Q s (a ∷ b ∷ c ∷ []) e q h = absurd (omega arith)
instruction_placed cs m Q s (a ∷ b ∷ c ∷ d ∷ []) e q h = absurd (omega arith)
instruction_placed cs m Q s (a ∷ b ∷ c ∷ d ∷ k ∷ []) e q h = absurd (omega arith)
instruction_placed cs m Q s (a ∷ b ∷ c ∷ d ∷ k ∷ l ∷ []) e q h = absurd (omega arith)
instruction_placed cs m Q s (a ∷ b ∷ c ∷ d ∷ k ∷ l ∷ o ∷ fs) e q h =
    let map : (Q s.map_at × Middle why.Map × (s.part ≡ s.part)) = (q, inl refl, refl) in
    let range : (j : ℕ) → Q j → Q j × Middle why.Range × (s.part ≡ s.part) = λ j p. (p, inr (inr refl), refl) in
    (range _ h.0, (map, (map, (map, (map, (map, (map, (range _ h.1.0, (range _ h.1.1.0, (range _ h.1.1.1.0, (range _ h.1.1.1.1.1.0, (range _ h.1.1.1.1.1.1.0, tt))))))))))))

-- the rules of channels and of instructions are local
pub channel_local : (n : ℕ) → Local channel_widths (channel_rules n)
channel_local n = record { wide = omega arith; same = λ k s fs. refl; placed = channel_placed n }

pub instruction_local : (cs : List Channel) (m : ℕ) → Local instruction_widths (instruction_rules cs m)
instruction_local cs m = record { wide = omega arith; same = λ k s fs. refl; placed = instruction_placed cs m }

-- the readers of one channel and of one instruction are steady
pub steady_channel : (n i : ℕ) → Steady (λ end bs. read_channel end i n bs)
steady_channel n i = steady_record channel_widths (channel_rules n) channel_of (channel_local n) (part.Channel i)

pub steady_instruction : (cs : List Channel) (m i : ℕ) → Steady (λ end bs. read_instruction end i cs m bs)
steady_instruction cs m i = steady_record instruction_widths (instruction_rules cs m) instruction_of (instruction_local cs m) (part.Instruction i)
