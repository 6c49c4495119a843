-- The instruction record's round trip. Assumes nothing.
use Rattle.std.proofs.Common.{◌≡◌, ℕ, zero, suc, ◌^◌, ◌<◌, ◌≤◌, Bool, true, false, cond, not, ◌||◌, eqb, ltb, leb, List, [], ◌∷◌, ◌++◌, map, length, get_or, ℤ, Some, None, Option, Ok, sym, refl, ap, ◌∙◌, subst, arith, lit<, w32, Fits, SFits, to_z, of_z}
use mir.Facts.{Fits-of_z, sfits_to_z}
use Rattle.std.proofs.lemmas.Int.{to_z-of_z, of_z-to_z}
use Rattle.std.proofs.lemmas.Bool.{ltb-true, true≢false, leb-true, and_parts, cond-true, cond-false, and_from, le-leb, leb-false, eqb-true, eqb-false, ne_eqb, cond_both, or_left, or_right, or_from}
use Rattle.std.specs.List.{AllByRecursion}
use Rattle.std.specs.Option.{unwrap_or, is_some}
use Rattle.script.specs.declared.parts.Channel.{Channel}
use Rattle.script.specs.declared.parts.Operation.{Operation}
use Rattle.script.specs.declared.parts.Operation.TheVariants.{Add, Subtract, Multiply, Quotient, Remainder, Less, Same}
use Rattle.script.specs.declared.parts.Instruction.{Instruction}
use Rattle.script.specs.declared.parts.Instruction.TheVariants.{Skip, Set, Compute, Jump, Input, Output, Stop}
use Rattle.script.specs.Laws.{sound}
use Rattle.refusal.specs.declared.Part.TheVariants as part
use Rattle.format.specs.declared.layout.Site.{Site}
use Rattle.format.specs.declared.layout.Field.{Field}
use Rattle.format.specs.Numbers.{Bytes}
use Rattle.format.specs.Encoding.{instruction_widths, record_of, instruction_values, encode_instruction}
use Rattle.format.specs.Rules.{Rule, broken, is_there, value_of, at, uses_target, uses_first, uses_second, uses_number, uses_place, uses_channel, suits, instruction_rules, kind_rules, range_rules}
use Rattle.format.specs.Reading.{site_at, instruction_of, operation_of, read_instruction}
use Rattle.script.specs.Kinds.{kind_of}
use Rattle.format.proofs.Words.{word_fits, fits_word}
use Rattle.format.proofs.Steps.{passed, all_kept}
use Rattle.format.proofs.Round.{Fit, read_record_lem, write_record, broken_split}
use Rattle.format.proofs.Channels.{at_value}

-- every rule is kept
pub kept_all : (rs : List Rule) → broken rs ≡ None → AllByRecursion (λ r. r.kept ≡ true) rs
kept_all [] e = tt
kept_all (r ∷ rs) e = let k = all_kept r rs e in (k.0, kept_all rs k.1)

at_shown : (fs : List Field) (k : ℕ) → AllByRecursion (λ f. not (is_there f) ≡ eqb (value_of f) 0) fs → not (is_there (at fs k)) ≡ eqb (value_of (at fs k)) 0
at_shown [] k h = refl
at_shown (f ∷ fs) zero h = h.0
at_shown (f ∷ fs) (suc k) h = at_shown fs k h.1

-- the rules of an instruction, over its values
pub record Kept (cs : List Channel) (m k t f s n p c : ℕ) : Type 0 where
  pub kind : leb k 12 ≡ true
  pub target : (uses_target k || eqb t 0) ≡ true
  pub first : (uses_first k || eqb f 0) ≡ true
  pub second : (uses_second k || eqb s 0) ≡ true
  pub number : (uses_number k || eqb n 0) ≡ true
  pub place : (uses_place k || eqb p 0) ≡ true
  pub channel : (uses_channel k || eqb c 0) ≡ true
  pub target_in : ltb t 16 ≡ true
  pub first_in : ltb f 16 ≡ true
  pub second_in : ltb s 16 ≡ true
  pub place_in : leb p m ≡ true
  pub channel_in : suits cs k c ≡ true

abbrev Keeps : List Channel → ℕ → List ℕ → Type 0
Keeps cs m vs = Kept cs m (get_or vs 0 0) (get_or vs 1 0) (get_or vs 2 0) (get_or vs 3 0) (get_or vs 4 0) (get_or vs 5 0) (get_or vs 6 0)

rules_kept : (cs : List Channel) (m : ℕ) (s : Site) (fs : List Field) (vs : List ℕ) → map value_of fs ≡ vs → AllByRecursion (λ f. not (is_there f) ≡ eqb (value_of f) 0) fs → Keeps cs m vs → broken (instruction_rules cs m s fs) ≡ None
rules_kept cs m s fs vs e h k =
    let v : (i : ℕ) → value_of (at fs i) ≡ get_or vs i 0 = λ i. at_value fs i ∙ ap (λ l. get_or l i 0) e in
    let w : (u : ℕ → Bool) (i : ℕ) → (u (get_or vs 0 0) || eqb (get_or vs i 0) 0) ≡ true → (u (value_of (at fs 0)) || not (is_there (at fs i))) ≡ true =
    λ u i t. ap (λ b. u (value_of (at fs 0)) || b) (at_shown fs i h) ∙ ap (λ x. u x || eqb (value_of (at fs i)) 0) (v 0) ∙ ap (λ x. u (get_or vs 0 0) || eqb x 0) (v i) ∙ t in
    cond-true _ _ _ (ap (λ x. leb x 12) (v 0) ∙ k.kind)
    ∙ cond-true _ _ _ (w uses_target 1 k.target)
    ∙ cond-true _ _ _ (w uses_first 2 k.first)
    ∙ cond-true _ _ _ (w uses_second 3 k.second)
    ∙ cond-true _ _ _ (w uses_number 4 k.number)
    ∙ cond-true _ _ _ (w uses_place 5 k.place)
    ∙ cond-true _ _ _ (w uses_channel 6 k.channel)
    ∙ cond-true _ _ _ (ap (λ x. ltb x 16) (v 1) ∙ k.target_in)
    ∙ cond-true _ _ _ (ap (λ x. ltb x 16) (v 2) ∙ k.first_in)
    ∙ cond-true _ _ _ (ap (λ x. ltb x 16) (v 3) ∙ k.second_in)
    ∙ cond-true _ _ _ (ap (λ x. leb x m) (v 5) ∙ k.place_in)
    ∙ cond-true _ _ _ (ap (λ x. suits cs x (value_of (at fs 6))) (v 0) ∙ ap (λ x. suits cs (get_or vs 0 0) x) (v 6) ∙ k.channel_in)

-- the instruction of seven values
abbrev of_values : ℕ → ℕ → ℕ → ℕ → ℕ → ℕ → ℕ → Instruction
of_values k t f s n p c =
    cond (eqb k 0) Skip
    (cond (eqb k 1) (Set t (to_z w32 n))
    (cond (leb k 8) (Compute (operation_of k) t f s)
    (cond (eqb k 9) (Jump f p)
    (cond (eqb k 10) (Input t c)
    (cond (eqb k 11) (Output f c)
    Stop)))))

made_of : (fs : List Field) (vs : List ℕ) → map value_of fs ≡ vs → instruction_of fs ≡ of_values (get_or vs 0 0) (get_or vs 1 0) (get_or vs 2 0) (get_or vs 3 0) (get_or vs 4 0) (get_or vs 5 0) (get_or vs 6 0)
made_of fs vs e =
    let v : (i : ℕ) → value_of (at fs i) ≡ get_or vs i 0 = λ i. at_value fs i ∙ ap (λ l. get_or l i 0) e in
    λ i. of_values (v 0 i) (v 1 i) (v 2 i) (v 3 i) (v 4 i) (v 5 i) (v 6 i)

-- what an operation's kind uses
record Uses (o : Operation) : Type 0 where
  small : leb (kind_of o) 12 ≡ true
  low : kind_of o < 256
  target : uses_target (kind_of o) ≡ true
  first : uses_first (kind_of o) ≡ true
  second : uses_second (kind_of o) ≡ true
  free : (cs : List Channel) (c : ℕ) → suits cs (kind_of o) c ≡ true
  makes : (t f s n p c : ℕ) → of_values (kind_of o) t f s n p c ≡ Compute o t f s

op_uses : (o : Operation) → Uses o
op_uses Add = record { small = refl; low = lit< tt; target = refl; first = refl; second = refl; free = λ _ _. refl; makes = λ _ _ _ _ _ _. refl }
op_uses Subtract = record { small = refl; low = lit< tt; target = refl; first = refl; second = refl; free = λ _ _. refl; makes = λ _ _ _ _ _ _. refl }
op_uses Multiply = record { small = refl; low = lit< tt; target = refl; first = refl; second = refl; free = λ _ _. refl; makes = λ _ _ _ _ _ _. refl }
op_uses Quotient = record { small = refl; low = lit< tt; target = refl; first = refl; second = refl; free = λ _ _. refl; makes = λ _ _ _ _ _ _. refl }
op_uses Remainder = record { small = refl; low = lit< tt; target = refl; first = refl; second = refl; free = λ _ _. refl; makes = λ _ _ _ _ _ _. refl }
op_uses Less = record { small = refl; low = lit< tt; target = refl; first = refl; second = refl; free = λ _ _. refl; makes = λ _ _ _ _ _ _. refl }
op_uses Same = record { small = refl; low = lit< tt; target = refl; first = refl; second = refl; free = λ _ _. refl; makes = λ _ _ _ _ _ _. refl }

-- a sound instruction keeps the rules
sound_keeps : (cs : List Channel) (m : ℕ) (x : Instruction) → sound cs (length cs) m x ≡ true → Keeps cs m (instruction_values x)
sound_keeps cs m Skip h = record { kind = refl; target = refl; first = refl; second = refl; number = refl; place = refl; channel = refl; target_in = refl; first_in = refl; second_in = refl; place_in = le-leb 0 m (omega arith); channel_in = refl }
sound_keeps cs m (Set t n) h = record { kind = refl; target = refl; first = refl; second = refl; number = refl; place = refl; channel = refl; target_in = (and_parts (ltb t 16) _ h).0; first_in = refl; second_in = refl; place_in = le-leb 0 m (omega arith); channel_in = refl }
sound_keeps cs m (Compute o t f s) h =
    let a = and_parts (ltb t 16) _ h in
    let b = and_parts (ltb f 16) _ a.1 in
    let u = op_uses o in
    record { kind = u.small; target = or_left _ _ u.target; first = or_left _ _ u.first; second = or_left _ _ u.second; number = or_right _ _ refl; place = or_right _ _ refl; channel = or_right _ _ refl; target_in = a.0; first_in = b.0; second_in = b.1; place_in = le-leb 0 m (omega arith); channel_in = u.free cs 0 }
sound_keeps cs m (Jump f p) h =
    let a = and_parts (ltb f 16) _ h in
    record { kind = refl; target = refl; first = refl; second = refl; number = refl; place = refl; channel = refl; target_in = refl; first_in = a.0; second_in = refl; place_in = a.1; channel_in = refl }
sound_keeps cs m (Input t c) h =
    let a = and_parts (ltb t 16) _ h in
    record { kind = refl; target = refl; first = refl; second = refl; number = refl; place = refl; channel = refl; target_in = a.0; first_in = refl; second_in = refl; place_in = le-leb 0 m (omega arith); channel_in = a.1 }
sound_keeps cs m (Output f c) h =
    let a = and_parts (ltb f 16) _ h in
    record { kind = refl; target = refl; first = refl; second = refl; number = refl; place = refl; channel = refl; target_in = refl; first_in = a.0; second_in = refl; place_in = le-leb 0 m (omega arith); channel_in = a.1 }
sound_keeps cs m Stop h = record { kind = refl; target = refl; first = refl; second = refl; number = refl; place = refl; channel = refl; target_in = refl; first_in = refl; second_in = refl; place_in = le-leb 0 m (omega arith); channel_in = refl }

-- the instruction that an instruction's values make
made_again : (cs : List Channel) (m : ℕ) (x : Instruction) → sound cs (length cs) m x ≡ true → (let v = instruction_values x in of_values (get_or v 0 0) (get_or v 1 0) (get_or v 2 0) (get_or v 3 0) (get_or v 4 0) (get_or v 5 0) (get_or v 6 0)) ≡ x
made_again cs m Skip h = refl
made_again cs m (Set t n) h = ap (Set t) (to_z-of_z w32 n (word_fits n (and_parts (ltb t 16) _ h).1))
made_again cs m (Compute o t f s) h = (op_uses o).makes t f s 0 0 0
made_again cs m (Jump f p) h = refl
made_again cs m (Input t c) h = refl
made_again cs m (Output f c) h = refl
made_again cs m Stop h = refl

bits_fit : (n : ℤ) → SFits w32 n → of_z w32 n < 256 ^ 4
bits_fit n h = (Fits-of_z {w = w32} {z = n} h).fits

-- the values of a sound instruction fit their widths
pub values_fit : (cs : List Channel) (m : ℕ) (x : Instruction) → length cs ≤ 16 → m ≤ 256 → sound cs (length cs) m x ≡ true → Fit instruction_widths (instruction_values x)
values_fit cs m Skip wide long h = omega arith
values_fit cs m (Set t z) wide long h = (omega arith, (omega (arith, ltb-true _ _ (and_parts (ltb t 16) _ h).0), (omega arith, (omega arith, (bits_fit z (word_fits z (and_parts (ltb t 16) _ h).1), (omega arith, (omega arith, tt)))))))
values_fit cs m (Compute o t f s) wide long h =
    let a = and_parts (ltb t 16) _ h in
    let b = and_parts (ltb f 16) _ a.1 in
    ((op_uses o).low, (omega (arith, ltb-true _ _ a.0), (omega (arith, ltb-true _ _ b.0), (omega (arith, ltb-true _ _ b.1), (omega arith, (omega arith, (omega arith, tt)))))))
values_fit cs m (Jump f p) wide long h =
    let a = and_parts (ltb f 16) _ h in
    (omega arith, (omega arith, (omega (arith, ltb-true _ _ a.0), (omega arith, (omega arith, (omega (arith, leb-true _ _ a.1), (omega arith, tt)))))))
values_fit cs m (Input t c) wide long h =
    let a = and_parts (ltb t 16) _ h in
    let b = and_parts (ltb c (length cs)) _ a.1 in
    (omega arith, (omega (arith, ltb-true _ _ a.0), (omega arith, (omega arith, (omega arith, (omega arith, (omega (arith, ltb-true _ _ b.0), tt)))))))
values_fit cs m (Output f c) wide long h =
    let a = and_parts (ltb f 16) _ h in
    let b = and_parts (ltb c (length cs)) _ a.1 in
    (omega arith, (omega arith, (omega (arith, ltb-true _ _ a.0), (omega arith, (omega arith, (omega arith, (omega (arith, ltb-true _ _ b.0), tt)))))))
values_fit cs m Stop wide long h = omega arith

-- an instruction that is written is read again as it was
pub instruction_read_again : (end i : ℕ) (cs : List Channel) (m : ℕ) (x : Instruction) (rest : List ℕ) → length cs ≤ 16 → m ≤ 256 → sound cs (length cs) m x ≡ true → read_instruction end i cs m (encode_instruction x ++ rest) ≡ Ok (x, rest)
instruction_read_again end i cs m x rest wide long h =
    let s = site_at end (part.Instruction i) (encode_instruction x ++ rest) in
    let r = read_record_lem instruction_widths (instruction_rules cs m) instruction_of s (instruction_values x) rest (values_fit cs m x wide long h) in
    let ok = rules_kept cs m s r.0 (instruction_values x) r.1 r.3 (sound_keeps cs m x h) in
    passed _ _ _ (x, rest) r.2 ok (ap (λ (y : Instruction). (y, rest)) (made_of r.0 (instruction_values x) r.1 ∙ made_again cs m x h))

not_true_of : (b : Bool) → not b ≡ true → b ≡ false
not_true_of true e = sym e
not_true_of false e = refl

seven : {a b c d e f g a' b' c' d' e' f' g' : ℕ} → a ≡ a' → b ≡ b' → c ≡ c' → d ≡ d' → e ≡ e' → f ≡ f' → g ≡ g' → a ∷ b ∷ c ∷ d ∷ e ∷ f ∷ g ∷ [] ≡ a' ∷ b' ∷ c' ∷ d' ∷ e' ∷ f' ∷ g' ∷ []
seven p q r s t u v = cc

absent_is_0 : (o : Option ℕ) → is_some o ≡ false → unwrap_or o 0 ≡ 0
absent_is_0 None h = refl
absent_is_0 (Some v) h = absurd (true≢false h)

-- a field that the kind does not use is 0
unused : (u : Bool) (f : Field) → (u || not (is_there f)) ≡ true → u ≡ false → value_of f ≡ 0
unused u f h e = absent_is_0 f.value (not_true_of (is_there f) (subst (λ b. (b || not (is_there f)) ≡ true) e h))

kind_operation : (k : ℕ) → 2 ≤ k → k ≤ 8 → kind_of (operation_of k) ≡ k
kind_operation zero l r = absurd (omega arith)
kind_operation (suc zero) l r = absurd (omega arith)
kind_operation (suc (suc zero)) l r = refl
kind_operation (suc (suc (suc zero))) l r = refl
kind_operation (suc (suc (suc (suc zero)))) l r = refl
kind_operation (suc (suc (suc (suc (suc zero))))) l r = refl
kind_operation (suc (suc (suc (suc (suc (suc zero)))))) l r = refl
kind_operation (suc (suc (suc (suc (suc (suc (suc zero))))))) l r = refl
kind_operation (suc (suc (suc (suc (suc (suc (suc (suc zero)))))))) l r = refl
kind_operation (suc (suc (suc (suc (suc (suc (suc (suc (suc k))))))))) l r = absurd (omega arith)

-- the values of seven fields that keep the rules are those of the instruction that they make
values_again : (cs : List Channel) (m : ℕ) (s : Site) (fs : List Field) → Fit instruction_widths (map value_of fs) → broken (instruction_rules cs m s fs) ≡ None → instruction_values (instruction_of fs) ≡ map value_of fs
values_again cs m s [] fit ok = absurd fit
values_again cs m s (a ∷ []) fit ok = absurd fit.1
values_again cs m s (a ∷ b ∷ []) fit ok = absurd fit.1.1
values_again cs m s (a ∷ b ∷ c ∷ []) fit ok = absurd fit.1.1.1
values_again cs m s (a ∷ b ∷ c ∷ d ∷ []) fit ok = absurd fit.1.1.1.1
values_again cs m s (a ∷ b ∷ c ∷ d ∷ e ∷ []) fit ok = absurd fit.1.1.1.1.1
values_again cs m s (a ∷ b ∷ c ∷ d ∷ e ∷ f ∷ []) fit ok = absurd fit.1.1.1.1.1.1
values_again cs m s (a ∷ b ∷ c ∷ d ∷ e ∷ f ∷ h ∷ x ∷ fs) fit ok = absurd fit.1.1.1.1.1.1.1
values_again cs m s (a ∷ b ∷ c ∷ d ∷ e ∷ f ∷ h ∷ []) fit ok =
    let r = kept_all (instruction_rules cs m s (a ∷ b ∷ c ∷ d ∷ e ∷ f ∷ h ∷ [])) ok in
    let k = value_of a in
    let top : k ≤ 12 = leb-true _ _ r.0 in
    let no_target : uses_target k ≡ false → value_of b ≡ 0 = unused (uses_target k) b r.1.0 in
    let no_first : uses_first k ≡ false → value_of c ≡ 0 = unused (uses_first k) c r.1.1.0 in
    let no_second : uses_second k ≡ false → value_of d ≡ 0 = unused (uses_second k) d r.1.1.1.0 in
    let no_number : uses_number k ≡ false → value_of e ≡ 0 = unused (uses_number k) e r.1.1.1.1.0 in
    let no_place : uses_place k ≡ false → value_of f ≡ 0 = unused (uses_place k) f r.1.1.1.1.1.0 in
    let no_channel : uses_channel k ≡ false → value_of h ≡ 0 = unused (uses_channel k) h r.1.1.1.1.1.1.0 in
    let vs = k ∷ value_of b ∷ value_of c ∷ value_of d ∷ value_of e ∷ value_of f ∷ value_of h ∷ [] in
    let P : Instruction → Type 0 = λ i. instruction_values i ≡ vs in
    cond_both (eqb k 0) _ _ P (λ t. let z = eqb-true k 0 t in seven (sym z) (sym (no_target (ap uses_target z))) (sym (no_first (ap uses_first z))) (sym (no_second (ap uses_second z))) (sym (no_number (ap uses_number z))) (sym (no_place (ap uses_place z))) (sym (no_channel (ap uses_channel z)))) (λ n0.
    cond_both (eqb k 1) _ _ P (λ t. let z = eqb-true k 1 t in seven (sym z) refl (sym (no_first (ap uses_first z))) (sym (no_second (ap uses_second z))) (of_z-to_z w32 (value_of e) fit.1.1.1.1.0) (sym (no_place (ap uses_place z))) (sym (no_channel (ap uses_channel z)))) (λ n1.
    cond_both (leb k 8) _ _ P (λ t.
    let le = leb-true k 8 t in
    let not0 = eqb-false k 0 n0 in
    let not1 = eqb-false k 1 n1 in
    seven (kind_operation k (omega arith) le) refl refl refl (sym (no_number n1)) (sym (no_place (ne_eqb k 9 (λ z. omega arith)))) (sym (no_channel (or_from _ _ (ne_eqb k 10 (λ z. omega arith)) (ne_eqb k 11 (λ z. omega arith)))))) (λ n8.
    cond_both (eqb k 9) _ _ P (λ t. let z = eqb-true k 9 t in seven (sym z) (sym (no_target (ap uses_target z))) refl (sym (no_second (ap uses_second z))) (sym (no_number (ap uses_number z))) refl (sym (no_channel (ap uses_channel z)))) (λ n9.
    cond_both (eqb k 10) _ _ P (λ t. let z = eqb-true k 10 t in seven (sym z) refl (sym (no_first (ap uses_first z))) (sym (no_second (ap uses_second z))) (sym (no_number (ap uses_number z))) (sym (no_place (ap uses_place z))) refl) (λ n10.
    cond_both (eqb k 11) _ _ P (λ t. let z = eqb-true k 11 t in seven (sym z) (sym (no_target (ap uses_target z))) refl (sym (no_second (ap uses_second z))) (sym (no_number (ap uses_number z))) (sym (no_place (ap uses_place z))) refl) (λ n11.
    let low = leb-false k 8 n8 in
    let not9 = eqb-false k 9 n9 in
    let not10 = eqb-false k 10 n10 in
    let not11 = eqb-false k 11 n11 in
    let z : k ≡ 12 = omega arith in
    seven (sym z) (sym (no_target (ap uses_target z))) (sym (no_first (ap uses_first z))) (sym (no_second (ap uses_second z))) (sym (no_number (ap uses_number z))) (sym (no_place (ap uses_place z))) (sym (no_channel (ap uses_channel z)))))))))

-- what an instruction is read from is what would be written for it
pub instruction_written_again : (end i : ℕ) (cs : List Channel) (m : ℕ) (x : Instruction) (bs rest : List ℕ) → Bytes bs → read_instruction end i cs m bs ≡ Ok (x, rest) → encode_instruction x ++ rest ≡ bs
instruction_written_again end i cs m x bs rest h e =
    let s = site_at end (part.Instruction i) bs in
    let r = write_record instruction_widths (instruction_rules cs m) instruction_of s bs rest x h e in
    let same = values_again cs m s r.0 r.2 r.3 in
    ap (λ vs. record_of instruction_widths vs ++ rest) (ap instruction_values (sym r.4) ∙ same) ∙ r.1

-- the fifth of seven values fits its four bytes
fifth : (vs : List ℕ) → Fit instruction_widths vs → get_or vs 4 0 < 256 ^ 4
fifth [] h = absurd h
fifth (a ∷ []) h = absurd h.1
fifth (a ∷ b ∷ []) h = absurd h.1.1
fifth (a ∷ b ∷ c ∷ []) h = absurd h.1.1.1
fifth (a ∷ b ∷ c ∷ d ∷ []) h = absurd h.1.1.1.1
fifth (a ∷ b ∷ c ∷ d ∷ e ∷ vs) h = h.1.1.1.1.0

-- the rules of an instruction, taken together, are its law
kept_sound : (cs : List Channel) (m : ℕ) (s : Site) (fs : List Field) → Fit instruction_widths (map value_of fs) → broken (instruction_rules cs m s fs) ≡ None → sound cs (length cs) m (instruction_of fs) ≡ true
kept_sound cs m s fs fit ok =
    let r = kept_all (range_rules cs m s fs) (broken_split (kind_rules s fs) (range_rules cs m s fs) ok).1 in
    let k = value_of (at fs 0) in
    let target = r.0 in
    let first = r.1.0 in
    let second = r.1.1.0 in
    let place = r.1.1.1.0 in
    let channel = r.1.1.1.1.0 in
    let small : value_of (at fs 4) < 256 ^ 4 = subst (λ v. v < 256 ^ 4) (sym (at_value fs 4)) (fifth (map value_of fs) fit) in
    let fits : Fits w32 (value_of (at fs 4)) = record { fits = small } in
    let number = fits_word (to_z w32 (value_of (at fs 4))) (sfits_to_z {w = w32} {n = value_of (at fs 4)} fits) in
    let P : Instruction → Type 0 = λ i. sound cs (length cs) m i ≡ true in
    cond_both (eqb k 0) _ _ P (λ _. refl) (λ _.
    cond_both (eqb k 1) _ _ P (λ _. and_from _ _ target number) (λ _.
    cond_both (leb k 8) _ _ P (λ _. and_from _ _ target (and_from _ _ first second)) (λ _.
    cond_both (eqb k 9) _ _ P (λ _. and_from _ _ first place) (λ _.
    cond_both (eqb k 10) _ _ P (λ t. and_from _ _ target (sym (cond-true _ _ _ t) ∙ channel)) (λ n.
    cond_both (eqb k 11) _ _ P (λ t. and_from _ _ first (sym (cond-true _ _ _ t) ∙ (sym (cond-false _ _ _ n) ∙ channel))) (λ _. refl))))))

-- an instruction that is read keeps its law
pub instruction_sound : (end i : ℕ) (cs : List Channel) (m : ℕ) (x : Instruction) (bs rest : List ℕ) → Bytes bs → read_instruction end i cs m bs ≡ Ok (x, rest) → sound cs (length cs) m x ≡ true
instruction_sound end i cs m x bs rest h e =
    let s = site_at end (part.Instruction i) bs in
    let r = write_record instruction_widths (instruction_rules cs m) instruction_of s bs rest x h e in
    subst (λ i. sound cs (length cs) m i ≡ true) r.4 (kept_sound cs m s r.0 r.2 r.3)
