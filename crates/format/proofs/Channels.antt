-- The channel record's round trip. Assumes nothing.
use Rattle.std.proofs.Common.{◌≡◌, ℕ, zero, suc, ◌<◌, ◌≤◌, true, ltb, List, [], ◌∷◌, ◌++◌, map, get_or, None, Ok, sym, refl, ap, ◌∙◌, subst, arith, lit<}
use Rattle.std.proofs.lemmas.Bool.{lt-ltb, ltb-true, cond-true}
use Rattle.script.specs.declared.parts.Direction.{Direction}
use Rattle.script.specs.declared.parts.Direction.TheVariants.{In, Out}
use Rattle.script.specs.declared.parts.Channel.{Channel}
use Rattle.refusal.specs.declared.Part.TheVariants as part
use Rattle.format.specs.declared.layout.Site.{Site}
use Rattle.format.specs.declared.layout.Field.{Field}
use Rattle.format.specs.Numbers.{Bytes}
use Rattle.format.specs.Encoding.{channel_widths, record_of, encode_channel}
use Rattle.format.specs.Rules.{broken, value_of, channel_rules, in_range, at}
use Rattle.format.specs.Reading.{channel_of, direction_of, site_at, read_channel}
use Rattle.script.specs.Kinds.{code_of}
use Rattle.format.proofs.Steps.{passed, all_kept}
use Rattle.format.proofs.Round.{Fit, read_record_lem, write_record}

pub at_value : (fs : List Field) (k : ℕ) → value_of (at fs k) ≡ get_or (map value_of fs) k 0
at_value [] k = refl
at_value (f ∷ fs) zero = refl
at_value (f ∷ fs) (suc k) = at_value fs k

direction_code : (d : Direction) → direction_of (code_of d) ≡ d
direction_code In = refl
direction_code Out = refl

code_direction : (v : ℕ) → v < 2 → code_of (direction_of v) ≡ v
code_direction zero h = refl
code_direction (suc zero) h = refl
code_direction (suc (suc v)) h = absurd (omega arith)

code_small : (d : Direction) → code_of d < 2
code_small In = lit< tt
code_small Out = lit< tt

-- the values of a channel fit their widths
pub channel_fit : (c : Channel) → c.level < 256 → Fit channel_widths (code_of c.direction ∷ c.level ∷ [])
channel_fit c lt = (omega (arith, code_small c.direction), (omega arith, tt))

-- a channel that is written is read again as it was
pub read_again : (end i n : ℕ) (c : Channel) (rest : List ℕ) → c.level < n → n ≤ 16 → read_channel end i n (encode_channel c ++ rest) ≡ Ok (c, rest)
read_again end i n c rest lt le =
    let s = site_at end (part.Channel i) (encode_channel c ++ rest) in
    let code = code_small c.direction in
    let r = read_record_lem channel_widths (channel_rules n) channel_of s (code_of c.direction ∷ c.level ∷ []) rest (omega arith, (omega arith, tt)) in
    let fs = r.0 in
    let v0 : value_of (at fs 0) ≡ code_of c.direction = at_value fs 0 ∙ ap (λ l. get_or l 0 0) r.1 in
    let v1 : value_of (at fs 1) ≡ c.level = at_value fs 1 ∙ ap (λ l. get_or l 1 0) r.1 in
    let t0 : ltb (value_of (at fs 0)) 2 ≡ true = lt-ltb _ _ (omega arith) in
    let t1 : ltb (value_of (at fs 1)) n ≡ true = lt-ltb _ _ (omega arith) in
    let made : channel_of fs ≡ c = simp (v0, v1, direction_code) in
    passed _ _ _ (c, rest) r.2 (cond-true _ _ _ t0 ∙ cond-true _ _ _ t1) (ap (λ x. (x, rest)) made)

two_values : (n : ℕ) (s : Site) (fs : List Field) (c : Channel) → Fit channel_widths (map value_of fs) → broken (channel_rules n s fs) ≡ None → channel_of fs ≡ c → (record_of channel_widths (map value_of fs) ≡ encode_channel c) × (c.level < n)
two_values n s [] c fit ok e = absurd fit
two_values n s (f ∷ []) c fit ok e = absurd fit.1
two_values n s (f ∷ g ∷ []) c fit ok e =
    let one = all_kept (in_range s (ltb (value_of f) 2) f) (in_range s (ltb (value_of g) n) g ∷ []) ok in
    let two = all_kept (in_range s (ltb (value_of g) n) g) [] one.1 in
    let level : value_of g ≡ c.level = ap (λ (x : Channel). x.level) e in
    let code : value_of f ≡ code_of c.direction = sym (code_direction _ (ltb-true _ _ one.0)) ∙ ap (λ (x : Channel). code_of x.direction) e in
    (ap (λ v. record_of channel_widths (v ∷ value_of g ∷ [])) code ∙ ap (λ v. record_of channel_widths (code_of c.direction ∷ v ∷ [])) level, subst (λ v. v < n) level (ltb-true _ _ two.0))
two_values n s (f ∷ g ∷ x ∷ fs) c fit ok e = absurd fit.1.1

-- what a channel is read from is what would be written for it
pub written_again : (end i n : ℕ) (c : Channel) (bs rest : List ℕ) → Bytes bs → read_channel end i n bs ≡ Ok (c, rest) → (encode_channel c ++ rest ≡ bs) × (c.level < n)
written_again end i n c bs rest h e =
    let r = write_record channel_widths (channel_rules n) channel_of (site_at end (part.Channel i) bs) bs rest c h e in
    let d = two_values n (site_at end (part.Channel i) bs) r.0 c r.2 r.3 r.4 in
    (ap (λ l. l ++ rest) (sym d.0) ∙ r.1, d.1)
