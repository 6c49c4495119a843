-- The laws of files and refusals. Assumes nothing.
use Rattle.std.proofs.Common.{◌≡◌, ℕ, ◌+◌, ◌-◌, ◌*◌, ◌<◌, ◌≤◌, ◌&&◌, leb, ◌⊎◌, List, [], ◌∷◌, ◌++◌, length, get_or, take, drop, Ok, Err, Result, sym, refl, ap, ◌∙◌, subst, inl, inr, ⊎_elim, arith, length-append, length-drop}
use mathlib.Core.Path.{fun_ext}
use Rattle.std.specs.List.{flat_map}
use Rattle.std.proofs.lemmas.List.{take-append-drop, length-take-le, drop_more, take_at}
use Rattle.std.proofs.ByRecursion.{All-take}
use Rattle.std.proofs.lemmas.Bool.{cases_eq, cases_Bool, cond-true, cond-false}
use Rattle.refusal.specs.Numbers.{number_of}
use Rattle.refusal.specs.declared.Refusal.{Refusal}
use Rattle.refusal.specs.declared.Refusal.TheVariants as why
use Rattle.refusal.specs.declared.Part.TheVariants as part
use Rattle.refusal.specs.declared.Fault.{Fault}
use Rattle.script.specs.declared.parts.Channel.{Channel}
use Rattle.script.specs.declared.parts.Instruction.{Instruction}
use Rattle.script.specs.declared.accepted.Script.{Script}
use Rattle.script.specs.Model.{Model, model_of, Accepted}
use Rattle.script.proofs.Held.{every_script_accepted, same_script}
use Rattle.format.specs.Numbers.{bytes_of, Bytes}
use Rattle.format.specs.Encoding.{encode, encode_model, encode_channel, encode_instruction, channel_widths, instruction_widths}
use Rattle.format.specs.Rules.{fault, channel_rules, instruction_rules}
use Rattle.format.specs.Reading.{and_then, read_file, read_tail, read_head, read_channels, read_channel, channel_of, read_count, read_instructions, read_instruction, instruction_of}
use Rattle.format.specs.Refusals.{Refused, Reads, ReadsBack, NoScript, ChannelsRight, InstructionsRight}
use Rattle.format.specs.Laws.{OneFile, OneRefusal, AcceptedOrRefused, AcceptedNotRefused, PrefixIsShort, TailExactly, AppendedSame, ByteWithin, EveryByteWithin, record_size, InItsRecord}
use Rattle.format.proofs.Fronts.{step, stop, and_then_err, from_instructions, from_count, from_channels, from_width}
use Rattle.format.proofs.Steady.{Told, Steady, steady_none, steady_then, steady_many, steady_head, steady_count, steady_channel, steady_instruction, record_told, channel_local, instruction_local}
use Rattle.format.proofs.Files.{file_read_again, file_read, refused_read, read_refused}
use Rattle.format.proofs.Encoded.{model_bytes, both_bytes}

-- a script's file is read as what the script holds
pub script_read_again : (s : Script) → read_file (encode s) ≡ Ok (model_of s)
script_read_again s = file_read_again (model_of s) (every_script_accepted s)

pub one_file : OneFile
one_file s t e =
    let same : ◌≡◌ {A = Result Model Fault} (Ok (model_of s)) (Ok (model_of t)) = sym (script_read_again s) ∙ ap read_file e ∙ script_read_again t in
    same_script s t (cc)

pub one_refusal : OneRefusal
one_refusal bs f g p q =
    let same : ◌≡◌ {A = Result Model Fault} (Err f) (Err g) = sym (refused_read bs f p) ∙ refused_read bs g q in
    cc

accepted_or : (bs : List ℕ) → Bytes bs → (r : Result Model Fault) → read_file bs ≡ r → ((s : Model) × Accepted s × (encode_model s ≡ bs)) ⊎ ((f : Fault) × Refused bs f)
accepted_or bs h (Ok s) e = let r = file_read bs s h e in inl (s, r.0, r.1)
accepted_or bs h (Err f) e = inr (f, read_refused bs f h e)

pub accepted_or_refused : AcceptedOrRefused
accepted_or_refused bs h = accepted_or bs h (read_file bs) refl

ok_not_err : (s : Model) (f : Fault) → ◌≡◌ {A = Result Model Fault} (Ok s) (Err f) → ⊥
ok_not_err s f e = let z : ◌≡◌ {A = ℕ} 0 1 = cc in omega arith

pub accepted_not_refused : AcceptedNotRefused
accepted_not_refused s f h r = ok_not_err s f (sym (file_read_again s h) ∙ refused_read (encode_model s) f r)

-- what the reader answers where reading, as a function, gives a model or a fault
pub reads_ok : (bs : List ℕ) (s : Script) → Bytes bs → read_file bs ≡ Ok (model_of s) → encode s ≡ bs
reads_ok bs s h e = (file_read bs (model_of s) h e).1

pub reads_err : (bs : List ℕ) (f : Fault) → Bytes bs → read_file bs ≡ Err f → Refused bs f × NoScript bs
reads_err bs f h e = (read_refused bs f h e, λ s d. ok_not_err (model_of s) f (sym (script_read_again s) ∙ ap read_file d ∙ e))

-- the refusal with the number 1
number_one : (r : Refusal) → number_of r ≡ 1 → r ≡ why.Short
number_one why.Short e = refl
number_one why.Head e = absurd (omega arith)
number_one why.Map e = absurd (omega arith)
number_one why.Zero e = absurd (omega arith)
number_one why.Range e = absurd (omega arith)
number_one why.Tail e = absurd (omega arith)
number_one why.Order e = absurd (omega arith)
number_one why.Levels e = absurd (omega arith)
number_one why.Channels e = absurd (omega arith)
number_one why.Channel e = absurd (omega arith)
number_one why.Direction e = absurd (omega arith)
number_one why.Level e = absurd (omega arith)
number_one why.Buffer e = absurd (omega arith)
number_one why.Full e = absurd (omega arith)
number_one why.Empty e = absurd (omega arith)
number_one why.Spent e = absurd (omega arith)

-- a refusal is 1 or another
short_or_not : (r : Refusal) → (r ≡ why.Short) ⊎ (r ≡ why.Short → ⊥)
short_or_not r = ⊎_elim (λ e. inl (number_one r e)) (λ n. inr (λ e. n (ap number_of e))) (cases_eq (number_of r) 1)

-- a fault in anything but the tail lies where its reader was
told_within : (bs : List ℕ) (low : ℕ) (f : Fault) → Told low (length bs) f → ByteWithin bs f
told_within bs low f t = record { within = ⊎_elim (λ s. omega (arith, t.at_end s)) (λ n. omega (arith, t.before n)) (short_or_not f.refusal); at_end = t.at_end; before = t.before }

from_start : (end low : ℕ) (f : Fault) → Told low end f → Told 0 end f
from_start end low f t = record { after = omega arith; at_end = t.at_end; before = t.before; no_tail = t.no_tail }

-- what follows a right front is no longer than the file
pub channels_room : (bs : List ℕ) (n c : ℕ) (cs : List Channel) (rest : List ℕ) → ChannelsRight bs n c cs rest → length rest ≤ length bs
channels_room bs n c cs rest r = omega (arith, ap length r.bytes, length-append (flat_map encode_channel cs) rest)

pub instructions_room : (bs : List ℕ) (n : ℕ) (cs : List Channel) (m : ℕ) (is : List Instruction) (rest : List ℕ) → InstructionsRight bs n cs m is rest → length rest ≤ length bs
instructions_room bs n cs m is rest r =
    omega (arith, ap length r.bytes, length-append (flat_map encode_channel cs) (bytes_of 2 m ++ (flat_map encode_instruction is ++ rest)), length-append (flat_map encode_instruction is) rest)

-- what a refusal's fault tells: where its reader was, or the end of an accepted file
pub refused_told : (bs : List ℕ) (f : Fault) → Refused bs f → Told 0 (length bs) f ⊎ ((s : Model) × (b : ℕ) × (rest : List ℕ) × Accepted s × (bs ≡ encode_model s ++ (b ∷ rest)) × (f ≡ fault why.Tail (length (encode_model s)) part.Tail))
refused_told bs f (Refused.in_levels e) = inl (from_start (length bs) (length bs - length bs) f ((steady_head 1 16).told (length bs) bs f (omega arith) e))
refused_told bs f (Refused.in_width n rest e low high g) = inl (from_start (length bs) _ f ((steady_head 0 16).told (length bs) rest f (omega (arith, ap length e)) g))
refused_told bs f (Refused.in_channel n c cs rest r lt g) = inl (from_start (length bs) _ f ((steady_channel n (length cs)).told (length bs) rest f (channels_room bs n c cs rest r) g))
refused_told bs f (Refused.in_count n cs rest r g) = inl (from_start (length bs) _ f (steady_count.told (length bs) rest f (channels_room bs n (length cs) cs rest r) g))
refused_told bs f (Refused.in_instruction n cs m is rest r lt g) = inl (from_start (length bs) _ f ((steady_instruction cs m (length is)).told (length bs) rest f (instructions_room bs n cs m is rest r) g))
refused_told bs f (Refused.in_tail s b rest h e g) = inr (s, b, rest, h, e, g)

pub every_byte_within : EveryByteWithin
every_byte_within bs f r =
    ⊎_elim
    (λ t. told_within bs 0 f t)
    (λ t.
    let s = t.0 in
    let byte : f.byte ≡ length (encode_model s) = ap (λ (g : Fault). g.byte) t.5 in
    let refusal : f.refusal ≡ why.Tail = ap (λ (g : Fault). g.refusal) t.5 in
    let inside : f.byte < length bs = omega (arith, ap length t.4, length-append (encode_model s) (t.1 ∷ t.2), byte) in
    record { within = omega arith; at_end = λ e. let z : ◌≡◌ {A = ℕ} 0 1 = cc in absurd (omega arith); before = λ _. inside })
    (refused_told bs f r)

pub tail_exactly : TailExactly
tail_exactly = record {
  told = λ bs f h r e.
      ⊎_elim
      (λ t. absurd (t.no_tail e))
      (λ t.
      let s = t.0 in
      let byte : f.byte ≡ length (encode_model s) = ap (λ (g : Fault). g.byte) t.5 in
      let front : take f.byte bs ≡ encode_model s = ap (λ k. take k bs) byte ∙ ap (take (length (encode_model s))) t.4 ∙ take_at (encode_model s) (t.1 ∷ t.2) (length (encode_model s)) refl in
      (ap (λ (g : Fault). g.part) t.5, (every_byte_within bs f r).before (λ d. let u = sym e ∙ d in let z : ◌≡◌ {A = ℕ} 0 1 = cc in absurd (omega arith)), (s, t.3, sym front)))
      (refused_told bs f r);
  found = λ bs s p h lt e.
      let rest = drop_more bs p 0 lt in
      let whole : bs ≡ encode_model s ++ (get_or bs p 0 ∷ drop (p + 1) bs) = sym (take-append-drop p bs) ∙ ap (λ l. l ++ drop p bs) (sym e) ∙ ap (λ l. encode_model s ++ l) rest in
      let size : p ≡ length (encode_model s) = sym (length-take-le p bs (omega arith)) ∙ ap length (sym e) in
      Refused.in_tail s (get_or bs p 0) (drop (p + 1) bs) h whole (ap (λ k. fault why.Tail k part.Tail) size);
}

-- a file but for its tail: the model, and what is left
abbrev body_instructions : ℕ → List Channel → ℕ → ℕ → List ℕ → Result (Model × List ℕ) Fault
body_instructions n cs m end bs = and_then (read_instructions end cs m bs) (λ is. Ok (record { levels = n; channels = cs; instructions = is.0 }, is.1))

abbrev body_count : ℕ → List Channel → ℕ → List ℕ → Result (Model × List ℕ) Fault
body_count n cs end bs = and_then (read_count end bs) (λ m. body_instructions n cs m.0 end m.1)

abbrev body_channels : ℕ → ℕ → ℕ → List ℕ → Result (Model × List ℕ) Fault
body_channels n c end bs = and_then (read_channels end n c bs) (λ cs. body_count n cs.0 end cs.1)

abbrev body_width : ℕ → ℕ → List ℕ → Result (Model × List ℕ) Fault
body_width n end bs = and_then (read_head end 0 16 bs) (λ c. body_channels n c.0 end c.1)

abbrev body_file : ℕ → List ℕ → Result (Model × List ℕ) Fault
body_file end bs = and_then (read_head end 1 16 bs) (λ n. body_width n.0 end n.1)

steady_instructions : (cs : List Channel) (m : ℕ) → Steady (λ end bs. read_instructions end cs m bs)
steady_instructions cs m = steady_many (λ end i bs. read_instruction end i cs m bs) (steady_instruction cs m) m 0

steady_channels : (n c : ℕ) → Steady (λ end bs. read_channels end n c bs)
steady_channels n c = steady_many (λ end i bs. read_channel end i n bs) (steady_channel n) c 0

steady_file : Steady body_file
steady_file =
    steady_then (λ end bs. read_head end 1 16 bs) body_width (steady_head 1 16) (λ n.
    steady_then (λ end bs. read_head end 0 16 bs) (body_channels n) (steady_head 0 16) (λ c.
    steady_then (λ end bs. read_channels end n c bs) (body_count n) (steady_channels n c) (λ cs.
    steady_then read_count (body_instructions n cs) steady_count (λ m.
    steady_then (λ end bs. read_instructions end cs m bs) (λ is end bs. Ok (record { levels = n; channels = cs; instructions = is }, bs)) (steady_instructions cs m) (λ is.
    steady_none (record { levels = n; channels = cs; instructions = is }))))))

-- steps may be joined in any order
regrouped : {X Y Z E : Type 0} (r : Result X E) (k : X → Result Y E) (l : Y → Result Z E) → and_then (and_then r k) l ≡ and_then r (λ x. and_then (k x) l)
regrouped (Ok x) k l = refl
regrouped (Err e) k l = refl

-- a file is its body and its tail
abbrev tail_of : ℕ → Model × List ℕ → Result Model Fault
tail_of end y = read_tail end y.0 y.1

whole_instructions : (end n : ℕ) (cs : List Channel) (m : ℕ) (bs : List ℕ) → and_then (body_instructions n cs m end bs) (tail_of end) ≡ from_instructions end n cs m bs
whole_instructions end n cs m bs = regrouped (read_instructions end cs m bs) (λ is. Ok (record { levels = n; channels = cs; instructions = is.0 }, is.1)) (tail_of end)

whole_count : (end n : ℕ) (cs : List Channel) (bs : List ℕ) → and_then (body_count n cs end bs) (tail_of end) ≡ from_count end n cs bs
whole_count end n cs bs = regrouped (read_count end bs) (λ m. body_instructions n cs m.0 end m.1) (tail_of end) ∙ ap (and_then (read_count end bs)) (fun_ext (λ m. whole_instructions end n cs m.0 m.1))

whole_channels : (end n c : ℕ) (bs : List ℕ) → and_then (body_channels n c end bs) (tail_of end) ≡ from_channels end n c bs
whole_channels end n c bs = regrouped (read_channels end n c bs) (λ cs. body_count n cs.0 end cs.1) (tail_of end) ∙ ap (and_then (read_channels end n c bs)) (fun_ext (λ cs. whole_count end n cs.0 cs.1))

whole_width : (end n : ℕ) (bs : List ℕ) → and_then (body_width n end bs) (tail_of end) ≡ from_width end n bs
whole_width end n bs = regrouped (read_head end 0 16 bs) (λ c. body_channels n c.0 end c.1) (tail_of end) ∙ ap (and_then (read_head end 0 16 bs)) (fun_ext (λ c. whole_channels end n c.0 c.1))

whole_file : (bs : List ℕ) → and_then (body_file (length bs) bs) (tail_of (length bs)) ≡ read_file bs
whole_file bs = regrouped (read_head (length bs) 1 16 bs) (λ n. body_width n.0 (length bs) n.1) (tail_of (length bs)) ∙ ap (and_then (read_head (length bs) 1 16 bs)) (fun_ext (λ n. whole_width (length bs) n.0 n.1))

-- a fault of the body that is not 1 stays, whatever is appended
body_stays : (bs more : List ℕ) (f : Fault) → body_file (length bs) bs ≡ Err f → (f.refusal ≡ why.Short → ⊥) → read_file (bs ++ more) ≡ Err f
body_stays bs more f e ns =
    let end : length bs + length more ≡ length (bs ++ more) = sym (length-append bs more) in
    sym (whole_file (bs ++ more)) ∙ stop _ f (tail_of (length (bs ++ more))) (subst (λ k. body_file k (bs ++ more) ≡ Err f) end (steady_file.err_more (length bs) bs more f e ns))

-- a body that is read is read again, and its rest is longer
body_goes_on : (bs more : List ℕ) (s : Model) (r : List ℕ) → body_file (length bs) bs ≡ Ok (s, r) → read_file (bs ++ more) ≡ read_tail (length (bs ++ more)) s (r ++ more)
body_goes_on bs more s r e =
    let end : length bs + length more ≡ length (bs ++ more) = sym (length-append bs more) in
    sym (whole_file (bs ++ more)) ∙ step _ _ (tail_of (length (bs ++ more))) (subst (λ k. body_file k (bs ++ more) ≡ Ok (s, r ++ more)) end (steady_file.ok_more (length bs) bs more s r e))

tail_six : (end : ℕ) (s : Model) (r : List ℕ) (f : Fault) → read_tail end s r ≡ Err f → f.refusal ≡ why.Tail
tail_six end s [] f e = absurd (ok_not_err s f e)
tail_six end s (b ∷ r) f e = let told : fault why.Tail (end - length (b ∷ r)) part.Tail ≡ f = cc in sym (ap (λ (g : Fault). g.refusal) told)

pub appended_same : AppendedSame
appended_same bs more f hb hm r low high =
    let e = refused_read bs f r in
    let ns : f.refusal ≡ why.Short → ⊥ = λ d. let n = ap number_of d in omega arith in
    let stays : read_file (bs ++ more) ≡ Err f =
    ⊎_elim
    (λ u. body_stays bs more f u ns)
    (λ u. let n = ap number_of (tail_six (length bs) u.0.0 u.0.1 f u.2) in absurd (omega arith))
    (and_then_err (body_file (length bs) bs) (tail_of (length bs)) f (whole_file bs ∙ e)) in
    read_refused (bs ++ more) f (both_bytes bs more hb hm) stays

long_tail : (end : ℕ) (s t : Model) (r : List ℕ) → 0 < length r → read_tail end s r ≡ Ok t → ⊥
long_tail end s t [] lt e = omega arith
long_tail end s t (b ∷ r) lt e = let z : ◌≡◌ {A = ℕ} 0 1 = cc in omega arith

module _ (s : Model) (h : Accepted s) (bs more : List ℕ) (whole : bs ++ more ≡ encode_model s) (longer : 0 < length more) where
  reads_whole : read_file (bs ++ more) ≡ Ok s
  reads_whole = ap read_file whole ∙ file_read_again s h

  -- the body of a proper prefix is refused with 1
  body_short : (r : Result (Model × List ℕ) Fault) → body_file (length bs) bs ≡ r → (f : Fault) × (read_file bs ≡ Err f) × (f.refusal ≡ why.Short)
  body_short (Ok x) e = absurd (long_tail (length (bs ++ more)) x.0 s (x.1 ++ more) (omega (arith, length-append x.1 more)) (sym (body_goes_on bs more x.0 x.1 e) ∙ reads_whole))
  body_short (Err f) e =
      ⊎_elim
      (λ d. (f, sym (whole_file bs) ∙ stop _ f (tail_of (length bs)) e, d))
      (λ ns. absurd (ok_not_err s f (sym reads_whole ∙ body_stays bs more f e ns)))
      (short_or_not f.refusal)

pub prefix_is_short : PrefixIsShort
prefix_is_short s p h lt =
    let file = encode_model s in
    let bs = take p file in
    let size : length bs ≡ p = length-take-le p file (omega arith) in
    let longer : 0 < length (drop p file) = omega (arith, length-drop p file) in
    let r = body_short s h bs (drop p file) (take-append-drop p file) longer (body_file (length bs) bs) refl in
    let f = r.0 in
    let refused = read_refused bs f (All-take (λ b. b < 256) p file (model_bytes s h)) r.1 in
    let byte : f.byte ≡ p = (every_byte_within bs f refused).at_end r.2 ∙ size in
    let told : f ≡ fault why.Short p f.part = ap (λ w. fault w f.byte f.part) r.2 ∙ ap (λ k. fault why.Short k f.part) byte in
    (f.part, subst (Refused bs) told refused)

-- the part that a head's or the count's fault names
head_part : (end low high : ℕ) (bs : List ℕ) (f : Fault) → read_head end low high bs ≡ Err f → f.part ≡ part.Head
head_part end low high [] f e = let told : fault why.Short end part.Head ≡ f = cc in sym (ap (λ (g : Fault). g.part) told)
head_part end low high (b ∷ bs) f e =
    ⊎_elim
    (λ t. let d = sym (cond-true _ _ _ t) ∙ e in let z : ◌≡◌ {A = ℕ} 0 1 = cc in absurd (omega arith))
    (λ t. let d = sym (cond-false _ _ _ t) ∙ e in let told : fault why.Head (end - length (b ∷ bs)) part.Head ≡ f = cc in sym (ap (λ (g : Fault). g.part) told))
    (cases_Bool (leb low b && leb b high))

count_part : (end : ℕ) (bs : List ℕ) (f : Fault) → read_count end bs ≡ Err f → f.part ≡ part.Count
count_part end [] f e = let told : fault why.Short end part.Count ≡ f = cc in sym (ap (λ (g : Fault). g.part) told)
count_part end (a ∷ []) f e = let told : fault why.Short end part.Count ≡ f = cc in sym (ap (λ (g : Fault). g.part) told)
count_part end (a ∷ b ∷ bs) f e =
    let m = a + b * 256 in
    ⊎_elim
    (λ t. let d = sym (cond-true _ _ _ t) ∙ e in let z : ◌≡◌ {A = ℕ} 0 1 = cc in absurd (omega arith))
    (λ t. let d = sym (cond-false _ _ _ t) ∙ e in let told : fault why.Head (end - length (a ∷ b ∷ bs)) part.Count ≡ f = cc in sym (ap (λ (g : Fault). g.part) told))
    (cases_Bool (leb 1 m && leb m 256))

in_channel_record : (bs : List ℕ) (f : Fault) (i : ℕ) → Refused bs f → f.part ≡ part.Channel i → (n c : ℕ) × (cs : List Channel) × (rest : List ℕ) × ChannelsRight bs n c cs rest × (length cs ≡ i) × (i < c) × (length bs - length rest ≤ f.byte) × (f.byte < length bs - length rest + record_size channel_widths rest)
in_channel_record bs f i (Refused.in_levels e) p = let q = head_part (length bs) 1 16 bs f e in let z : ◌≡◌ {A = ℕ} 0 1 = cc in absurd (omega arith)
in_channel_record bs f i (Refused.in_width n rest e low high g) p = let q = head_part (length bs) 0 16 rest f g in let z : ◌≡◌ {A = ℕ} 0 1 = cc in absurd (omega arith)
in_channel_record bs f i (Refused.in_channel n c cs rest r lt g) p =
    let l = record_told channel_widths (channel_rules n) channel_of (channel_local n) (part.Channel (length cs)) (length bs) rest f (channels_room bs n c cs rest r) g in
    let q = l.part_is in
    let same : length cs ≡ i = cc in
    (n, c, cs, rest, r, same, omega arith, l.after, l.within)
in_channel_record bs f i (Refused.in_count n cs rest r g) p = let q = count_part (length bs) rest f g in let z : ◌≡◌ {A = ℕ} 0 1 = cc in absurd (omega arith)
in_channel_record bs f i (Refused.in_instruction n cs m is rest r lt g) p =
    let q = (record_told instruction_widths (instruction_rules cs m) instruction_of (instruction_local cs m) (part.Instruction (length is)) (length bs) rest f (instructions_room bs n cs m is rest r) g).part_is in
    let z : ◌≡◌ {A = ℕ} 0 1 = cc in absurd (omega arith)
in_channel_record bs f i (Refused.in_tail s b rest h e g) p = let q = ap (λ (g : Fault). g.part) g in let z : ◌≡◌ {A = ℕ} 0 1 = cc in absurd (omega arith)

in_instruction_record : (bs : List ℕ) (f : Fault) (i : ℕ) → Refused bs f → f.part ≡ part.Instruction i → (n : ℕ) × (cs : List Channel) × (m : ℕ) × (is : List Instruction) × (rest : List ℕ) × InstructionsRight bs n cs m is rest × (length is ≡ i) × (i < m) × (length bs - length rest ≤ f.byte) × (f.byte < length bs - length rest + record_size instruction_widths rest)
in_instruction_record bs f i (Refused.in_levels e) p = let q = head_part (length bs) 1 16 bs f e in let z : ◌≡◌ {A = ℕ} 0 1 = cc in absurd (omega arith)
in_instruction_record bs f i (Refused.in_width n rest e low high g) p = let q = head_part (length bs) 0 16 rest f g in let z : ◌≡◌ {A = ℕ} 0 1 = cc in absurd (omega arith)
in_instruction_record bs f i (Refused.in_channel n c cs rest r lt g) p =
    let q = (record_told channel_widths (channel_rules n) channel_of (channel_local n) (part.Channel (length cs)) (length bs) rest f (channels_room bs n c cs rest r) g).part_is in
    let z : ◌≡◌ {A = ℕ} 0 1 = cc in absurd (omega arith)
in_instruction_record bs f i (Refused.in_count n cs rest r g) p = let q = count_part (length bs) rest f g in let z : ◌≡◌ {A = ℕ} 0 1 = cc in absurd (omega arith)
in_instruction_record bs f i (Refused.in_instruction n cs m is rest r lt g) p =
    let l = record_told instruction_widths (instruction_rules cs m) instruction_of (instruction_local cs m) (part.Instruction (length is)) (length bs) rest f (instructions_room bs n cs m is rest r) g in
    let q = l.part_is in
    let same : length is ≡ i = cc in
    (n, cs, m, is, rest, r, same, omega arith, l.after, l.within)
in_instruction_record bs f i (Refused.in_tail s b rest h e g) p = let q = ap (λ (g : Fault). g.part) g in let z : ◌≡◌ {A = ℕ} 0 1 = cc in absurd (omega arith)

pub in_its_record : InItsRecord
in_its_record = record { channel = in_channel_record; instruction = in_instruction_record }

-- a script's file is read back as that script
pub read_back : (bs : List ℕ) (r : Result Script Fault) → Reads bs r → ReadsBack bs r
read_back bs (Ok t) e s d = ap Ok (one_file t s (e ∙ sym d))
read_back bs (Err f) e s d = absurd (e.1 s d)
