-- The file's round trip, and reading as a function against the first fault as a relation. Assumes nothing.
use Rattle.std.proofs.Common.{◌≡◌, ℕ, ◌+◌, ◌-◌, ◌<◌, true, List, [], ◌∷◌, ◌++◌, length, Ok, Err, sym, refl, ap, ◌∙◌, subst, ⊎_elim, append-nil, arith, length-append}
use Rattle.refusal.specs.declared.Refusal.TheVariants as why
use Rattle.refusal.specs.declared.Part.TheVariants as part
use Rattle.refusal.specs.declared.Fault.{Fault}
use Rattle.script.specs.declared.parts.Channel.{Channel}
use Rattle.script.specs.declared.parts.Instruction.{Instruction}
use Rattle.script.specs.Laws.{sound}
use Rattle.script.specs.Model.{Model, Accepted}
use Rattle.format.specs.Numbers.{bytes_of, Bytes}
use Rattle.format.specs.Encoding.{encode_channel, encode_instruction, encode_model}
use Rattle.format.specs.Rules.{fault}
use Rattle.format.specs.Reading.{and_then, read_channel, read_instruction, read_head, read_count, read_tail, read_channels, read_instructions, read_file}
use Rattle.format.specs.Refusals.{ChannelsRight, InstructionsRight, Refused}
use Rattle.format.proofs.Round.{and_then_ok}
use Rattle.format.proofs.Fronts.{stop, and_then_err, bytes_after, many_stopped, head_read, head_ok, count_ok, channels_stop, instructions_stop, from_tail, from_instructions, from_count, from_channels, from_width, from_levels, past_head, past_channels, past_count, past_instructions, channels_stand, head_bytes, channel_each, instruction_each, channels_stood, instructions_stand, instructions_stood, model_right, right_model}

-- an accepted model that is written is read again as it was
pub file_read_again : (s : Model) → Accepted s → read_file (encode_model s) ≡ Ok s
file_read_again s h =
    let r = right_model s [] h in
    let whole = append-nil (encode_model s) in
    ap (from_levels (length (encode_model s))) (sym whole) ∙ past_instructions (length (encode_model s)) (encode_model s ++ []) s.levels s.channels s.instructions [] r

tail_ok : {X : Type 0} (end : ℕ) (x y : X) (bs : List ℕ) → read_tail end x bs ≡ Ok y → ([] ≡ bs) × (x ≡ y)
tail_ok end x y [] e = (refl, cc)
tail_ok end x y (b ∷ bs) e = let z : ◌≡◌ {A = ℕ} 0 1 = cc in absurd (omega arith)

-- what is read is an accepted model, and the file is its file
pub file_read : (bs : List ℕ) (s : Model) → Bytes bs → read_file bs ≡ Ok s → Accepted s × (encode_model s ≡ bs)
file_read bs s h e =
    let end = length bs in
    let a = and_then_ok (read_head end 1 16 bs) (λ n. from_width end n.0 n.1) s e in
    let n = a.0 in
    let b = and_then_ok (read_head end 0 16 n.1) (λ c. from_channels end n.0 c.0 c.1) s a.2 in
    let c = b.0 in
    let d = and_then_ok (read_channels end n.0 c.0 c.1) (λ cs. from_count end n.0 cs.0 cs.1) s b.2 in
    let cs = d.0 in
    let f = and_then_ok (read_count end cs.1) (λ m. from_instructions end n.0 cs.0 m.0 m.1) s d.2 in
    let m = f.0 in
    let g = and_then_ok (read_instructions end cs.0 m.0 m.1) (λ is. from_tail end n.0 cs.0 is.0 is.1) s f.2 in
    let is = g.0 in
    let t = tail_ok end _ s is.1 g.2 in
    let front = channels_stood end bs n.0 n.1 c.0 c.1 cs.0 cs.1 h a.1 b.1 d.1 in
    let right = instructions_stood bs n.0 cs.0 cs.1 end m.0 m.1 is.0 is.1 front.2 front.0 f.1 g.1 in
    let both = model_right bs n.0 cs.0 is.0 is.1 right in (
      subst Accepted t.1 both.0,
      sym (append-nil (encode_model s)) ∙ ap (λ l. encode_model s ++ l) t.0 ∙ subst (λ x. encode_model x ++ is.1 ≡ bs) t.1 both.1,
    )

-- the first fault, as a relation, is what reading answers
pub refused_read : (bs : List ℕ) (f : Fault) → Refused bs f → read_file bs ≡ Err f
refused_read bs f (Refused.in_levels e) = stop _ f _ e
refused_read bs f (Refused.in_width n rest e low high g) =
    let end = length bs in
    ap (from_levels end) e ∙ ap (λ r. and_then r (λ n. from_width end n.0 n.1)) (head_read end 1 16 n rest low high) ∙ stop _ f (λ c. from_channels end n c.0 c.1) g
refused_read bs f (Refused.in_channel n c cs rest r lt g) =
    let end = length bs in
    ap (from_levels end) r.bytes
    ∙ past_head end n c _ r.headed
    ∙ stop _ f (λ x. from_count end n x.0 x.1) (channels_stop end n r.headed.1 cs c rest f r.below lt g)
refused_read bs f (Refused.in_count n cs rest r g) = past_channels (length bs) bs n cs rest r ∙ stop _ f (λ m. from_instructions (length bs) n cs m.0 m.1) g
refused_read bs f (Refused.in_instruction n cs m is rest r lt g) =
    past_count (length bs) bs n cs m is rest r
    ∙ stop _ f (λ x. from_tail (length bs) n cs x.0 x.1) (instructions_stop (length bs) cs m r.headed.2 r.counted.1 is rest f r.sound lt g)
refused_read bs f (Refused.in_tail s b rest h e g) =
    let end = length bs in
    let place : end - length (b ∷ rest) ≡ length (encode_model s) = omega (arith, ap length e, length-append (encode_model s) (b ∷ rest)) in
    ap (from_levels end) e
    ∙ past_instructions end (encode_model s ++ (b ∷ rest)) s.levels s.channels s.instructions (b ∷ rest) (right_model s (b ∷ rest) h)
    ∙ ap (λ p. Err (fault why.Tail p part.Tail)) place
    ∙ ap Err (sym g)

-- and what reading answers is the first fault
module _ (bs : List ℕ) (f : Fault) (h : Bytes bs) where
  from_tail_lem : (n : ℕ) (cs : List Channel) (is : List Instruction) (rest : List ℕ) → InstructionsRight bs n cs (length is) is rest → from_tail (length bs) n cs is rest ≡ Err f → Refused bs f
  from_tail_lem n cs is [] r e = let z : ◌≡◌ {A = ℕ} 0 1 = cc in absurd (omega arith)
  from_tail_lem n cs is (b ∷ rest) r e =
      let s : Model = record { levels = n; channels = cs; instructions = is } in
      let both = model_right bs n cs is (b ∷ rest) r in
      let place : length bs - length (b ∷ rest) ≡ length (encode_model s) = omega (arith, ap length both.1, length-append (encode_model s) (b ∷ rest)) in
      let told : fault why.Tail (length bs - length (b ∷ rest)) part.Tail ≡ f = cc in
      Refused.in_tail s b rest both.0 (sym both.1) (sym told ∙ ap (λ p. fault why.Tail p part.Tail) place)

  from_instructions_lem : (n : ℕ) (cs : List Channel) (r3 : List ℕ) (m : ℕ) (r4 : List ℕ) → Bytes r3 → ChannelsRight bs n (length cs) cs r3 → read_count (length bs) r3 ≡ Ok (m, r4) → from_instructions (length bs) n cs m r4 ≡ Err f → Refused bs f
  from_instructions_lem n cs r3 m r4 h3 r e4 e =
      let end = length bs in
      let h4 = bytes_after (bytes_of 2 m) r4 r3 (count_ok end r3 m r4 h3 e4).0 h3 in
      ⊎_elim
      (λ g.
      let w = many_stopped (λ i bs. read_instruction end i cs m bs) encode_instruction (λ x. sound cs (length cs) m x ≡ true) (instruction_each end cs m) m 0 r4 f h4 g in
      let place : 0 + length w.0 ≡ length w.0 = omega arith in
      Refused.in_instruction n cs m w.0 w.1 (instructions_stand bs n cs r3 end m r4 h3 r e4 w.0 w.1 w.2 w.3) w.4 (subst (λ j. read_instruction end j cs m w.1 ≡ Err f) place w.5))
      (λ g. from_tail_lem n cs g.0.0 g.0.1 (instructions_stood bs n cs r3 end m r4 g.0.0 g.0.1 h3 r e4 g.1) g.2)
      (and_then_err (read_instructions end cs m r4) (λ x. from_tail end n cs x.0 x.1) f e)

  from_count_lem : (n : ℕ) (cs : List Channel) (r3 : List ℕ) → Bytes r3 → ChannelsRight bs n (length cs) cs r3 → from_count (length bs) n cs r3 ≡ Err f → Refused bs f
  from_count_lem n cs r3 h3 r e =
      ⊎_elim
      (λ g. Refused.in_count n cs r3 r g)
      (λ g. from_instructions_lem n cs r3 g.0.0 g.0.1 h3 r g.1 g.2)
      (and_then_err (read_count (length bs) r3) (λ m. from_instructions (length bs) n cs m.0 m.1) f e)

  from_channels_lem : (n : ℕ) (r1 : List ℕ) (c : ℕ) (r2 : List ℕ) → read_head (length bs) 1 16 bs ≡ Ok (n, r1) → read_head (length bs) 0 16 r1 ≡ Ok (c, r2) → from_channels (length bs) n c r2 ≡ Err f → Refused bs f
  from_channels_lem n r1 c r2 e1 e2 e =
      let end = length bs in
      let h2 = head_bytes end bs n r1 c r2 e1 e2 h in
      ⊎_elim
      (λ g.
      let w = many_stopped (λ i bs. read_channel end i n bs) encode_channel (λ c. c.level < n) (channel_each end n) c 0 r2 f h2 g in
      let place : 0 + length w.0 ≡ length w.0 = omega arith in
      Refused.in_channel n c w.0 w.1 (channels_stand end bs n r1 c r2 e1 e2 w.0 w.1 w.2 w.3) w.4 (subst (λ j. read_channel end j n w.1 ≡ Err f) place w.5))
      (λ g.
      let r = channels_stood end bs n r1 c r2 g.0.0 g.0.1 h e1 e2 g.1 in
      from_count_lem n g.0.0 g.0.1 r.2 r.0 g.2)
      (and_then_err (read_channels end n c r2) (λ x. from_count end n x.0 x.1) f e)

  from_width_lem : (n : ℕ) (r1 : List ℕ) → read_head (length bs) 1 16 bs ≡ Ok (n, r1) → from_width (length bs) n r1 ≡ Err f → Refused bs f
  from_width_lem n r1 e1 e =
      let a = head_ok (length bs) 1 16 bs n r1 e1 in
      ⊎_elim
      (λ g. Refused.in_width n r1 (sym a.0) a.1 a.2 g)
      (λ g. from_channels_lem n r1 g.0.0 g.0.1 e1 g.1 g.2)
      (and_then_err (read_head (length bs) 0 16 r1) (λ c. from_channels (length bs) n c.0 c.1) f e)

  pub read_refused : read_file bs ≡ Err f → Refused bs f
  read_refused e =
      ⊎_elim
      (λ g. Refused.in_levels g)
      (λ g. from_width_lem g.0.0 g.0.1 g.1 g.2)
      (and_then_err (read_head (length bs) 1 16 bs) (λ n. from_width (length bs) n.0 n.1) f e)
