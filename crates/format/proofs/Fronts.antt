-- Records one after another, and the front of a file up to each stage of its reading. Assumes nothing.
use Rattle.std.proofs.Common.{◌≡◌, ℕ, zero, suc, ◌+◌, ◌*◌, ◌/◌, ◌%◌, ◌<◌, ◌≤◌, true, false, ◌&&◌, leb, ◌⊎◌, List, [], ◌∷◌, ◌++◌, length, Ok, Err, Result, sym, refl, ap, ◌∙◌, subst, inl, inr, ⊎_elim, append_assoc, arith}
use Rattle.std.specs.List.{flat_map, AllByRecursion}
use Rattle.std.proofs.lemmas.Bool.{le-leb, leb-true, and_from, and_parts, cond-true, cond-false, cases_Bool}
use Rattle.std.proofs.ByRecursion.{All-get_or, All-from_get_or}
use Rattle.refusal.specs.declared.Fault.{Fault}
use Rattle.script.specs.declared.parts.Channel.{Channel}
use Rattle.script.specs.declared.parts.Instruction.{Instruction}
use Rattle.script.specs.declared.parts.Instruction.TheVariants.{Skip}
use Rattle.script.specs.Laws.{blank, sound, Headed, Counted, Below, Sound}
use Rattle.script.specs.Model.{Model, Accepted}
use Rattle.format.specs.Numbers.{bytes_of, Bytes}
use Rattle.format.specs.Encoding.{encode_channel, encode_instruction, encode_model}
use Rattle.format.specs.Reading.{and_then, read_channel, read_instruction, read_many, read_head, read_count, read_tail, read_channels, read_instructions}
use Rattle.format.specs.Refusals.{ChannelsRight, InstructionsRight}
use Rattle.format.proofs.Round.{and_then_ok, parts}
use Rattle.format.proofs.Channels.{read_again, written_again}
use Rattle.format.proofs.Instructions.{instruction_read_again, instruction_written_again, instruction_sound}

-- a step that is right, and one that is not
pub step : {X Y E : Type 0} (r : Result X E) (x : X) (k : X → Result Y E) → r ≡ Ok x → and_then r k ≡ k x
step r x k e = ap (λ r. and_then r k) e

pub stop : {X Y E : Type 0} (r : Result X E) (f : E) (k : X → Result Y E) → r ≡ Err f → and_then r k ≡ Err f
stop r f k e = ap (λ r. and_then r k) e

-- a fault comes from the first step or from what follows
pub and_then_err : {X Y E : Type 0} (r : Result X E) (k : X → Result Y E) (f : E) → and_then r k ≡ Err f → (r ≡ Err f) ⊎ ((x : X) × (r ≡ Ok x) × (k x ≡ Err f))
and_then_err (Ok x) k f e = inr (x, refl, e)
and_then_err (Err g) k f e = inl (cc)

pub bytes_after : (a b bs : List ℕ) → a ++ b ≡ bs → Bytes bs → Bytes b
bytes_after [] b bs e h = subst Bytes (sym e) h
bytes_after (x ∷ a) b bs e h = bytes_after a b (a ++ b) refl (subst Bytes (sym e) h).1

module _ {X : Type 0} (one : ℕ → List ℕ → Result (X × List ℕ) Fault) (enc : X → List ℕ) (P : X → Type 0) where
  -- records that are written are read again
  module _ (each : (i : ℕ) (x : X) (rest : List ℕ) → P x → one i (enc x ++ rest) ≡ Ok (x, rest)) where
    pub many_read : (xs : List X) (i : ℕ) (rest : List ℕ) → AllByRecursion P xs → read_many one (length xs) i (flat_map enc xs ++ rest) ≡ Ok (xs, rest)
    many_read [] i rest h = refl
    many_read (x ∷ xs) i rest h =
        let a = each i x (flat_map enc xs ++ rest) h.0 in
        let b = many_read xs (i + 1) rest h.1 in
        rw append_assoc (simp (a, b))

    -- and then one that is refused
    pub many_stops : (xs : List X) (n i j : ℕ) (rest : List ℕ) (f : Fault) → AllByRecursion P xs → length xs < n → j ≡ i + length xs → one j rest ≡ Err f → read_many one n i (flat_map enc xs ++ rest) ≡ Err f
    many_stops [] zero i j rest f h lt e g = absurd (omega arith)
    many_stops [] (suc n) i j rest f h lt e g =
        let same : j ≡ i = omega arith in
        stop (one i rest) f _ (subst (λ k. one k rest ≡ Err f) same g)
    many_stops (x ∷ xs) zero i j rest f h lt e g = absurd (omega arith)
    many_stops (x ∷ xs) (suc n) i j rest f h lt e g =
        let a = each i x (flat_map enc xs ++ rest) h.0 in
        let b = many_stops xs n (i + 1) j rest f h.1 (omega arith) (omega arith) g in
        rw append_assoc (simp (a, b))

  module _ (each : (i : ℕ) (bs : List ℕ) (x : X) (rest : List ℕ) → Bytes bs → one i bs ≡ Ok (x, rest) → (enc x ++ rest ≡ bs) × P x) where
    -- records that are read are what would be written
    pub many_written : (k i : ℕ) (bs : List ℕ) (xs : List X) (rest : List ℕ) → Bytes bs → read_many one k i bs ≡ Ok (xs, rest) → (flat_map enc xs ++ rest ≡ bs) × (length xs ≡ k) × AllByRecursion P xs
    many_written zero i bs xs rest h e =
        let p = parts _ _ _ _ e in
        (ap (λ l. flat_map enc l ++ rest) (sym p.0) ∙ sym p.1, ap length (sym p.0), subst (AllByRecursion P) p.0 tt)
    many_written (suc k) i bs xs rest h e =
        let a = and_then_ok (one i bs) _ _ e in
        let b = and_then_ok (read_many one k (i + 1) a.0.1) _ _ a.2 in
        let p = parts _ _ _ _ b.2 in
        let here = each i bs a.0.0 a.0.1 h a.1 in
        let there = many_written k (i + 1) a.0.1 b.0.0 b.0.1 (bytes_after (enc a.0.0) a.0.1 bs here.0 h) b.1 in (
          ap (λ l. flat_map enc l ++ rest) (sym p.0) ∙ append_assoc (enc a.0.0) (flat_map enc b.0.0) rest ∙ ap (λ l. enc a.0.0 ++ (flat_map enc b.0.0 ++ l)) (sym p.1) ∙ ap (λ l. enc a.0.0 ++ l) there.0 ∙ here.0,
          ap length (sym p.0) ∙ ap suc there.1,
          subst (AllByRecursion P) p.0 (here.1, there.2),
        )

    -- a fault among records is that of one of them, and those before it are what would be written
    pub many_stopped : (k i : ℕ) (bs : List ℕ) (f : Fault) → Bytes bs → read_many one k i bs ≡ Err f → (xs : List X) × (rest : List ℕ) × (flat_map enc xs ++ rest ≡ bs) × AllByRecursion P xs × (length xs < k) × (one (i + length xs) rest ≡ Err f)
    many_stopped zero i bs f h e = let z : ◌≡◌ {A = ℕ} 0 1 = cc in absurd (omega arith)
    many_stopped (suc k) i bs f h e =
        let first : one i bs ≡ Err f → (xs : List X) × (rest : List ℕ) × (flat_map enc xs ++ rest ≡ bs) × AllByRecursion P xs × (length xs < suc k) × (one (i + length xs) rest ≡ Err f) = λ g.
        let same : i ≡ i + 0 = omega arith in
        ([], bs, refl, tt, omega arith, subst (λ j. one j bs ≡ Err f) same g) in
        let later : ((x : X × List ℕ) × (one i bs ≡ Ok x) × (and_then (read_many one k (i + 1) x.1) (λ y. Ok (x.0 ∷ y.0, y.1)) ≡ Err f)) → (xs : List X) × (rest : List ℕ) × (flat_map enc xs ++ rest ≡ bs) × AllByRecursion P xs × (length xs < suc k) × (one (i + length xs) rest ≡ Err f) = λ g.
        let x = g.0 in
        let here = each i bs x.0 x.1 h g.1 in
        let fails : read_many one k (i + 1) x.1 ≡ Err f = ⊎_elim (λ u. u) (λ u. let w = u.2 in let z : ◌≡◌ {A = ℕ} 0 1 = cc in absurd (omega arith)) (and_then_err (read_many one k (i + 1) x.1) (λ y. Ok (x.0 ∷ y.0, y.1)) f g.2) in
        let r = many_stopped k (i + 1) x.1 f (bytes_after (enc x.0) x.1 bs here.0 h) fails in
        let place : i + 1 + length r.0 ≡ i + suc (length r.0) = omega arith in (
          x.0 ∷ r.0,
          r.1,
          append_assoc (enc x.0) (flat_map enc r.0) r.1 ∙ ap (λ l. enc x.0 ++ l) r.2 ∙ here.0,
          (here.1, r.3),
          omega (arith, r.4),
          subst (λ j. one j r.1 ≡ Err f) place r.5,
        ) in
        ⊎_elim first later (and_then_err (one i bs) (λ x. and_then (read_many one k (i + 1) x.1) (λ y. Ok (x.0 ∷ y.0, y.1))) f e)

-- n or c that is within its bounds
pub head_read : (end low high b : ℕ) (bs : List ℕ) → low ≤ b → b ≤ high → read_head end low high (b ∷ bs) ≡ Ok (b, bs)
head_read end low high b bs l r = cond-true _ _ _ (and_from (leb low b) (leb b high) (le-leb _ _ l) (le-leb _ _ r))

pub head_ok : (end low high : ℕ) (bs : List ℕ) (b : ℕ) (rest : List ℕ) → read_head end low high bs ≡ Ok (b, rest) → (b ∷ rest ≡ bs) × (low ≤ b) × (b ≤ high)
head_ok end low high [] b rest e = let z : ◌≡◌ {A = ℕ} 0 1 = cc in absurd (omega arith)
head_ok end low high (x ∷ bs) b rest e =
    let in' : ((leb low x && leb x high) ≡ true) → (b ∷ rest ≡ x ∷ bs) × (low ≤ b) × (b ≤ high) = λ t.
    let q = parts _ _ _ _ (sym (cond-true _ _ _ t) ∙ e) in
    let r = and_parts (leb low x) (leb x high) t in
    let whole : b ∷ rest ≡ x ∷ bs = cc in
    (whole, subst (λ n. low ≤ n) q.0 (leb-true _ _ r.0), subst (λ n. n ≤ high) q.0 (leb-true _ _ r.1)) in
    let out : ((leb low x && leb x high) ≡ false) → (b ∷ rest ≡ x ∷ bs) × (low ≤ b) × (b ≤ high) = λ t. let d = sym (cond-false _ _ _ t) ∙ e in let z : ◌≡◌ {A = ℕ} 0 1 = cc in absurd (omega arith) in
    ⊎_elim in' out (cases_Bool (leb low x && leb x high))

-- m that is within its bounds
pub count_read : (end m : ℕ) (bs : List ℕ) → 1 ≤ m → m ≤ 256 → read_count end (bytes_of 2 m ++ bs) ≡ Ok (m, bs)
count_read end m bs l r =
    let e : m % 256 + m / 256 % 256 * 256 ≡ m = omega arith in
    cond-true _ _ _ (and_from (leb 1 (m % 256 + m / 256 % 256 * 256)) (leb (m % 256 + m / 256 % 256 * 256) 256) (le-leb _ _ (subst (λ k. 1 ≤ k) (sym e) l)) (le-leb _ _ (subst (λ k. k ≤ 256) (sym e) r))) ∙ ap (λ k. Ok (k, bs)) e

pub count_ok : (end : ℕ) (bs : List ℕ) (m : ℕ) (rest : List ℕ) → Bytes bs → read_count end bs ≡ Ok (m, rest) → (bytes_of 2 m ++ rest ≡ bs) × Counted m
count_ok end [] m rest h e = let z : ◌≡◌ {A = ℕ} 0 1 = cc in absurd (omega arith)
count_ok end (a ∷ []) m rest h e = let z : ◌≡◌ {A = ℕ} 0 1 = cc in absurd (omega arith)
count_ok end (a ∷ b ∷ bs) m rest h e =
    let n = a + b * 256 in
    let in' : ((leb 1 n && leb n 256) ≡ true) → (bytes_of 2 m ++ rest ≡ a ∷ b ∷ bs) × Counted m = λ t.
    let q = parts _ _ _ _ (sym (cond-true _ _ _ t) ∙ e) in
    let r = and_parts (leb 1 n) (leb n 256) t in
    let low : m % 256 ≡ a = omega (arith, h.0, q.0) in
    let mid : m / 256 ≡ b = omega (arith, h.0, q.0) in
    let wrap : b % 256 ≡ b = omega (arith, h.1.0) in
    let high : m / 256 % 256 ≡ b = ap (λ k. k % 256) mid ∙ wrap in
    let same = q.1 in
    let whole : bytes_of 2 m ++ rest ≡ a ∷ b ∷ bs = cc in
    (whole, (subst (λ k. 1 ≤ k) q.0 (leb-true _ _ r.0), subst (λ k. k ≤ 256) q.0 (leb-true _ _ r.1))) in
    let out : ((leb 1 n && leb n 256) ≡ false) → (bytes_of 2 m ++ rest ≡ a ∷ b ∷ bs) × Counted m = λ t. let d = sym (cond-false _ _ _ t) ∙ e in let z : ◌≡◌ {A = ℕ} 0 1 = cc in absurd (omega arith) in
    ⊎_elim in' out (cases_Bool (leb 1 n && leb n 256))

-- the channels of a file of length end with n levels
module _ (end n : ℕ) (small : n ≤ 16) where
  abbrev channel_again : (i : ℕ) (c : Channel) (rest : List ℕ) → c.level < n → read_channel end i n (encode_channel c ++ rest) ≡ Ok (c, rest)
  channel_again i c rest lt = read_again end i n c rest lt small

  pub channels_read : (cs : List Channel) (rest : List ℕ) → Below n cs (length cs) → read_channels end n (length cs) (flat_map encode_channel cs ++ rest) ≡ Ok (cs, rest)
  channels_read cs rest h = many_read (λ i bs. read_channel end i n bs) encode_channel (λ c. c.level < n) channel_again cs 0 rest (All-from_get_or (λ c. c.level < n) cs blank h)

  pub channels_stop : (cs : List Channel) (c : ℕ) (rest : List ℕ) (f : Fault) → Below n cs (length cs) → length cs < c → read_channel end (length cs) n rest ≡ Err f → read_channels end n c (flat_map encode_channel cs ++ rest) ≡ Err f
  channels_stop cs c rest f h lt e = many_stops (λ i bs. read_channel end i n bs) encode_channel (λ c. c.level < n) channel_again cs c 0 (length cs) rest f (All-from_get_or (λ c. c.level < n) cs blank h) lt (omega arith) e

-- the instructions of a file of length end with the channels cs and m instructions
module _ (end : ℕ) (cs : List Channel) (m : ℕ) (few : length cs ≤ 16) (low : m ≤ 256) where
  abbrev Law : Instruction → Type 0
  Law x = sound cs (length cs) m x ≡ true

  abbrev instruction_again : (i : ℕ) (x : Instruction) (rest : List ℕ) → Law x → read_instruction end i cs m (encode_instruction x ++ rest) ≡ Ok (x, rest)
  instruction_again i x rest h = instruction_read_again end i cs m x rest few low h

  pub instructions_read : (is : List Instruction) (rest : List ℕ) → length is ≡ m → Sound cs (length cs) m is (length is) → read_instructions end cs m (flat_map encode_instruction is ++ rest) ≡ Ok (is, rest)
  instructions_read is rest e h = subst (λ k. read_many (λ i bs. read_instruction end i cs m bs) k 0 (flat_map encode_instruction is ++ rest) ≡ Ok (is, rest)) e (many_read (λ i bs. read_instruction end i cs m bs) encode_instruction Law instruction_again is 0 rest (All-from_get_or Law is Skip h))

  pub instructions_stop : (is : List Instruction) (rest : List ℕ) (f : Fault) → Sound cs (length cs) m is (length is) → length is < m → read_instruction end (length is) cs m rest ≡ Err f → read_instructions end cs m (flat_map encode_instruction is ++ rest) ≡ Err f
  instructions_stop is rest f h lt e = many_stops (λ i bs. read_instruction end i cs m bs) encode_instruction Law instruction_again is m 0 (length is) rest f (All-from_get_or Law is Skip h) lt (omega arith) e

-- what is read of a file stage by stage: tail, instructions, count, channels, c and n
abbrev pub from_tail : ℕ → ℕ → List Channel → List Instruction → List ℕ → Result Model Fault
from_tail end n cs is bs = read_tail end (record { levels = n; channels = cs; instructions = is }) bs

abbrev pub from_instructions : ℕ → ℕ → List Channel → ℕ → List ℕ → Result Model Fault
from_instructions end n cs m bs = and_then (read_instructions end cs m bs) (λ is. from_tail end n cs is.0 is.1)

abbrev pub from_count : ℕ → ℕ → List Channel → List ℕ → Result Model Fault
from_count end n cs bs = and_then (read_count end bs) (λ m. from_instructions end n cs m.0 m.1)

abbrev pub from_channels : ℕ → ℕ → ℕ → List ℕ → Result Model Fault
from_channels end n c bs = and_then (read_channels end n c bs) (λ cs. from_count end n cs.0 cs.1)

abbrev pub from_width : ℕ → ℕ → List ℕ → Result Model Fault
from_width end n bs = and_then (read_head end 0 16 bs) (λ c. from_channels end n c.0 c.1)

abbrev pub from_levels : ℕ → List ℕ → Result Model Fault
from_levels end bs = and_then (read_head end 1 16 bs) (λ n. from_width end n.0 n.1)

-- a right front is read, up to what follows it
pub past_head : (end n c : ℕ) (bs : List ℕ) → Headed n c → from_levels end (n ∷ c ∷ bs) ≡ from_channels end n c bs
past_head end n c bs h = step _ _ (λ x. from_width end x.0 x.1) (head_read end 1 16 n (c ∷ bs) h.0 h.1) ∙ step _ _ (λ x. from_channels end n x.0 x.1) (head_read end 0 16 c bs (omega arith) h.2)

pub past_channels : (end : ℕ) (bs : List ℕ) (n : ℕ) (cs : List Channel) (rest : List ℕ) → ChannelsRight bs n (length cs) cs rest → from_levels end bs ≡ from_count end n cs rest
past_channels end bs n cs rest r =
    ap (from_levels end) r.bytes
    ∙ past_head end n (length cs) (flat_map encode_channel cs ++ rest) r.headed
    ∙ step _ _ (λ x. from_count end n x.0 x.1) (channels_read end n r.headed.1 cs rest r.below)

-- the channels of such a front
pub right_channels : (bs : List ℕ) (n : ℕ) (cs : List Channel) (m : ℕ) (is : List Instruction) (rest : List ℕ) → InstructionsRight bs n cs m is rest → ChannelsRight bs n (length cs) cs (bytes_of 2 m ++ (flat_map encode_instruction is ++ rest))
right_channels bs n cs m is rest r = record { bytes = r.bytes; headed = r.headed; below = r.below }

pub past_count : (end : ℕ) (bs : List ℕ) (n : ℕ) (cs : List Channel) (m : ℕ) (is : List Instruction) (rest : List ℕ) → InstructionsRight bs n cs m is rest → from_levels end bs ≡ from_instructions end n cs m (flat_map encode_instruction is ++ rest)
past_count end bs n cs m is rest r =
    past_channels end bs n cs _ (right_channels bs n cs m is rest r)
    ∙ step _ _ (λ x. from_instructions end n cs x.0 x.1) (count_read end m (flat_map encode_instruction is ++ rest) r.counted.0 r.counted.1)

pub past_instructions : (end : ℕ) (bs : List ℕ) (n : ℕ) (cs : List Channel) (is : List Instruction) (rest : List ℕ) → InstructionsRight bs n cs (length is) is rest → from_levels end bs ≡ from_tail end n cs is rest
past_instructions end bs n cs is rest r =
    past_count end bs n cs (length is) is rest r
    ∙ step _ _ (λ x. from_tail end n cs x.0 x.1) (instructions_read end cs (length is) r.headed.2 r.counted.1 is rest refl r.sound)

-- what has been read is a right front
pub channels_stand : (end : ℕ) (bs : List ℕ) (n : ℕ) (r1 : List ℕ) (c : ℕ) (r2 : List ℕ) → read_head end 1 16 bs ≡ Ok (n, r1) → read_head end 0 16 r1 ≡ Ok (c, r2) → (cs : List Channel) (rest : List ℕ) → flat_map encode_channel cs ++ rest ≡ r2 → AllByRecursion (λ (c : Channel). c.level < n) cs → ChannelsRight bs n c cs rest
channels_stand end bs n r1 c r2 e1 e2 cs rest e all =
    let a = head_ok end 1 16 bs n r1 e1 in
    let b = head_ok end 0 16 r1 c r2 e2 in
    record {
      bytes = sym a.0 ∙ ap (λ l. n ∷ l) (sym b.0) ∙ ap (λ l. n ∷ c ∷ l) (sym e);
      headed = (a.1, a.2, b.2);
      below = λ k lt. All-get_or (λ (c : Channel). c.level < n) cs k blank lt all;
    }

pub head_bytes : (end : ℕ) (bs : List ℕ) (n : ℕ) (r1 : List ℕ) (c : ℕ) (r2 : List ℕ) → read_head end 1 16 bs ≡ Ok (n, r1) → read_head end 0 16 r1 ≡ Ok (c, r2) → Bytes bs → Bytes r2
head_bytes end bs n r1 c r2 e1 e2 h = bytes_after (c ∷ []) r2 r1 (head_ok end 0 16 r1 c r2 e2).0 (bytes_after (n ∷ []) r1 bs (head_ok end 1 16 bs n r1 e1).0 h)

abbrev pub channel_each : (end n i : ℕ) (bs : List ℕ) (x : Channel) (rest : List ℕ) → Bytes bs → read_channel end i n bs ≡ Ok (x, rest) → (encode_channel x ++ rest ≡ bs) × (x.level < n)
channel_each end n i bs x rest h e = written_again end i n x bs rest h e

abbrev pub instruction_each : (end : ℕ) (cs : List Channel) (m i : ℕ) (bs : List ℕ) (x : Instruction) (rest : List ℕ) → Bytes bs → read_instruction end i cs m bs ≡ Ok (x, rest) → (encode_instruction x ++ rest ≡ bs) × (sound cs (length cs) m x ≡ true)
instruction_each end cs m i bs x rest h e = (instruction_written_again end i cs m x bs rest h e, instruction_sound end i cs m x bs rest h e)

-- all channels are read
pub channels_stood : (end : ℕ) (bs : List ℕ) (n : ℕ) (r1 : List ℕ) (c : ℕ) (r2 : List ℕ) (cs : List Channel) (r3 : List ℕ) → Bytes bs → read_head end 1 16 bs ≡ Ok (n, r1) → read_head end 0 16 r1 ≡ Ok (c, r2) → read_channels end n c r2 ≡ Ok (cs, r3) → ChannelsRight bs n (length cs) cs r3 × (length cs ≡ c) × Bytes r3
channels_stood end bs n r1 c r2 cs r3 h e1 e2 e3 =
    let h2 = head_bytes end bs n r1 c r2 e1 e2 h in
    let w = many_written (λ i bs. read_channel end i n bs) encode_channel (λ c. c.level < n) (channel_each end n) c 0 r2 cs r3 h2 e3 in (
      subst (λ k. ChannelsRight bs n k cs r3) (sym w.1) (channels_stand end bs n r1 c r2 e1 e2 cs r3 w.0 w.2),
      w.1,
      bytes_after (flat_map encode_channel cs) r3 r2 w.0 h2,
    )

-- the count is read, and some instructions after it
pub instructions_stand : (bs : List ℕ) (n : ℕ) (cs : List Channel) (r3 : List ℕ) (end m : ℕ) (r4 : List ℕ) → Bytes r3 → ChannelsRight bs n (length cs) cs r3 → read_count end r3 ≡ Ok (m, r4) → (is : List Instruction) (rest : List ℕ) → flat_map encode_instruction is ++ rest ≡ r4 → AllByRecursion (λ x. sound cs (length cs) m x ≡ true) is → InstructionsRight bs n cs m is rest
instructions_stand bs n cs r3 end m r4 h r e4 is rest e all =
    let c = count_ok end r3 m r4 h e4 in
    record {
      bytes = r.bytes ∙ ap (λ l. n ∷ length cs ∷ (flat_map encode_channel cs ++ l)) (sym c.0) ∙ ap (λ l. n ∷ length cs ∷ (flat_map encode_channel cs ++ (bytes_of 2 m ++ l))) (sym e);
      headed = r.headed;
      below = r.below;
      counted = c.1;
      sound = λ k lt. All-get_or (λ x. sound cs (length cs) m x ≡ true) is k Skip lt all;
    }

pub instructions_stood : (bs : List ℕ) (n : ℕ) (cs : List Channel) (r3 : List ℕ) (end m : ℕ) (r4 : List ℕ) (is : List Instruction) (r5 : List ℕ) → Bytes r3 → ChannelsRight bs n (length cs) cs r3 → read_count end r3 ≡ Ok (m, r4) → read_instructions end cs m r4 ≡ Ok (is, r5) → InstructionsRight bs n cs (length is) is r5
instructions_stood bs n cs r3 end m r4 is r5 h r e4 e5 =
    let h4 = bytes_after (bytes_of 2 m) r4 r3 (count_ok end r3 m r4 h e4).0 h in
    let w = many_written (λ i bs. read_instruction end i cs m bs) encode_instruction (λ x. sound cs (length cs) m x ≡ true) (instruction_each end cs m) m 0 r4 is r5 h4 e5 in
    subst (λ k. InstructionsRight bs n cs k is r5) (sym w.1) (instructions_stand bs n cs r3 end m r4 h r e4 is r5 w.0 w.2)

-- a front with all instructions is the file of an accepted model, and the rest
pub model_right : (bs : List ℕ) (n : ℕ) (cs : List Channel) (is : List Instruction) (rest : List ℕ) → InstructionsRight bs n cs (length is) is rest → (let s : Model = record { levels = n; channels = cs; instructions = is } in Accepted s × (encode_model s ++ rest ≡ bs))
model_right bs n cs is rest r = (
  record { headed = r.headed; counted = r.counted; below = r.below; sound = r.sound },
  ap (λ l. n ∷ length cs ∷ l) (append_assoc (flat_map encode_channel cs) (bytes_of 2 (length is) ++ flat_map encode_instruction is) rest ∙ ap (λ l. flat_map encode_channel cs ++ l) (append_assoc (bytes_of 2 (length is)) (flat_map encode_instruction is) rest)) ∙ sym r.bytes,
)

pub right_model : (s : Model) (rest : List ℕ) → Accepted s → InstructionsRight (encode_model s ++ rest) s.levels s.channels (length s.instructions) s.instructions rest
right_model s rest h =
    record {
      bytes = ap (λ l. s.levels ∷ length s.channels ∷ l) (append_assoc (flat_map encode_channel s.channels) (bytes_of 2 (length s.instructions) ++ flat_map encode_instruction s.instructions) rest ∙ ap (λ l. flat_map encode_channel s.channels ++ l) (append_assoc (bytes_of 2 (length s.instructions)) (flat_map encode_instruction s.instructions) rest));
      headed = h.headed;
      below = h.below;
      counted = h.counted;
      sound = h.sound;
    }
