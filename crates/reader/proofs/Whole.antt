-- The file's parts in order. Assumes nothing.
use Rattle.std.proofs.Common.{◌≡◌, ℕ, ◌-◌, ◌≤◌, true, false, eqb, List, [], ◌∷◌, length, take, Ok, Err, Result, sym, refl, ap, ◌∙◌, subst}
use Rattle.std.proofs.lemmas.Bool.{eqb-true, eqb-false}
use Rattle.script.specs.declared.parts.Channel.{Channel}
use Rattle.script.specs.declared.parts.Instruction.{Instruction}
use Rattle.script.specs.declared.parts.Instruction.TheVariants.{Skip}
use Rattle.script.specs.Laws.{blank, Headed, Counted, Below, Sound}
use Rattle.script.specs.declared.accepted.Script.{Script}
use Rattle.script.specs.Model.{Model}
use Rattle.script.proofs.Held.{below_table, all_sound_table}
use Rattle.std.proofs.lemmas.List.{length-take-le, nil_from_length}
use Rattle.format.specs.Numbers.{Bytes}
use Rattle.format.specs.Refusals.{Reads}
use Rattle.format.proofs.Files.{file_read}
use Rattle.format.proofs.Theorems.{reads_ok, reads_err}
use Rattle.reader.proofs.Tables.{Table}
use Rattle.reader.specs.Parsed.{Parses}
use Rattle.reader.specs.declared.unread.Unread.{Unread}
use Rattle.refusal.specs.declared.Fault.{Fault}
use Rattle.refusal.specs.declared.Part.TheVariants as part
use Rattle.refusal.specs.declared.Refusal.TheVariants as why
use Rattle.format.specs.Rules.{fault}
use Rattle.format.specs.Reading.{and_then, read_many, read_head, read_instruction, read_channels, read_count, read_instructions, read_tail, read_file}

-- what is left once the head and the channels are read
abbrev from_count : ℕ → ℕ → List Channel → List ℕ → Result Model Fault
from_count end n cs rest = and_then (read_count end rest) (λ m. and_then (read_instructions end cs m.0 m.1) (λ is. read_tail end (record { levels = n; channels = cs; instructions = is.0 }) is.1))

-- and once the count is read too
abbrev from_instructions : ℕ → ℕ → List Channel → ℕ → List ℕ → Result Model Fault
from_instructions end n cs m rest = and_then (read_instructions end cs m rest) (λ is. read_tail end (record { levels = n; channels = cs; instructions = is.0 }) is.1)

pub record AtCount (bs : List ℕ) (n : ℕ) (cs : List Channel) (rest : Unread) : Type 0 where
  pub same : rest.end ≡ length bs
  pub left : read_file bs ≡ from_count (length bs) n cs rest.bytes.now

pub record AtInstructions (bs : List ℕ) (n : ℕ) (cs : List Channel) (m : ℕ) (rest : Unread) : Type 0 where
  pub same : rest.end ≡ length bs
  pub left : read_file bs ≡ from_instructions (length bs) n cs m rest.bytes.now

pub record AtTail (bs : List ℕ) (s : Model) (rest : Unread) : Type 0 where
  pub same : rest.end ≡ length bs
  pub left : read_file bs ≡ read_tail (length bs) s rest.bytes.now

-- a part that is read, and what it leaves
abbrev pub Left : {X : Type 0} → (ℕ → List ℕ → Result (X × List ℕ) Fault) → Unread → X → Unread → Type 0
Left read u x rest = (rest.end ≡ u.end) × (read u.end u.bytes.now ≡ Ok (x, rest.bytes.now))

pub at_count : (bs : List ℕ) (n : ℕ) (u1 : Unread) (c : ℕ) (u2 : Unread) (k : ℕ) (cs : List Channel) (u3 : Unread) → (u1.end ≡ length bs) × (read_head (length bs) 1 16 bs ≡ Ok (n, u1.bytes.now)) → Left (λ end bs. read_head end 0 16 bs) u1 c u2 → Left (λ end bs. read_channels end n k bs) u2 cs u3 → k ≡ c → AtCount bs n cs u3
at_count bs n u1 c u2 k cs u3 a b d size =
    let width = b.0 ∙ a.0 in
    let head : read_head (length bs) 0 16 u1.bytes.now ≡ Ok (c, u2.bytes.now) = ap (λ end. read_head end 0 16 u1.bytes.now) (sym a.0) ∙ b.1 in
    let channels : read_channels (length bs) n c u2.bytes.now ≡ Ok (cs, u3.bytes.now) = ap (λ k. read_channels (length bs) n k u2.bytes.now) (sym size) ∙ ap (λ end. read_channels end n k u2.bytes.now) (sym width) ∙ d.1 in
    record { same = d.0 ∙ width; left = simp (a.1, head, channels) }

module _ {bs : List ℕ} {n : ℕ} {cs : List Channel} {u : Unread} (a : AtCount bs n cs u) where
  counted : (r : Result (ℕ × List ℕ) Fault) → read_count u.end u.bytes.now ≡ r → read_file bs ≡ and_then r (λ m. from_instructions (length bs) n cs m.0 m.1)
  counted r e = a.left ∙ ap (λ r. and_then r (λ m. from_instructions (length bs) n cs m.0 m.1)) (ap (λ end. read_count end u.bytes.now) (sym a.same) ∙ e)

  pub count_stops : (f : Fault) → read_count u.end u.bytes.now ≡ Err f → read_file bs ≡ Err f
  count_stops f e = counted (Err f) e

  pub at_instructions : (m : ℕ) (rest : Unread) → Left read_count u m rest → AtInstructions bs n cs m rest
  at_instructions m rest e = record { same = e.0 ∙ a.same; left = counted (Ok (m, rest.bytes.now)) e.1 }

module _ {bs : List ℕ} {n : ℕ} {cs : List Channel} {m : ℕ} {u : Unread} (a : AtInstructions bs n cs m u) where
  -- the channels as the table has them
  read_then : (table : List Channel) (k : ℕ) (r : Result (List Instruction × List ℕ) Fault) → table ≡ cs → k ≡ m → read_many (λ i bs. read_instruction u.end i table m bs) k 0 u.bytes.now ≡ r → read_instructions (length bs) cs m u.bytes.now ≡ r
  read_then table k r same size e =
      ap (λ end. read_instructions end cs m u.bytes.now) (sym a.same)
      ∙ ap (λ t. read_instructions u.end t m u.bytes.now) (sym same)
      ∙ ap (λ k. read_many (λ i bs. read_instruction u.end i table m bs) k 0 u.bytes.now) (sym size)
      ∙ e

  pub stops : (table : List Channel) (k : ℕ) (f : Fault) → table ≡ cs → k ≡ m → read_many (λ i bs. read_instruction u.end i table m bs) k 0 u.bytes.now ≡ Err f → read_file bs ≡ Err f
  stops table k f same size e = a.left ∙ ap (λ r. and_then r (λ is. read_tail (length bs) (record { levels = n; channels = cs; instructions = is.0 }) is.1)) (read_then table k (Err f) same size e)

  pub at_tail : (table : List Channel) (k : ℕ) (is : List Instruction) (rest : Unread) → table ≡ cs → k ≡ m → (rest.end ≡ u.end) × (read_many (λ i bs. read_instruction u.end i table m bs) k 0 u.bytes.now ≡ Ok (is, rest.bytes.now)) → AtTail bs (record { levels = n; channels = cs; instructions = is }) rest
  at_tail table k is rest same size e = record {
    same = e.0 ∙ a.same;
    left = a.left ∙ ap (λ r. and_then r (λ is. read_tail (length bs) (record { levels = n; channels = cs; instructions = is.0 }) is.1)) (read_then table k (Ok (is, rest.bytes.now)) same size e.1);
  }

more_left : (end : ℕ) (s : Model) (l : List ℕ) → eqb (length l) 0 ≡ false → read_tail end s l ≡ Err (fault why.Tail (end - length l) part.Tail)
more_left end s [] e = absurd (eqb-false 0 0 e refl)
more_left end s (b ∷ l) e = refl

module _ {bs : List ℕ} {s : Model} {u : Unread} (a : AtTail bs s u) where
  pub ends : eqb (length u.bytes.now) 0 ≡ true → read_file bs ≡ Ok s
  ends e = a.left ∙ ap (read_tail (length bs) s) (nil_from_length u.bytes.now (eqb-true _ _ e))

  pub has_tail : eqb (length u.bytes.now) 0 ≡ false → read_file bs ≡ Err (fault why.Tail (u.end - length u.bytes.now) part.Tail)
  has_tail e = a.left ∙ more_left (length bs) s u.bytes.now e ∙ ap (λ end. Err (fault why.Tail (end - length u.bytes.now) part.Tail)) (sym a.same)

-- the same of the tables that a file was read into
pub in_tables : (bs : List ℕ) {n c : ℕ} {cs channels : List Channel} {m : ℕ} {is instructions : List Instruction} → Table 16 blank c cs channels → Table 256 Skip m is instructions → read_file bs ≡ Ok (record { levels = n; channels = cs; instructions = is }) → read_file bs ≡ Ok (record { levels = n; channels = take c channels; instructions = take m instructions })
in_tables bs {n} {c} {cs} {channels} {m} {is} {instructions} a b e =
    e
    ∙ ap (λ l. Ok (record { levels = n; channels = l; instructions = is })) (sym a.front)
    ∙ ap (λ l. Ok (record { levels = n; channels = take c channels; instructions = l })) (sym b.front)

-- the laws of the tables that a file was read into
pub record Lawful (n c : ℕ) (channels : List Channel) (m : ℕ) (instructions : List Instruction) : Type 0 where
  pub headed : Headed n c
  pub counted : Counted m
  pub below : Below n channels c
  pub sound : Sound channels c m instructions m

pub lawful : (bs : List ℕ) (n c : ℕ) (channels : List Channel) (m : ℕ) (instructions : List Instruction) → Bytes bs → c ≤ length channels → m ≤ length instructions → read_file bs ≡ Ok (record { levels = n; channels = take c channels; instructions = take m instructions }) → Lawful n c channels m instructions
lawful bs n c channels m instructions h few long e =
    let a = (file_read bs (record { levels = n; channels = take c channels; instructions = take m instructions }) h e).0 in
    let ec = length-take-le c channels few in
    let em = length-take-le m instructions long in
    let below = below_table n channels (take c channels) (ap (λ k. take k channels) ec) a.below in
    let all = all_sound_table channels (take c channels) instructions (take m instructions) (ap (λ k. take k channels) ec) (ap (λ k. take k instructions) em) a.sound in
    record {
      headed = subst (Headed n) ec a.headed;
      counted = subst Counted em a.counted;
      below = subst (Below n channels) ec below;
      sound = subst (λ k. Sound channels c k instructions k) em (subst (λ k. Sound channels k (length (take m instructions)) instructions (length (take m instructions))) ec all);
    }

-- reading as a function answers what reading has to answer
pub reads : (bs : List ℕ) (r : Result Script Fault) → Bytes bs → Parses (read_file bs) r → Reads bs r
reads bs (Ok s) h e = reads_ok bs s h e
reads bs (Err f) h e = reads_err bs f h e
