-- The lesson's run, computed. Assumes nothing.
use Rattle.std.proofs.Common.{◌≡◌, eqb, leb, sym, refl, ap, ◌∙◌, subst, ap₂}
use Rattle.host.specs.Channels.{Channels}
use Rattle.regime.specs.Order.{Order}
use Rattle.script.specs.declared.accepted.Script.{Script}
use Rattle.format.specs.Encoding.{encode}
use Rattle.format.proofs.Theorems.{one_file}
use Rattle.meaning.specs.Programs.{program}
use Rattle.meaning.specs.Logs.{logged, reached}
use Rattle.meaning.specs.Visits.{Opening, framed, admit, enough_channels}
use Rattle.page.specs.Ladder.{ladder}
use Rattle.page.specs.Slots.{empty_channels}
use Rattle.class.specs.Compartments.{compartments}
use Rattle.engine.specs.Views.{opening}
use Rattle.cases.specs.Lesson.{lesson, file_f, lesson_calls, log_with, turns_about}
use Rattle.cases.specs.Table.{Taught, Misfit}
use Rattle.cases.specs.Told.{answers_of, as_taught, gone_through}
use Rattle.cases.proofs.Filed.{program_of, bytes_from, accepts}

-- the opening, written out
abbrev plain : Opening
plain = record { script = program_of lesson; order = ladder 2; host = empty_channels }

-- every answer by computing
computed : Taught plain
computed = record {
  log = refl;
  numbers = refl;
  in_low = refl;
  in_high = refl;
  out_low = refl;
  out_high = refl;
  collects_low = refl;
  collects_high = refl;
  asks_low = refl;
  asks_high = refl;
  sees_any = λ _. refl;
  sees_less = refl;
  no_channel = λ _. refl;
  feeds_out = λ _. refl;
  collects_in = refl;
  no_level = refl;
  full = λ _. refl;
  not_full = λ _. refl;
  empty = refl;
}

-- the same calls over compartments
in_turn : logged (record { script = program_of lesson; order = compartments 1; host = empty_channels }) lesson_calls ≡ log_with turns_about
in_turn = refl

-- and with anything that is like them
pub taught_in_turn : (s : Script) (r : Order) (h : Channels) → program s ≡ program_of lesson → r ≡ compartments 1 → h ≡ empty_channels → logged (opening s r h) lesson_calls ≡ log_with turns_about
taught_in_turn s r h script order host =
    let same : ◌≡◌ {A = Opening} (opening s r h) (record { script = program_of lesson; order = compartments 1; host = empty_channels }) = λ i. record { script = script i; order = order i; host = host i } in
    ap (λ o. logged o lesson_calls) same ∙ in_turn

-- the counts differ, whatever else there is
pub misfits : Misfit (program_of lesson)
misfits = record {
  levels = λ r h calls x e.
      let o : Opening = record { script = program_of lesson; order = r; host = h } in
      ap (λ n. (admit (framed o) (reached o calls) x (eqb 2 n) (enough_channels (framed o))).1) e;
  channels = λ r h calls x e d.
      let o : Opening = record { script = program_of lesson; order = r; host = h } in
      ap₂ (λ n k. (admit (framed o) (reached o calls) x (eqb 2 n) (leb 4 k)).1) e d;
}

-- a visit of the script on such a ladder and over such a host is as the one written out
pub taught : (s : Script) (r : Order) (h : Channels) → program s ≡ program_of lesson → r ≡ ladder 2 → h ≡ empty_channels → Taught (opening s r h)
taught s r h script order host =
    let same : opening s r h ≡ plain = λ i. record { script = script i; order = order i; host = host i } in
    subst Taught (sym same) computed

-- F is the file of a script, which is the one that is written out
pub its_script : (s : Script) × (encode s ≡ file_f) × (program s ≡ program_of lesson)
its_script = let r = accepts file_f (bytes_from file_f refl) lesson refl in (r.0, r.1.reads, r.3)

-- every script with that file is this one
written_out : (s : Script) → encode s ≡ file_f → program s ≡ program_of lesson
written_out s e = ap program (one_file s its_script.0 (e ∙ sym its_script.1)) ∙ its_script.2

-- and it answers as the lesson says
pub told_by_file : (s : Script) → encode s ≡ file_f → gone_through (opening s (ladder 2) empty_channels) ≡ answers_of as_taught
told_by_file s e =
    let scripts = written_out s e in
    let same : opening s (ladder 2) empty_channels ≡ plain = λ i. record { script = scripts i; order = ladder 2; host = empty_channels } in
    ap gone_through same
