use Rattle.std.proofs.Common.{◌≡◌, ℕ, true, List, Ok, Err, sym, refl, subst}
use Rattle.std.specs.Int.{int_wrap}
use Rattle.refusal.specs.Numbers.{number_of}
use Rattle.refusal.specs.declared.Fault.{Fault}
use Rattle.class.specs.Marked.{order_of as compartment_order}
use Rattle.page.specs.Laddered.{order_of}
use Rattle.page.specs.Slots.{channels_of}
use Rattle.script.specs.Model.{Model}
use Rattle.format.specs.Reading.{read_file}
use Rattle.cases.specs.Lesson.{file_f, lesson}
use Rattle.cases.specs.Table.{Refuses, Accepts, FromBytesToAnswers, Files, Instructions, Misfit, Arithmetic}
use Rattle.cases.proofs.Filed.{all_bytes, bytes_from, refuses, accepts}
use Rattle.cases.proofs.Taught.{misfits, taught, taught_in_turn}
use Rattle.cases.proofs.table.worked_cases.Goals as goal

-- a row whose reading computes to a fault, and one whose reading computes to a model
refused : (bs : List ℕ) → all_bytes bs ≡ true → (f : Fault) → read_file bs ≡ Err f → Refuses bs (number_of f.refusal) f.byte f.part
refused bs h f e = (f, refuses bs (bytes_from bs h) f e, refl, refl, refl)

accepted : (bs : List ℕ) → all_bytes bs ≡ true → (m : Model) → read_file bs ≡ Ok m → Accepts bs m
accepted bs h m e = let r = accepts bs (bytes_from bs h) m e in (r.0, r.1, r.2)

-- the rows, each by computing
files : Files
files = record {
  no_bytes = refused _ refl _ refl;
  no_level = refused _ refl _ refl;
  many_levels = refused _ refl _ refl;
  levels_only = refused _ refl _ refl;
  many_channels = refused _ refl _ refl;
  head_only = refused _ refl _ refl;
  half_a_count = refused _ refl _ refl;
  count_zero = refused _ refl _ refl;
  count_high = refused _ refl _ refl;
  no_record = refused _ refl _ refl;
  one_skip = accepted _ refl _ refl;
  odd_map = refused _ refl _ refl;
  odd_map_short = refused _ refl _ refl;
  zero_kind = refused _ refl _ refl;
  missing_first = refused _ refl _ refl;
  no_channel = refused _ refl _ refl;
  more_after = refused _ refl _ refl;
  one_in = accepted _ refl _ refl;
  out_of_in = refused _ refl _ refl;
  odd_channel_map = refused _ refl _ refl;
  no_channel_record = refused _ refl _ refl;
  zero_level = refused _ refl _ refl;
  two_directions = refused _ refl _ refl;
  level_high = refused _ refl _ refl;
  out_of_channel_one = refused _ refl _ refl;
}

instructions : Instructions
instructions = record {
  zero_before_kind = refused _ refl _ refl;
  bad_kind = refused _ refl _ refl;
  kind_before_ranges = refused _ refl _ refl;
  unused_before_ranges = refused _ refl _ refl;
  skip_with_target = refused _ refl _ refl;
  register_16 = refused _ refl _ refl;
  set_zero = refused _ refl _ refl;
  set_minus_one = accepted _ refl _ refl;
  jump_to_end = accepted _ refl _ refl;
  jump_past = refused _ refl _ refl;
  jump_to_zero = refused _ refl _ refl;
  first_before_place = refused _ refl _ refl;
}

arithmetic : Arithmetic
unfolding int_wrap
arithmetic = record {
  minus_seven_by_two = (refl, refl);
  seven_by_minus_two = (refl, refl);
  by_zero = λ a. (refl, refl);
  least_by_minus_one = (refl, refl);
  wraps = refl;
}

-- F, read and run
lesson_taught : FromBytesToAnswers
lesson_taught =
    let r = accepts file_f (bytes_from file_f refl) lesson refl in
    record {
      script = r.0;
      reading = r.1;
      holds = r.2;
      visit = λ l h e d. taught r.0 (order_of l) (channels_of h) r.3 e d;
      in_turn = λ k h e d. taught_in_turn r.0 (compartment_order k) (channels_of h) r.3 e d;
      misfit = subst Misfit (sym r.3) misfits;
    }

pub returns : goal.returns
returns c = record { lesson = lesson_taught; files = files; instructions = instructions; arithmetic = arithmetic }
