-- Equality of channels and instructions, and that it is equality of values. Assumes nothing.
use Rattle.std.specs.Prelude.{◌≡◌, Bool, ◌&&◌, ◌==◌, Decides}
use Rattle.std.specs.Ordering.{int_eq}
use Rattle.std.proofs.Common.{refl, ap, sym, ◌∙◌}
use Rattle.std.proofs.lemmas.Bool.Decides.{Decides-and}
use Rattle.std.specs.Cmp.{unsigned_Decides, signed_Decides}
use Rattle.script.specs.declared.parts.Direction.{Direction}
use Rattle.script.specs.declared.parts.Direction.TheVariants.{In, Out}
use Rattle.script.specs.declared.parts.Channel.{Channel}
use Rattle.script.specs.declared.parts.Fields.{Fields}
use Rattle.script.specs.declared.parts.Instruction.{Instruction}
use Rattle.script.specs.Fields.{instruction_from, instruction_back}
use Rattle.script.specs.Kinds.{fields_of}
use Rattle.script.specs.Laws.{same}

-- the same direction and level
abbrev pub same_channel : Channel → Channel → Bool
same_channel x y = same x.direction y.direction && (x.level == y.level)

-- the same number in each field
abbrev pub same_fields : Fields → Fields → Bool
same_fields x y = (x.kind == y.kind) && ((x.target == y.target) && ((x.first == y.first) && ((x.second == y.second) && (int_eq x.number y.number && ((x.place == y.place) && (x.channel == y.channel))))))

-- an instruction is known by its fields
abbrev pub same_instruction : Instruction → Instruction → Bool
same_instruction x y = same_fields (fields_of x) (fields_of y)

-- the test of directions decides equality of values
same_direction_decides : (d e : Direction) → Decides (same d e) (d ≡ e)
same_direction_decides In In = (λ e. refl, λ e. refl)
same_direction_decides In Out = (λ e. cc, λ e. cc)
same_direction_decides Out In = (λ e. cc, λ e. cc)
same_direction_decides Out Out = (λ e. refl, λ e. refl)

-- the test of channels decides equality of values
pub same_channel_decides : (x y : Channel) → Decides (same_channel x y) (x ≡ y)
same_channel_decides x y =
    let d = Decides-and _ _ (same_direction_decides x.direction y.direction) (unsigned_Decides x.level y.level) in (
      λ e i. record { direction = (d.0 e).0 i; level = (d.0 e).1 i },
      λ e. d.1 (ap (λ (c : Channel). c.direction) e, ap (λ (c : Channel). c.level) e),
    )

-- the test of fields decides equality of values
same_fields_decides : (x y : Fields) → Decides (same_fields x y) (x ≡ y)
same_fields_decides x y =
    let d = Decides-and _ _ (unsigned_Decides x.kind y.kind) (Decides-and _ _ (unsigned_Decides x.target y.target) (Decides-and _ _ (unsigned_Decides x.first y.first) (Decides-and _ _ (unsigned_Decides x.second y.second) (Decides-and _ _ (signed_Decides x.number y.number) (Decides-and _ _ (unsigned_Decides x.place y.place) (unsigned_Decides x.channel y.channel)))))) in (
      λ e i. record {
        kind = (d.0 e).0 i;
        target = (d.0 e).1.0 i;
        first = (d.0 e).1.1.0 i;
        second = (d.0 e).1.1.1.0 i;
        number = (d.0 e).1.1.1.1.0 i;
        place = (d.0 e).1.1.1.1.1.0 i;
        channel = (d.0 e).1.1.1.1.1.1 i;
      },
      λ e. d.1 (ap (λ (f : Fields). f.kind) e, (ap (λ (f : Fields). f.target) e, (ap (λ (f : Fields). f.first) e, (ap (λ (f : Fields). f.second) e, (ap (λ (f : Fields). f.number) e, (ap (λ (f : Fields). f.place) e, ap (λ (f : Fields). f.channel) e)))))),
    )

-- the test of instructions decides equality of values: each comes back from its fields
pub same_instruction_decides : (x y : Instruction) → Decides (same_instruction x y) (x ≡ y)
same_instruction_decides x y =
    let d = same_fields_decides (fields_of x) (fields_of y) in (
      λ e. sym (instruction_back x) ∙ ap instruction_from (d.0 e) ∙ instruction_back y,
      λ e. d.1 (ap fields_of e),
    )
