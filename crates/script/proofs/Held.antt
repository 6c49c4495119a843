-- What a script holds: accepted models, each by one value. Assumes nothing.
use Rattle.std.proofs.Common.{◌≡◌, ℕ, ◌<◌, true, false, ◌&&◌, ltb, List, length, get_or, take, sym, refl, ap, ◌∙◌, subst, ⊎_elim, arith}
use Rattle.std.proofs.lemmas.List.{get_or-take, length-take-le}
use Rattle.std.proofs.lemmas.Bool.{cases_lt, le-ltb}
use Rattle.script.specs.declared.parts.Direction.{Direction}
use Rattle.script.specs.declared.parts.Direction.TheVariants.{In, Out}
use Rattle.script.specs.declared.parts.Channel.{Channel}
use Rattle.script.specs.declared.parts.Instruction.{Instruction}
use Rattle.script.specs.declared.parts.Instruction.TheVariants.{Skip, Set, Compute, Jump, Input, Output, Stop}
use Rattle.script.specs.declared.accepted.Script.{Script}
use Rattle.script.specs.EqualScripts.{one_value}
use Rattle.script.specs.Laws.{blank, same, directed, sound, Below, Sound}
use Rattle.script.specs.Model.{Model, model_of, EveryScriptAccepted, SameScript}
use Rattle.script.proofs.Tables.{same_table}

-- a channel among the first c is the same in a table and in its front
directed_front : (d : Direction) (table : List Channel) (c k : ℕ) → directed d (take c table) c k ≡ directed d table c k
directed_front d table c k =
    ⊎_elim
    (λ lt. ap (λ (x : Channel). ltb k c && same d x.direction) (get_or-take c table k blank lt))
    (λ le. let no : ltb k c ≡ false = le-ltb _ _ le in simp no)
    (cases_lt k c)

-- and so is the law of an instruction
sound_front : (table : List Channel) (c m : ℕ) (i : Instruction) → sound (take c table) c m i ≡ sound table c m i
sound_front table c m Skip = refl
sound_front table c m (Set target number) = refl
sound_front table c m (Compute operation target first second) = refl
sound_front table c m (Jump first place) = refl
sound_front table c m (Input target channel) = ap (λ b. ltb target 16 && b) (directed_front In table c channel)
sound_front table c m (Output first channel) = ap (λ b. ltb first 16 && b) (directed_front Out table c channel)
sound_front table c m Stop = refl

-- how many channels and instructions a script holds
pub channels_held : (s : Script) → length (model_of s).channels ≡ s.channel_count
channels_held s = length-take-le s.channel_count s.channels (omega arith)

pub instructions_held : (s : Script) → length (model_of s).instructions ≡ s.instruction_count
instructions_held s = length-take-le s.instruction_count s.instructions (omega arith)

pub every_script_accepted : EveryScriptAccepted
every_script_accepted s =
    let c = s.channel_count in
    let m = s.instruction_count in
    let cs = (model_of s).channels in
    let is = (model_of s).instructions in
    let ec = channels_held s in
    let em = instructions_held s in
    record {
      headed = (omega arith, omega arith, omega arith);
      counted = (omega arith, omega arith);
      below = λ k lt.
          let lt' : k < c = omega arith in
          subst (λ (x : Channel). x.level < s.levels) (sym (get_or-take c s.channels k blank lt')) (s.below k lt');
      sound = λ k lt.
          let lt' : k < m = omega arith in
          let here = sound_front s.channels c m (get_or s.instructions k Skip) ∙ s.sound k lt' in
          let there = subst (λ (i : Instruction). sound cs c m i ≡ true) (sym (get_or-take m s.instructions k Skip lt')) here in
          subst (λ j. sound cs (length cs) j (get_or is k Skip) ≡ true) (sym em) (subst (λ j. sound cs j m (get_or is k Skip) ≡ true) (sym ec) there);
    }

pub same_script : SameScript
same_script s t e =
    let levels : s.levels ≡ t.levels = ap (λ (m : Model). m.levels) e in
    let c : s.channel_count ≡ t.channel_count = sym (channels_held s) ∙ ap (λ (m : Model). length m.channels) e ∙ channels_held t in
    let m : s.instruction_count ≡ t.instruction_count = sym (instructions_held s) ∙ ap (λ (m : Model). length m.instructions) e ∙ instructions_held t in
    let cs : s.channels ≡ t.channels =
    same_table blank s.channel_count s.channels t.channels (s.tables.0 ∙ sym t.tables.0) s.unused_channels
    (λ k le. t.unused_channels k (omega arith))
    (ap (λ (m : Model). m.channels) e ∙ ap (λ k. take k t.channels) (sym c)) in
    let is : s.instructions ≡ t.instructions =
    same_table Skip s.instruction_count s.instructions t.instructions (s.tables.1 ∙ sym t.tables.1) s.unused_instructions
    (λ k le. t.unused_instructions k (omega arith))
    (ap (λ (m : Model). m.instructions) e ∙ ap (λ k. take k t.instructions) (sym m)) in
    one_value s t levels c cs m is

-- the laws of a list are those of a table that begins with it
pub below_table : (n : ℕ) (table xs : List Channel) → take (length xs) table ≡ xs → Below n xs (length xs) → Below n table (length xs)
below_table n table xs e h k lt =
    subst (λ (x : Channel). x.level < n) (ap (λ l. get_or l k blank) (sym e) ∙ get_or-take (length xs) table k blank lt) (h k lt)

pub all_sound_table : (table cs : List Channel) (is-table is : List Instruction) → take (length cs) table ≡ cs → take (length is) is-table ≡ is → Sound cs (length cs) (length is) is (length is) → Sound table (length cs) (length is) is-table (length is)
all_sound_table table cs is-table is ec ei h k lt =
    let here = subst (λ (i : Instruction). sound cs (length cs) (length is) i ≡ true) (ap (λ l. get_or l k Skip) (sym ei) ∙ get_or-take (length is) is-table k Skip lt) (h k lt) in
    sym (sound_front table (length cs) (length is) (get_or is-table k Skip)) ∙ ap (λ l. sound l (length cs) (length is) (get_or is-table k Skip)) ec ∙ here
