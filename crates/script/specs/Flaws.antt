-- Why parts make no script: the first law that they break, in the order of the file. Assumes nothing.
use Rattle.std.specs.Prelude.{◌≡◌, ℕ, ◌<◌, ◌≤◌, false, List, length, get_or, Result, MatchResult, slice_index_or}
use Rattle.refusal.specs.declared.Refusal.{Refusal}
use Rattle.refusal.specs.declared.Refusal.TheVariants as why
use Rattle.refusal.specs.declared.Part.{Part}
use Rattle.refusal.specs.declared.Part.TheVariants as part
use Rattle.refusal.specs.declared.Flaw.{Flaw}
use Rattle.script.specs.declared.parts.Channel.{Channel}
use Rattle.script.specs.declared.parts.Instruction.{Instruction}
use Rattle.script.specs.declared.parts.Instruction.TheVariants.{Skip}
use Rattle.script.specs.declared.accepted.Script.{Script}
use Rattle.script.specs.Laws.{blank, sound, Headed, Counted, Below, Sound}
use Rattle.script.specs.Model.{Model, model_of}

-- a refusal together with the part that it is about
abbrev pub flaw : Refusal → Part → Flaw
flaw r p = record { refusal = r; part = p }

-- channel i is the first whose level is not below n
abbrev pub FirstHigh : ℕ → List Channel → ℕ → Type 0
FirstHigh n cs i = Below n cs i × (i < length cs) × (n ≤ (get_or cs i blank).level)

-- instruction i is the first that breaks its law
abbrev pub FirstUnsound : List Channel → List Instruction → ℕ → Type 0
FirstUnsound cs is i =
    Sound cs (length cs) (length is) is i
    × (i < length is)
    × (sound cs (length cs) (length is) (slice_index_or is i Skip) ≡ false)

-- the part p is the first that breaks a law, with its refusal r
abbrev pub Broken : Model → Refusal → Part → Type 0
Broken s r part.Head = (r ≡ why.Head) × (Headed s.levels (length s.channels) → ⊥)
Broken s r (part.Channel i) =
    (r ≡ why.Range)
    × Headed s.levels (length s.channels)
    × FirstHigh s.levels s.channels i
Broken s r part.Count =
    (r ≡ why.Head)
    × Headed s.levels (length s.channels)
    × Below s.levels s.channels (length s.channels)
    × (Counted (length s.instructions) → ⊥)
Broken s r (part.Instruction i) =
    (r ≡ why.Range)
    × Headed s.levels (length s.channels)
    × Below s.levels s.channels (length s.channels)
    × Counted (length s.instructions)
    × FirstUnsound s.channels s.instructions i
Broken s r part.Tail = ⊥

-- f tells the first part that breaks a law, and its refusal
abbrev pub Flawed : Model → Flaw → Type 0
Flawed s f = Broken s f.refusal f.part

-- r is the script that holds the model, or the model's first flaw
abbrev pub Builds : Model → Result Script Flaw → Type 0
Builds m r = MatchResult r (λ s. model_of s ≡ m) (λ f. Flawed m f)
