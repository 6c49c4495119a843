-- The law of an instruction, read part by part. Assumes nothing.
use Rattle.std.proofs.Common.{◌≡◌, ℕ, ◌<◌, ◌≤◌, true, false, ltb, leb, get_or, sym, refl}
use Rattle.std.proofs.lemmas.Bool.{ltb-true, leb-true, and_parts}
use Rattle.script.specs.Laws.{blank, same, directed, sound}
use Rattle.script.specs.declared.parts.Direction.{Direction}
use Rattle.script.specs.declared.parts.Direction.TheVariants.{In, Out}
use Rattle.script.specs.declared.parts.Instruction.{Instruction}
use Rattle.script.specs.declared.parts.Instruction.TheVariants.{Skip, Set, Compute, Jump, Input, Output, Stop}
use Rattle.meaning.specs.Programs.{Program, Sound, outward_at, instruction_at}

-- a place that a jump goes to is in the script or its end, and a channel is the script's and of its direction
abbrev pub Fits : Program → Instruction → Type 0
Fits p Skip = Unit {0}
Fits p (Set t v) = Unit {0}
Fits p (Compute o t a b) = Unit {0}
Fits p (Jump a i) = i ≤ p.instruction_count
Fits p (Input t k) = (k < p.channel_count) × (outward_at p k ≡ false)
Fits p (Output a k) = (k < p.channel_count) × (outward_at p k ≡ true)
Fits p Stop = Unit {0}

-- what is inward is not outward
inward : (d : Direction) → same In d ≡ true → same Out d ≡ false
inward In e = refl
inward Out e = sym e

-- an instruction that keeps its law fits
pub fits : (p : Program) (i : Instruction) → sound p.channels p.channel_count p.instruction_count i ≡ true → Fits p i
fits p Skip e = tt
fits p (Set t v) e = tt
fits p (Compute o t a b) e = tt
fits p (Jump a i) e = leb-true i p.instruction_count (and_parts (ltb a 16) (leb i p.instruction_count) e).1
fits p (Input t k) e =
    let h = (and_parts (ltb t 16) (directed In p.channels p.channel_count k) e).1 in
    let q = and_parts (ltb k p.channel_count) (same In (get_or p.channels k blank).direction) h in
    (ltb-true k p.channel_count q.0, inward (get_or p.channels k blank).direction q.1)
fits p (Output a k) e =
    let h = (and_parts (ltb a 16) (directed Out p.channels p.channel_count k) e).1 in
    let q = and_parts (ltb k p.channel_count) (outward_at p k) h in
    (ltb-true k p.channel_count q.0, q.1)
fits p Stop e = tt

-- each instruction of a sound script fits
pub fits_at : (p : Program) → Sound p → (i : ℕ) → i < p.instruction_count → Fits p (instruction_at p i)
fits_at p s i h = fits p (instruction_at p i) (s.sound i h)
