-- Scripts of accepted models, and the answers of files whose reading computes. Assumes nothing.
use Rattle.std.proofs.Common.{◌≡◌, ℕ, ◌-◌, ◌≤◌, Bool, true, ◌&&◌, ltb, List, [], ◌∷◌, ◌++◌, length, take, replicate, Ok, Err, Result, sym, refl, ap, ◌∙◌, arith, length-append}
use lib.ListN.{length-replicate}
use Rattle.std.proofs.lemmas.List.{take_at, get_or-append_right}
use Rattle.std.proofs.lemmas.Bool.{and_parts, ltb-true}
use Rattle.refusal.specs.declared.Fault.{Fault}
use Rattle.script.specs.declared.accepted.Script.{Script}
use Rattle.script.specs.declared.parts.Instruction.TheVariants.{Skip}
use Rattle.script.specs.Laws.{Blank, blank}
use Rattle.script.specs.Model.{Model, model_of, Accepted}
use Rattle.script.proofs.Tables.{blank_all}
use Rattle.script.proofs.Held.{below_table, all_sound_table}
use Rattle.format.specs.Numbers.{Bytes}
use Rattle.format.specs.Encoding.{encode}
use Rattle.format.specs.Reading.{read_file}
use Rattle.format.specs.Refusals.{Reads}
use Rattle.format.proofs.Files.{file_read, refused_read}
use Rattle.format.proofs.Theorems.{reads_ok, reads_err, read_back}
use Rattle.meaning.specs.Programs.{Program, program}
use Rattle.cases.specs.Table.{Reading}

-- a table of n places that begins with xs, blank past them
abbrev pub padded : {X : Type 0} → ℕ → X → List X → List X
padded n d xs = xs ++ replicate (n - length xs) d

module _ {X : Type 0} (n : ℕ) (d : X) (xs : List X) (few : length xs ≤ n) where
  -- its length
  padded_size : length (padded n d xs) ≡ n
  padded_size = omega (arith, length-append xs (replicate (n - length xs) d), length-replicate (n - length xs) d)

  -- its front
  padded_front : take (length xs) (padded n d xs) ≡ xs
  padded_front = take_at xs (replicate (n - length xs) d) (length xs) refl

  -- and what is past that
  padded_blank : Blank d (length xs) (padded n d xs)
  padded_blank j le = get_or-append_right xs (replicate (n - length xs) d) (length xs) j d refl le ∙ blank_all d (n - length xs) (j - length xs) (omega arith)

-- the program of a model: its lists in their tables
abbrev pub program_of : Model → Program
program_of m = record {
  levels = m.levels;
  channel_count = length m.channels;
  channels = padded 16 blank m.channels;
  instruction_count = length m.instructions;
  instructions = padded 256 Skip m.instructions;
}

-- every accepted model is held by a script
pub script_of : (m : Model) → Accepted m → (s : Script) × (model_of s ≡ m) × (program s ≡ program_of m)
script_of m a =
    let cs = m.channels in
    let is = m.instructions in
    let few : length cs ≤ 16 = a.headed.2 in
    let short : length is ≤ 256 = a.counted.1 in
    let front = padded_front 16 blank cs few in
    let front' = padded_front 256 Skip is short in
    let s : Script = record {
      levels = m.levels;
      channel_count = length cs;
      channels = padded 16 blank cs;
      instruction_count = length is;
      instructions = padded 256 Skip is;
      headed = a.headed;
      counted = a.counted;
      below = below_table m.levels (padded 16 blank cs) cs front a.below;
      sound = all_sound_table (padded 16 blank cs) cs (padded 256 Skip is) is front front' a.sound;
      tables = (padded_size 16 blank cs few, padded_size 256 Skip is short);
      unused_channels = padded_blank 16 blank cs few;
      unused_instructions = padded_blank 256 Skip is short;
    } in
    (s, (λ i. record { levels = m.levels; channels = front i; instructions = front' i }), refl)

-- whether each is a byte
abbrev pub all_bytes : List ℕ → Bool
all_bytes [] = true
all_bytes (b ∷ bs) = ltb b 256 && all_bytes bs

-- then they are bytes
pub bytes_from : (bs : List ℕ) → all_bytes bs ≡ true → Bytes bs
bytes_from [] e = tt
bytes_from (b ∷ bs) e = let p = and_parts (ltb b 256) _ e in (ltb-true _ _ p.0, bytes_from bs p.1)

module _ (bs : List ℕ) (bytes : Bytes bs) where
  -- where reading, as a function, gives a fault, nothing else keeps the reader's contract
  refused_only : (f : Fault) → read_file bs ≡ Err f → (q : Result Script Fault) → Reads bs q → q ≡ Err f
  refused_only f e (Ok s) d = absurd ((reads_err bs f bytes e).1 s d)
  refused_only f e (Err g) d = let same : ◌≡◌ {A = Result Model Fault} (Err g) (Err f) = sym (refused_read bs g d.0) ∙ e in cc

  -- so the file is refused with it
  pub refuses : (f : Fault) → read_file bs ≡ Err f → Reading bs (Err f)
  refuses f e = let told = reads_err bs f bytes e in record { reads = told; back = read_back bs (Err f) told; only = refused_only f e }

  -- of a script's file only that script keeps it
  accepted_only : (s : Script) → encode s ≡ bs → (q : Result Script Fault) → Reads bs q → q ≡ Ok s
  accepted_only s e q d = read_back bs q d s e

  -- where reading gives a model, the file is read as the script that holds it
  pub accepts : (m : Model) → read_file bs ≡ Ok m → (s : Script) × Reading bs (Ok s) × (model_of s ≡ m) × (program s ≡ program_of m)
  accepts m e =
      let made = script_of m (file_read bs m bytes e).0 in
      let s = made.0 in
      let told : encode s ≡ bs = reads_ok bs s bytes (e ∙ ap Ok (sym made.1)) in
      (s, record { reads = told; back = read_back bs (Ok s) told; only = accepted_only s told }, made.1, made.2)
