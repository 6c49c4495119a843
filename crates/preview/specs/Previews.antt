-- Rows of steps, and what they tell. Assumes nothing.
use Rattle.std.specs.Prelude.{◌≡◌, ℕ, ◌+◌, Bool, cond, List, [], ◌∷◌, ◌++◌, length, ℤ, ◌==◌}
use Rattle.meaning.specs.Copies.{Copy, first, plain_run}
use Rattle.meaning.specs.Programs.{Program}
use Rattle.meaning.specs.Visits.{put_on}
use Rattle.preview.specs.Acts.{Stepped}
use Rattle.preview.specs.declared.acts.Did.{Did}
use Rattle.preview.specs.declared.acts.Did.TheVariants.{Inner, Got, Defaulted, Wrote, Waits, Ended}

-- the value that a step wrote on channel k, if it did
abbrev pub wrote_on : ℕ → Did → List ℤ
wrote_on k Inner = []
wrote_on k (Got j v) = []
wrote_on k (Defaulted j) = []
wrote_on k (Wrote j v) = cond (k == j) (v ∷ []) []
wrote_on k (Waits j) = []
wrote_on k Ended = []

-- the values that several steps wrote on channel k, oldest first
abbrev pub told_on : ℕ → List Did → List ℤ
told_on k [] = []
told_on k (r ∷ rs) = wrote_on k r ++ told_on k rs

-- 1 for a step that counts, 0 for one that waited
abbrev pub moved : Did → ℕ
moved Inner = 1
moved (Got j v) = 1
moved (Defaulted j) = 1
moved (Wrote j v) = 1
moved (Waits j) = 0
moved Ended = 1

-- how many steps count: all but those that waited
abbrev pub moves : List Did → ℕ
moves [] = 0
moves (r ∷ rs) = moved r + moves rs

-- the script, the channels that are given a list, and the lists
module _ (sc : Program) (given : ℕ → Bool) (list : ℕ → List ℤ) where
  -- steps one after another from the beginning: what each did, oldest first, and the copy that they leave
  pub data Steps : List Did → Copy → Type 0 where
    begun : Steps [] first
    one_more : (rs : List Did) (r : Did) (c d : Copy) → Steps rs c → Stepped sc given list c r d → Steps (rs ++ (r ∷ [])) d

-- such a row leads to the plain run after as many steps, which has written what they told
abbrev pub EveryPreview : Type 0
EveryPreview =
    (sc : Program) (given : ℕ → Bool) (list : ℕ → List ℤ) (rs : List Did) (c : Copy) → Steps sc given list rs c →
    record { copy = c; written = λ k. told_on k rs } ≡ plain_run sc given list (length rs)

-- rows of steps where values may be added to the lists between steps; the lists are those at the end
pub data Fed (sc : Program) (given : ℕ → Bool) : List Did → (ℕ → List ℤ) → Copy → Type 0 where
  begins : (list : ℕ → List ℤ) → Fed sc given [] list first
  steps : (rs : List Did) (r : Did) (list : ℕ → List ℤ) (c d : Copy) → Fed sc given rs list c → Stepped sc given list c r d → Fed sc given (rs ++ (r ∷ [])) list d
  adds : (rs : List Did) (list : ℕ → List ℤ) (c : Copy) (k : ℕ) (v : ℤ) → Fed sc given rs list c → Fed sc given rs (put_on k v list) c

-- values that are added late are as if they had been there from the beginning: the steps that did not wait lead to the
-- plain run over the whole lists, after as many steps
abbrev pub EveryLateValue : Type 0
EveryLateValue =
    (sc : Program) (given : ℕ → Bool) (list : ℕ → List ℤ) (rs : List Did) (c : Copy) → Fed sc given rs list c →
    record { copy = c; written = λ k. told_on k rs } ≡ plain_run sc given list (moves rs)
