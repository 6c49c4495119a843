-- Names byte by byte. Assumes nothing.
use Rattle.std.proofs.Common.{◌≡◌, ◌≢◌, ℕ, Bool, true, false, List, length, get_or, refl, ap}
use Rattle.std.specs.Str.{bytes_eq}
use Rattle.std.proofs.lemmas.Slice.Eq.{HasBytesAt, bytes_eq-Decides, text_from_reads}

-- a word of that length and those bytes is the name
pub same_name : (w p : List ℕ) → length w ≡ length p → HasBytesAt w 0 p → bytes_eq w p ≡ true
same_name w p long reads = (bytes_eq-Decides w p).1 (text_from_reads w p long reads)

never : (b : Bool) → (b ≡ true → ⊥) → b ≡ false
never true h = absurd (h refl)
never false h = refl

-- one of another length is not
pub other_length : (w p : List ℕ) → length w ≢ length p → bytes_eq w p ≡ false
other_length w p other = never (bytes_eq w p) (λ e. other (ap length ((bytes_eq-Decides w p).0 e)))

-- and neither is one of another byte at that place
other_at : (i : ℕ) (w p : List ℕ) → get_or w i 0 ≢ get_or p i 0 → bytes_eq w p ≡ false
other_at i w p other = never (bytes_eq w p) (λ e. other (ap (λ s. get_or s i 0) ((bytes_eq-Decides w p).0 e)))

-- the first
pub other_head : (w p : List ℕ) → get_or w 0 0 ≢ get_or p 0 0 → bytes_eq w p ≡ false
other_head = other_at 0

-- the second
pub other_second : (w p : List ℕ) → get_or w 1 0 ≢ get_or p 1 0 → bytes_eq w p ≡ false
other_second = other_at 1

-- the third
pub other_third : (w p : List ℕ) → get_or w 2 0 ≢ get_or p 2 0 → bytes_eq w p ≡ false
other_third = other_at 2
