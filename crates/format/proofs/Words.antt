-- Numbers of 32 bits with a sign, as a test and as the machine has them. Assumes nothing.
use Rattle.std.proofs.Common.{◌≡◌, true, ℤ, pos, negsuc, w32, SFits}
use Rattle.std.proofs.lemmas.Bool.{lt-ltb, ltb-true}
use Rattle.script.specs.Laws.{word}

pub word_fits : (z : ℤ) → word z ≡ true → SFits w32 z
word_fits (pos n) h = record { sfits = ltb-true _ _ h }
word_fits (negsuc n) h = record { sfits = ltb-true _ _ h }

pub fits_word : (z : ℤ) → SFits w32 z → word z ≡ true
fits_word (pos n) h = lt-ltb _ _ h.sfits
fits_word (negsuc n) h = lt-ltb _ _ h.sfits
