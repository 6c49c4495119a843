-- The promises are kept. Assumes nothing.
use Rattle.meaning.specs.Promises.{Kept}
use Rattle.meaning.proofs.Acting.{acts}
use Rattle.meaning.proofs.Advancing.{progress}
use Rattle.meaning.proofs.Conserving.{conservation}
use Rattle.meaning.proofs.Counting.{own_steps, turns}
use Rattle.meaning.proofs.Following.{agreement}
use Rattle.meaning.proofs.Hiding.{secrecy}
use Rattle.meaning.proofs.Limiting.{limited, tapes}
use Rattle.meaning.proofs.Turning.{moves, refusals}

-- by every opening with a sound script and a lawful regime
pub kept : Kept
kept o lawful sound =
    record {
      secrecy = secrecy o lawful sound;
      conservation = conservation o sound;
      progress = progress o lawful sound;
      agreement = agreement o sound;
      own_steps = own_steps o;
      tapes = tapes o;
      turns = turns o (limited o sound);
      moves = moves o lawful;
      acts = acts o sound (limited o sound);
      refusals = refusals o;
      limits = limited o sound;
    }
