-- Every script keeps the laws of an accepted script. Assumes nothing.
use Rattle.meaning.specs.Programs.{EveryProgramSound}

-- by the facts that its type holds
pub every_sound : EveryProgramSound
every_sound s = record { headed = s.headed; counted = s.counted; below = s.below; sound = s.sound }
