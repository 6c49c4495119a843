-- The number and the name of each refusal. Assumes nothing.
use Rattle.std.specs.Prelude.{List, ℕ, codes}
use Rattle.refusal.specs.declared.Refusal.{Refusal}
use Rattle.refusal.specs.declared.Refusal.TheVariants.{Short, Head, Map, Zero, Range, Tail, Order, Levels, Channels, Channel, Direction, Level, Buffer, Full, Empty, Spent}

-- the number that the table of docs/refusals.md gives each refusal
abbrev pub number_of : Refusal → ℕ
number_of Short = 1
number_of Head = 2
number_of Map = 3
number_of Zero = 4
number_of Range = 5
number_of Tail = 6
number_of Order = 7
number_of Levels = 8
number_of Channels = 9
number_of Channel = 10
number_of Direction = 11
number_of Level = 12
number_of Buffer = 13
number_of Full = 14
number_of Empty = 15
number_of Spent = 16

-- the NAME that the table of docs/refusals.md gives each refusal, letter by letter
abbrev pub name_of : Refusal → List ℕ
name_of Short = codes "SHORT"
name_of Head = codes "HEAD"
name_of Map = codes "MAP"
name_of Zero = codes "ZERO"
name_of Range = codes "RANGE"
name_of Tail = codes "TAIL"
name_of Order = codes "ORDER"
name_of Levels = codes "LEVELS"
name_of Channels = codes "CHANNELS"
name_of Channel = codes "CHANNEL"
name_of Direction = codes "DIRECTION"
name_of Level = codes "LEVEL"
name_of Buffer = codes "BUFFER"
name_of Full = codes "FULL"
name_of Empty = codes "EMPTY"
name_of Spent = codes "SPENT"
