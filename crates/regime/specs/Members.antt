-- Sets of levels. Assumes nothing.
use Rattle.std.specs.Prelude.{false, slice_index_or}
use Rattle.regime.specs.declared.ready.ReadySet.{ReadySet}
use Rattle.regime.specs.Order.{Levels}

-- the levels in a ready set; nothing from 16 up is
abbrev pub members : ReadySet → Levels
members s a = slice_index_or s.flags a false
