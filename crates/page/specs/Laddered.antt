-- The order of a ladder. Assumes nothing.
use Rattle.regime.specs.Order.{Order}
use Rattle.page.specs.declared.ladder.Ladder.{Ladder}
use Rattle.page.specs.Ladder.{ladder}

-- what a ladder answers, by its number of levels
abbrev pub order_of : Ladder → Order
order_of l = ladder l.levels
