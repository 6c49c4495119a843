-- The order of compartments. Assumes nothing.
use Rattle.regime.specs.Order.{Order}
use Rattle.class.specs.declared.compartments.Compartments.{Compartments}
use Rattle.class.specs.Compartments.{compartments}

-- what compartments answer, by their number of marks
abbrev pub order_of : Compartments → Order
order_of c = compartments c.marks
