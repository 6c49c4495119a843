-- The order of an order map. Assumes nothing.
use Rattle.regime.specs.Order.{Order}
use Rattle.house.specs.declared.order_map.OrderMap.{OrderMap}
use Rattle.house.specs.Rows.{mapped}

-- what an order map answers, by its number of levels and its rows
abbrev pub order_of : OrderMap → Order
order_of m = mapped m.table.levels m.table.rows
