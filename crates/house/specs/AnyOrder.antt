-- The order of any of the three regimes. Assumes nothing.
use Rattle.regime.specs.Order.{Order, Lawful}
use Rattle.page.specs.Rungs.{ladder_lawful}
use Rattle.class.specs.Covers.{compartments_lawful}
use Rattle.house.specs.Shown.{accepted, mapped_lawful}
use Rattle.page.specs.Laddered as ladder
use Rattle.class.specs.Marked as compartments
use Rattle.house.specs.Mapped as map
use Rattle.house.specs.declared.any_regime.AnyRegime.{AnyRegime}
use Rattle.house.specs.declared.any_regime.AnyRegime.TheVariants as any

-- the order of the regime that it is
abbrev pub order_of : AnyRegime → Order
order_of (any.Ladder r) = ladder.order_of r
order_of (any.Compartments r) = compartments.order_of r
order_of (any.Map r) = map.order_of r

-- each of the three keeps the laws
pub any_lawful : (a : AnyRegime) → Lawful (order_of a)
any_lawful (any.Ladder r) = ladder_lawful r.levels r.bounded.0 r.bounded.1
any_lawful (any.Compartments r) = compartments_lawful r.marks r.bounded
any_lawful (any.Map r) = mapped_lawful r.table.levels r.table.rows (accepted r.table.levels r.table.rows r.accepted)
