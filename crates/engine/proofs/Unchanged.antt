-- What a call keeps of a visit. Assumes nothing.
use Rattle.std.proofs.Common.{◌≡◌}
use Rattle.engine.specs.declared.visit.Visit.{Visit}

-- a visit whose host is as it was is as it was
pub same_host : {R H : Type 0} (v : Visit R H) (h : H) → h ≡ v.host → record { script = v.script; regime = v.regime; host = h; course = v.course } ≡ v
same_host v h e = λ i. record { script = v.script; regime = v.regime; host = e i; course = v.course }
