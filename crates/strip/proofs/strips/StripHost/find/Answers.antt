-- The search is for the place. Assumes nothing.
use Rattle.std.proofs.Common.{◌≡◌, length, eqb, sym, ap, ◌∙◌, arith}
use Rattle.std.specs.List.{position}
use Rattle.std.specs.Option.{unwrap_or}
use Rattle.std.proofs.lemmas.List.{length-take-le}
use Rattle.strip.specs.Stripped.{in_use, lent}
use Rattle.strip.proofs.Removing.{found_at, place_within}
use Rattle.strip.proofs.strips.StripHost.find.Goals as goal

pub returns-clause-first : goal.returns-clause-first
returns-clause-first c =
    let s = c.args.self.now in
    let ch = c.args.channel in
    let n : length (in_use s) ≡ s.len = length-take-le s.len (lent s) s.within in
    c.unwrap_or.ensures
    ∙ ap (λ o. unwrap_or o s.len) c.search.ensures
    ∙ ap (unwrap_or (position (λ e. eqb e.channel ch) (in_use s))) (sym n)
    ∙ found_at ch (in_use s)

pub returns-clause-within : goal.returns-clause-within
returns-clause-within c h =
    let s = c.args.self.now in
    let first = returns-clause-first c in
    omega (arith, place_within s.len c.args.channel (lent s) s.within h)
