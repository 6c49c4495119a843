use Rattle.std.proofs.Common.{◌≡◌, ◌<◌, List, [], ◌∷◌, ◌++◌, length, ℤ, sym, ap, ◌∙◌, subst, arith, to_z-of_z, w32, to_z, of_z}
use Rattle.copies.specs.Held.{tape_of}
use Rattle.copies.proofs.Rows.{read_as, changes}
use Rattle.copies.proofs.tapes.Tapes.push.Goals as goal

pub returns-then-channel-lt16-clause-added : goal.returns-then-channel-lt16-clause-added
returns-then-channel-lt16-clause-added c _ room =
    let ts = c.args.self.now.tapes in
    let k = c.args.channel in
    let inside : k < length ts = omega arith in
    let here = read_as tape_of ts k _ [] inside c.index-self-channel.is in
    let pushed = c.push.ensures.added (subst (λ (vs : List ℤ). length vs < 64) (sym here) room) in
    let value : to_z w32 (of_z w32 c.args.value) ≡ c.args.value = to_z-of_z c.ranges.value in
    changes tape_of ts k c.push.new.self _ [] inside (rw value at pushed ∙ ap (λ (vs : List ℤ). vs ++ (c.args.value ∷ [])) here)
