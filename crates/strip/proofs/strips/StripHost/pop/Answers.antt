-- The move is a take, and one entry fewer in use keeps the counts right. Assumes nothing.
use Rattle.std.proofs.Common.{◌≡◌, ◌-◌, ◌<◌, length, get_or, take, Ok, sym, refl, ap, ◌∙◌, arith, to_z-of_z, w32}
use Rattle.std.proofs.lemmas.List.{get_or-take}
use Rattle.strip.specs.Entries.{entries_taken, known, none, without}
use Rattle.strip.specs.Stripped.{in_use, lent}
use Rattle.strip.proofs.Removing.{held_taken, known_without, length_taken, moved, oldest_at}
use Rattle.strip.proofs.Tied.{tied_taken, bounded_set, shrinks}
use Rattle.strip.proofs.strips.StripHost.pop.Goals as goal

pub invariant_of-self : goal.invariant_of-self
invariant_of-self c =
    let s = c.args.self.now in
    let ch = c.args.channel in
    let i : ch < length s.counts = omega arith in
    let held = s.bounded ch in
    let some = c.requires.1 in
    let inside = c.find-at.ensures.within some in
    let counted = c.count_down.ensures in
    let taken : c.close_up.new.entries ≡ entries_taken s.len ch (lent s) = c.close_up.ensures ∙ moved s.len ch c.find-at.result (lent s) s.within c.find-at.ensures.first inside in
    let gone : take (s.len - 1) c.close_up.new.entries ≡ without ch (in_use s) = ap (take (s.len - 1)) taken ∙ held_taken s.len ch (lent s) s.within some in
    let size : length c.close_up.new.entries ≡ length (lent s) = ap length taken ∙ length_taken s.len ch (lent s) s.within some in
    record {
      few = s.few;
      slim = s.slim;
      roomy = s.roomy;
      enough = omega arith;
      within = omega arith;
      numbered = ap (known s.count) gone ∙ known_without s.count ch (in_use s) s.numbered;
      tied = λ d. rw (counted, gone) (tied_taken s.counts (in_use s) s.tied ch i d);
      bounded = λ d. rw counted (bounded_set s.counts ch (get_or s.counts ch 0 - 1) s.capacity i s.bounded (omega arith) d);
    }

pub returns-clause-answer : goal.returns-clause-answer
returns-clause-answer c =
    let s = c.args.self.now in
    let ch = c.args.channel in
    let inside = c.find-at.ensures.within c.requires.1 in
    let here = ap (λ e. e.value) (get_or-take s.len (lent s) c.find-at.result none inside) in
    (oldest_at ch (in_use s) c.requires.1).0
    ∙ ap Ok (ap (λ i. (get_or (in_use s) i none).value) (sym c.find-at.ensures.first) ∙ here ∙ sym c.value_at-value.ensures ∙ sym (to_z-of_z {w = w32} (record { sfits = c.value_at-value.type_inv })))

pub returns-clause-after : goal.returns-clause-after
returns-clause-after c =
    let s = c.args.self.now in
    let ch = c.args.channel in
    let inside = c.find-at.ensures.within c.requires.1 in
    shrinks s ch _ c.requires.1 (c.close_up.ensures ∙ moved s.len ch c.find-at.result (lent s) s.within c.find-at.ensures.first inside)

pub returns-clause-memory : goal.returns-clause-memory
returns-clause-memory c =
    let s = c.args.self.now in
    let inside = c.find-at.ensures.within c.requires.1 in
    (c.close_up.ensures ∙ moved s.len c.args.channel c.find-at.result (lent s) s.within c.find-at.ensures.first inside, refl, refl)
