-- An entry is left, and one more in use keeps the counts right. Assumes nothing.
use Rattle.std.proofs.Common.{◌≡◌, ◌+◌, ◌<◌, [], ◌∷◌, ◌++◌, length, get_or, take, ap, ◌∙◌, arith, length-set, to_z-of_z}
use Rattle.std.proofs.lemmas.List.{take_more_set}
use Rattle.strip.specs.Entries.{entries_put, known}
use Rattle.strip.specs.Stripped.{in_use, lent}
use Rattle.strip.specs.declared.entry.Entry.{Entry}
use Rattle.strip.proofs.Counting.{known_push}
use Rattle.strip.proofs.Tied.{tied_put, bounded_set, room_left, grows}
use Rattle.strip.proofs.strips.StripHost.push.Goals as goal

pub store-requires : goal.store-requires
store-requires c = room_left c.args.self.now c.args.channel c.requires.0 c.requires.1

pub invariant_of-self : goal.invariant_of-self
invariant_of-self c =
    let s = c.args.self.now in
    let ch = c.args.channel in
    let e : Entry = record { channel = ch; value = c.args.value } in
    let room = c.requires.1 in
    let left = room_left s ch c.requires.0 room in
    let held = s.tied ch in
    let i : ch < length s.counts = omega arith in
    let counted = c.count_up.ensures in
    let stored : c.store.new.entries ≡ entries_put s.len ch c.args.value (lent s) = c.store.ensures ∙ ap (λ v. entries_put s.len ch v (lent s)) (to_z-of_z c.ranges.value) in
    let placed : take (s.len + 1) c.store.new.entries ≡ in_use s ++ (e ∷ []) = ap (take (s.len + 1)) stored ∙ take_more_set (lent s) s.len e left in
    let size : length c.store.new.entries ≡ length (lent s) = ap length stored ∙ length-set (lent s) s.len e in
    record {
      few = s.few;
      slim = s.slim;
      roomy = s.roomy;
      enough = omega arith;
      within = omega arith;
      numbered = ap (known s.count) placed ∙ known_push s.count (in_use s) e s.numbered c.requires.0;
      tied = λ d. rw (counted, placed) (tied_put s.counts (in_use s) s.tied e i d);
      bounded = λ d. rw counted (bounded_set s.counts ch (get_or s.counts ch 0 + 1) s.capacity i s.bounded (omega arith) d);
    }

pub returns-clause-after : goal.returns-clause-after
returns-clause-after c =
    let s = c.args.self.now in
    let ch = c.args.channel in
    grows s ch c.args.value _ (room_left s ch c.requires.0 c.requires.1) (c.store.ensures ∙ ap (λ v. entries_put s.len ch v (lent s)) (to_z-of_z c.ranges.value))
