-- Values put in a row, on a strip. Assumes nothing.
use Rattle.std.proofs.Common.{◌≡◌, ℕ, suc, ◌+◌, ◌≤◌, List, [], ◌∷◌, ◌++◌, length, take, drop, set, ap, ◌∙◌, arith, length-set}
use lib.Seq.{sets}
use Rattle.std.proofs.lemmas.List.Edits.{sets-eq}
use Rattle.strip.specs.Stripped.{StripPuts, lent}
use Rattle.strip.specs.declared.entry.Entry.{Entry}
use Rattle.strip.specs.declared.strips.StripHost.{StripHost}
use Rattle.strip_device.specs.Rows.{PutAll}
use Rattle.strip_device.specs.Slices.{with_row}

-- from h to k these were stored behind the entries in use
record Stored (h : StripHost) (es : List Entry) (k : StripHost) : Type 0 where
  entries : lent k ≡ sets (lent h) h.len es
  used : k.len ≡ h.len + length es
  size : length (lent k) ≡ length (lent h)

stored : (es : List Entry) (h k : StripHost) → PutAll StripPuts es h k → Stored h es k
stored [] h k e =
    record {
      entries = ap lent e;
      used = let n : k.len ≡ h.len = ap (λ s. s.len) e in omega arith;
      size = ap (λ s. length (lent s)) e;
    }
stored (e ∷ es) h k (j, p, q) =
    let r = stored es j k q in
    let used : k.len ≡ j.len + length es = r.used in
    let one : j.len ≡ h.len + 1 = p.1 in
    let next : j.len ≡ suc h.len = omega arith in
    record {
      entries = r.entries ∙ ap (λ l. sets l j.len es) p.0 ∙ ap (λ n. sets (set (lent h) h.len e) n es) next;
      used = omega arith;
      size = r.size ∙ ap length p.0 ∙ length-set (lent h) h.len e;
    }

-- what the entries then hold, and how many are in use
pub row_stored : (es : List Entry) (h k : StripHost) → PutAll StripPuts es h k → (lent k ≡ with_row h.len es (lent h)) × (k.len ≡ h.len + length es)
row_stored es h k p =
    let s = stored es h k p in
    let used : k.len ≡ h.len + length es = s.used in
    let size : length (lent k) ≡ length (lent h) = s.size in
    let within : k.len ≤ length (lent k) = k.within in
    let enough : h.len + length es ≤ length (lent h) = omega arith in
    (s.entries ∙ sets-eq es (lent h) h.len enough, used)
