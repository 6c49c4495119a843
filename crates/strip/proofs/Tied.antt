-- The counts beside the entries. Assumes nothing.
use Rattle.std.proofs.Common.{◌≡◌, ℕ, zero, suc, ◌+◌, ◌-◌, ◌*◌, ◌<◌, ◌≤◌, false, cond, eqb, List, [], ◌∷◌, ◌++◌, length, get_or, take, set, ℤ, refl, ap, ◌∙◌, arith, length-append, length-take}
use mathlib.Core.Path.{fun_ext}
use Rattle.std.proofs.lemmas.Bool.Decides.{nat_tests}
use Rattle.std.proofs.lemmas.List.{take_more_set}
use Rattle.host.specs.Channels.{rest, with_list}
use Rattle.strip.specs.Entries.{listed, without, entries_put, entries_taken}
use Rattle.strip.specs.declared.entry.Entry.{Entry}
use Rattle.strip.specs.declared.strips.StripHost.{StripHost}
use Rattle.strip.specs.Stripped.{strip, in_use, lent, channels_of}
use Rattle.strip.proofs.Counting.{by_bool, listed_put, crowded}
use Rattle.strip.proofs.Removing.{listed_without, held_taken}

-- the counts where one is changed
pub at_set : (ns : List ℕ) (i n : ℕ) → i < length ns → (d : ℕ) → get_or (set ns i n) d 0 ≡ cond (eqb d i) n (get_or ns d 0)
at_set [] i n h d = absurd (omega arith)
at_set (m ∷ ms) zero n h zero = refl
at_set (m ∷ ms) zero n h (suc d) = let e : eqb (suc d) 0 ≡ false = grind (arith, nat_tests) in simp e
at_set (m ∷ ms) (suc i) n h zero = let e : eqb 0 (suc i) ≡ false = grind (arith, nat_tests) in simp e
at_set (m ∷ ms) (suc i) n h (suc d) =
    let e : eqb (suc d) (suc i) ≡ eqb d i = grind (arith, nat_tests) in
    simp e (at_set ms i n (omega arith) d)

-- they stay within a bound that the new one keeps
pub bounded_set : (ns : List ℕ) (i n k : ℕ) → i < length ns → ((d : ℕ) → get_or ns d 0 ≤ k) → n ≤ k → (d : ℕ) → get_or (set ns i n) d 0 ≤ k
bounded_set ns i n k h b l d = rw (at_set ns i n h d) (by_bool (λ t. cond t n (get_or ns d 0) ≤ k) l (b d) (eqb d i))

-- how many values are after the oldest
length_rest : (vs : List ℤ) → length (rest vs) ≡ length vs - 1
length_rest [] = omega arith
length_rest (v ∷ vs) = omega arith

module _ (ns : List ℕ) (es : List Entry) (tied : (d : ℕ) → get_or ns d 0 ≡ length (listed d es)) where
  -- one entry more, and one more counted
  pub tied_put : (e : Entry) → e.channel < length ns → (d : ℕ) → get_or (set ns e.channel (get_or ns e.channel 0 + 1)) d 0 ≡ length (listed d (es ++ (e ∷ [])))
  tied_put e h d =
      let t = tied e.channel in
      let u = tied d in
      rw (at_set ns e.channel (get_or ns e.channel 0 + 1) h d, listed_put es e d)
      (by_bool (λ b. cond b (get_or ns e.channel 0 + 1) (get_or ns d 0) ≡ length (cond b (listed e.channel es ++ (e.value ∷ [])) (listed d es)))
      (simp length-append (omega arith)) u (eqb d e.channel))

  -- one entry fewer, and one fewer counted
  pub tied_taken : (c : ℕ) → c < length ns → (d : ℕ) → get_or (set ns c (get_or ns c 0 - 1)) d 0 ≡ length (listed d (without c es))
  tied_taken c h d =
      let t = tied c in
      let u = tied d in
      rw (at_set ns c (get_or ns c 0 - 1) h d, listed_without c es d)
      (by_bool (λ b. cond b (get_or ns c 0 - 1) (get_or ns d 0) ≡ length (cond b (rest (listed c es)) (listed d es)))
      (omega (arith, length_rest (listed c es))) u (eqb d c))

-- an entry is left where a channel has room
pub room_left : (s : StripHost) (c : ℕ) → c < s.count → length (listed c (in_use s)) < s.capacity → s.len < length (lent s)
room_left s c h r =
    let es = lent s in
    let m : length (take s.len es) < s.count * s.capacity = crowded s.count s.capacity c (take s.len es) h s.numbered (λ d. let u = s.tied d in let b = s.bounded d in omega arith) r in
    omega (arith, length-take s.len es)

-- an entry more is a value more on its channel
pub grows : (s : StripHost) (c : ℕ) (v : ℤ) (es : List Entry) → s.len < length (lent s) → es ≡ entries_put s.len c v (lent s) → strip s.count s.capacity (take (s.len + 1) es) ≡ with_list (channels_of s) c ((channels_of s).list c ++ (v ∷ []))
grows s c v es left e =
    let placed = ap (take (s.len + 1)) e ∙ take_more_set (lent s) s.len (record { channel = c; value = v }) left in
    ap (λ h. record { count = s.count; capacity = λ _. s.capacity; list = h }) (fun_ext (λ d. ap (listed d) placed ∙ listed_put (in_use s) (record { channel = c; value = v }) d))

-- an entry fewer is a value fewer on its channel
pub shrinks : (s : StripHost) (c : ℕ) (es : List Entry) → 0 < length (listed c (in_use s)) → es ≡ entries_taken s.len c (lent s) → strip s.count s.capacity (take (s.len - 1) es) ≡ with_list (channels_of s) c (rest ((channels_of s).list c))
shrinks s c es some e =
    let gone = ap (take (s.len - 1)) e ∙ held_taken s.len c (lent s) s.within some in
    ap (λ h. record { count = s.count; capacity = λ _. s.capacity; list = h }) (fun_ext (λ d. ap (listed d) gone ∙ listed_without c (in_use s) d))
