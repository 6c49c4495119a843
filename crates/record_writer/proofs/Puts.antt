-- What is written where. Assumes nothing.
use Rattle.std.proofs.Common.{◌≡◌, ℕ, ◌+◌, ◌-◌, ◌%◌, ◌<◌, ◌≤◌, ◌==◌, Bool, not, if◌then◌else◌, ⊎_elim, List, [], ◌∷◌, ◌++◌, length, take, drop, refl, sym, ap, ◌∙◌, append_assoc, add_assoc, zero-add, arith, length-append, length-drop}
use borrow.Rule.Slice.PartMut.{put_mid}
use Rattle.std.proofs.lemmas.List.{append-nil, drop-drop, drop_all, take_at, drop_at, length-take-le, take-append-drop}
use Rattle.std.proofs.lemmas.Bool.{cases_Bool}
use Rattle.format.specs.Numbers.{bytes_of}
use Rattle.format.specs.Encoding.{field_of}
use Rattle.record_writer.specs.Written.{written}

-- what a copy into a slice leaves
pub put_is : (p k : ℕ) (old ys zs : List ℕ) → ys ≡ zs → k ≡ length zs → put_mid p k old ys ≡ written p zs old
put_is p k old ys zs e l = simp (e, l, drop-drop)

-- one part after another is both at once
pub written_more : (p : ℕ) (a b old : List ℕ) → p ≤ length old → written (p + length a) b (written p a old) ≡ written p (a ++ b) old
written_more p a b old h =
    let front = length-take-le p old h in
    let whole : length (take p old ++ a) ≡ p + length a = simp (length-append, front) in
    let rest = drop (p + length a) old in
    let same : written p a old ≡ (take p old ++ a) ++ rest = sym (append_assoc (take p old) a rest) in
    let head : take (p + length a) ((take p old ++ a) ++ rest) ≡ take p old ++ a = take_at _ rest _ whole in
    let sum : p + length a + length b ≡ p + length (a ++ b) = simp (length-append, add_assoc) in
    let tail : drop (p + length a + length b) ((take p old ++ a) ++ rest) ≡ drop (p + length (a ++ b)) old =
    sym (drop-drop (length b) (p + length a) _) ∙ ap (drop (length b)) (drop_at _ rest _ whole) ∙ drop-drop (length b) (p + length a) old ∙ ap (λ n. drop n old) sum in
    ap (written (p + length a) b) same ∙ ap (λ l. l ++ (b ++ drop (p + length a + length b) ((take p old ++ a) ++ rest))) head ∙ ap (λ l. (take p old ++ a) ++ (b ++ l)) tail ∙ simp append_assoc

-- a buffer stays as long as it was
pub length_written : (p : ℕ) (a old : List ℕ) → p + length a ≤ length old → length (written p a old) ≡ length old
length_written p a old h =
    let front = length-take-le p old (omega arith) in
    simp (length-append, front, length-drop) (omega arith)

-- no bytes change nothing
pub nothing_written : (p : ℕ) (old : List ℕ) → written p [] old ≡ old
nothing_written p old = let same : p + 0 ≡ p = omega arith in ap (λ n. take p old ++ drop n old) same ∙ take-append-drop p old

-- bytes stand from p on, and at is the place after them
abbrev pub Sofar : ℕ → List ℕ → List ℕ → ℕ → List ℕ → Type 0
Sofar p bytes old at new = (at ≡ p + length bytes) × (new ≡ written p bytes old)

-- and more bytes after them
pub sofar_more : (p : ℕ) (a old : List ℕ) (at : ℕ) (new b : List ℕ) (at' : ℕ) (new' : List ℕ) → p ≤ length old → Sofar p a old at new → at' ≡ at + length b → new' ≡ written at b new → Sofar p (a ++ b) old at' new'
sofar_more p a old at new b at' new' h s e w =
    (simp length-append (omega (arith, s.0)), w ∙ simp (s.0, s.1) (written_more p a b old h))

-- nothing is written yet
pub sofar_none : (p : ℕ) (old : List ℕ) → Sofar p [] old p old
sofar_none p old = (omega arith, sym (nothing_written p old))

-- a field that is written where it is not 0
pub field_there : (w v : ℕ) (t : Bool) (bs : List ℕ) → t ≡ not (v == 0) → bs ≡ bytes_of w v → (if t then bs else []) ≡ field_of w v
field_there w v t bs e h = rw (e, h) (⊎_elim (λ x. rw x refl) (λ x. rw x refl) (cases_Bool (v == 0)))

-- and a field more after them
pub sofar_field : (p : ℕ) (a old : List ℕ) (at : ℕ) (new : List ℕ) (w v : ℕ) (t : Bool) (bs : List ℕ) (at' : ℕ) (new' : List ℕ) → p ≤ length old → Sofar p a old at new → at' ≡ at + length (if t then bs else []) → new' ≡ written at (if t then bs else []) new → t ≡ not (v == 0) → bs ≡ bytes_of w v → Sofar p (a ++ field_of w v) old at' new'
sofar_field p a old at new w v t bs at' new' h s e i there bytes =
    let same = field_there w v t bs there bytes in
    sofar_more p a old at new (field_of w v) at' new' h s (e ∙ ap (λ l. at + length l) same) (i ∙ ap (λ l. written at l new) same)

-- a byte that is written where it is not 0
abbrev byte_there : ℕ → List ℕ
byte_there v = if not (v == 0) then v ∷ [] else []

-- a byte is the one byte that its number has
one_byte : (v : ℕ) → v < 256 → v ∷ [] ≡ bytes_of 1 v
one_byte v h = let low : v % 256 ≡ v = omega arith in sym (ap (λ k. k ∷ []) low)

-- and such a byte more
sofar_byte : (p : ℕ) (a old : List ℕ) (at : ℕ) (new : List ℕ) (v at' : ℕ) (new' : List ℕ) → p ≤ length old → v < 256 → Sofar p a old at new → at' ≡ at + length (byte_there v) → new' ≡ written at (byte_there v) new → Sofar p (a ++ field_of 1 v) old at' new'
sofar_byte p a old at new v at' new' h small s e w = sofar_field p a old at new 1 v (not (v == 0)) (v ∷ []) at' new' h s e w refl (one_byte v small)

-- two such bytes one after another
pub bytes_written : (p : ℕ) (a b : ℕ) (old : List ℕ) (s : ℕ) (x new : List ℕ) → new ≡ written s (byte_there b) x → s ≡ p + length (byte_there a) → x ≡ written p (byte_there a) old → p ≤ length old → a < 256 → b < 256 → new ≡ written p (field_of 1 a ++ field_of 1 b) old
bytes_written p a b old s x new lb ea la h fa fb =
    let one = sofar_byte p [] old p old a s x h fa (sofar_none p old) ea la in
    (sofar_byte p (field_of 1 a) old s x b (s + length (byte_there b)) new h fb one refl lb).1

-- what stands at the front
pub front_of : (a old : List ℕ) → take (length a) (written 0 a old) ≡ a
front_of a old = take_at a (drop (0 + length a) old) (length a) refl

-- what stands at the front of a part up to the end stands there in the whole
pub put_at_end : (p : ℕ) (a old : List ℕ) → put_mid p (length old - p) old (written 0 a (drop p old)) ≡ written p a old
put_at_end p a old =
    let past : length old ≤ p + (length old - p) = omega arith in
    let none : drop (p + (length old - p)) old ≡ [] = drop_all _ old past in
    simp (none, drop-drop, append-nil, zero-add)
