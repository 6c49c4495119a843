-- The laws of hex text. Assumes nothing.
use Rattle.std.proofs.Common.{◌≡◌, ℕ, ◌+◌, ◌*◌, ◌/◌, ◌%◌, ◌<◌, Bool, true, false, cond, ◌&&◌, ◌||◌, List, [], ◌∷◌, ◌++◌, map, length, is_some, is_ok, Some, None, Ok, Err, Option, Result, sym, refl, ap, ◌∙◌, arith}
use Rattle.std.specs.Char.{is_ascii_hexdigit, to_ascii_lowercase}
use Rattle.std.specs.Int.{is_in_range}
use Rattle.std.specs.List.{AllByRecursion}
use Rattle.std.proofs.lemmas.Bool.{and_parts, and_from}
use Rattle.std.proofs.lemmas.Bool.Decides.{nat_tests}
use Rattle.text.specs.declared.error.LineError.{LineError}
use Rattle.text.specs.Hex.{nibble_of, digit_of, joined, byte_of, before, decoded, encoded, digits_of}
use Rattle.text.specs.HexLaws.{Accepted, Kept, ReadBack}

three : (x y z : Bool) (p q r : ℕ) → is_some (cond x (Some p) (cond y (Some q) (cond z (Some r) None))) ≡ ((x || z) || y)
three true y z p q r = refl
three false true true p q r = refl
three false true false p q r = refl
three false false true p q r = refl
three false false false p q r = refl

both : (m n : Option ℕ) → is_some (joined m n) ≡ (is_some m && is_some n)
both (Some h) (Some l) = refl
both (Some h) None = refl
both None n = refl

led : (o : Option ℕ) (r : Result (List ℕ) LineError) → is_ok (before o r) ≡ (is_some o && is_ok r)
led None r = refl
led (Some b) (Ok bs) = refl
led (Some b) (Err e) = refl

digit : (c : ℕ) → is_some (nibble_of c) ≡ is_ascii_hexdigit c
digit c = three (is_in_range 48 57 c) (is_in_range 97 102 c) (is_in_range 65 70 c) _ _ _

pair : (a b : ℕ) (t : List ℕ) → is_ok (decoded (a ∷ b ∷ t)) ≡ ((is_ascii_hexdigit a && is_ascii_hexdigit b) && is_ok (decoded t))
pair a b t =
    led (byte_of a b) (decoded t) ∙ ap (λ x. x && is_ok (decoded t)) (both (nibble_of a) (nibble_of b) ∙ (ap (λ x. x && is_some (nibble_of b)) (digit a) ∙ ap (λ x. is_ascii_hexdigit a && x) (digit b)))

is_hex : (t : List ℕ) → is_ok (decoded t) ≡ true → (length t % 2 ≡ 0) × AllByRecursion (λ c. is_ascii_hexdigit c ≡ true) t
is_hex [] e = (refl, tt)
is_hex (a ∷ []) e = absurd (let z : ◌≡◌ {A = ℕ} 0 1 = cc in omega arith)
is_hex (a ∷ b ∷ t) e =
    let (two, rest) = and_parts (is_ascii_hexdigit a && is_ascii_hexdigit b) _ (sym (pair a b t) ∙ e) in
    let (one, other) = and_parts (is_ascii_hexdigit a) (is_ascii_hexdigit b) two in
    let (even, all) = is_hex t rest in
    (omega arith, (one, (other, all)))

is_decoded : (t : List ℕ) → (length t % 2 ≡ 0) → AllByRecursion (λ c. is_ascii_hexdigit c ≡ true) t → is_ok (decoded t) ≡ true
is_decoded [] even all = refl
is_decoded (a ∷ []) even all = absurd (omega arith)
is_decoded (a ∷ b ∷ t) even (one, (other, all)) = pair a b t ∙ and_from _ _ (and_from _ _ one other) (is_decoded t (omega arith) all)

pub accepted : Accepted
accepted t = (is_hex t, λ h. is_decoded t h.0 h.1)

-- a digit, and the digit of what it stands for
same_digit : (c n : ℕ) → nibble_of c ≡ Some n → (digit_of n ≡ to_ascii_lowercase c) × (n < 16)
same_digit c n e = grind (arith, nat_tests)

nibble_digit : (n : ℕ) → n < 16 → nibble_of (digit_of n) ≡ Some n
nibble_digit n h = grind (arith, nat_tests)

parts : (h l : ℕ) → l < 16 → ((16 * h + l) / 16 ≡ h) × ((16 * h + l) % 16 ≡ l)
parts h l small = (omega arith, omega arith)

-- the digits of the byte that two digits write
same_pair : (a b h l : ℕ) → nibble_of a ≡ Some h → nibble_of b ≡ Some l → digits_of (16 * h + l) ≡ to_ascii_lowercase a ∷ to_ascii_lowercase b ∷ []
same_pair a b h l p q =
    let (low, small) = same_digit b l q in
    let (high, _) = same_digit a h p in
    let (over, under) = parts h l small in
    rw (over, under, high, low)

kept_pair : (a b : ℕ) (t bs : List ℕ) (m n : Option ℕ) (r : Result (List ℕ) LineError) → nibble_of a ≡ m → nibble_of b ≡ n → ((cs : List ℕ) → r ≡ Ok cs → encoded cs ≡ map to_ascii_lowercase t) → before (joined m n) r ≡ Ok bs → encoded bs ≡ map to_ascii_lowercase (a ∷ b ∷ t)
kept_pair a b t bs (Some h) (Some l) (Ok cs) p q rest e =
    let is : (16 * h + l) ∷ cs ≡ bs = cc in
    ap encoded (sym is) ∙ (ap (λ w. w ++ encoded cs) (same_pair a b h l p q) ∙ ap (λ w. to_ascii_lowercase a ∷ to_ascii_lowercase b ∷ w) (rest cs refl))
kept_pair a b t bs (Some h) (Some l) (Err x) p q rest e = absurd (let z : ◌≡◌ {A = ℕ} 0 1 = cc in omega arith)
kept_pair a b t bs (Some h) None r p q rest e = absurd (let z : ◌≡◌ {A = ℕ} 0 1 = cc in omega arith)
kept_pair a b t bs None n r p q rest e = absurd (let z : ◌≡◌ {A = ℕ} 0 1 = cc in omega arith)

pub kept : Kept
kept [] bs e = let is : [] ≡ bs = cc in ap encoded (sym is)
kept (a ∷ []) bs e = absurd (let z : ◌≡◌ {A = ℕ} 0 1 = cc in omega arith)
kept (a ∷ b ∷ t) bs e = kept_pair a b t bs (nibble_of a) (nibble_of b) (decoded t) refl refl (kept t) e

byte_again : (b : ℕ) → b < 256 → byte_of (digit_of (b / 16)) (digit_of (b % 16)) ≡ Some b
byte_again b h =
    let high = nibble_digit (b / 16) (omega arith) in
    let low = nibble_digit (b % 16) (omega arith) in
    ap (λ m. joined m (nibble_of (digit_of (b % 16)))) high ∙ (ap (joined (Some (b / 16))) low ∙ ap Some (omega arith))

pub read_back : ReadBack
read_back [] all = refl
read_back (b ∷ bs) (small, all) = ap (λ o. before o (decoded (encoded bs))) (byte_again b small) ∙ ap (before (Some b)) (read_back bs all)
