-- The words after a command's name. Assumes nothing.
use Rattle.std.specs.Prelude.{◌≡◌, ℕ, zero, suc, cond, ◌&&◌, ◌⊎◌, List, [], ◌∷◌, length, replicate, ℤ, pos, neg_ℤ, Some, None, Ok, Err, codes, Option, Result, ◌==◌, nat_le, nat_lt}
use Rattle.std.specs.Borrow.{Bor}
use Rattle.std.specs.Fn.{Shared}
use Rattle.std.specs.Option.{ok_or}
use Rattle.std.specs.Str.{bytes_eq}
use Rattle.text.specs.declared.error.LineError.{LineError}
use Rattle.text.specs.declared.error.LineError.TheVariants.{Missing, Extra, Number, Room, Row, Mask, Capacity, Value, Memory}
use Rattle.text.specs.Answers.{Gives, then}
use Rattle.text.specs.Hex.{decoded, encoded}
use Rattle.text.specs.Numbers.{number_in}

-- the bytes that a word stands for: none for `-`, else those that it writes in hex
abbrev pub bytes_of : List ℕ → Result (List ℕ) LineError
bytes_of w = cond (bytes_eq w (codes "-")) (Ok []) (decoded w)

-- the word that stands for bytes
abbrev pub word_of : List ℕ → List ℕ
word_of [] = codes "-"
word_of (b ∷ bs) = encoded (b ∷ bs)

-- a number in decimal
abbrev pub count_of : List ℕ → Result ℕ LineError
count_of w = ok_or (number_in 10 w) Number

-- the number of bytes of a buffer to write to, at most 65536
abbrev pub room_of : List ℕ → Result ℕ LineError
room_of w = then (count_of w) (λ n. cond (nat_le n 65536) (Ok n) (Err Room))

-- a set of levels, as the number in hex whose bit l is one where level l is in it
abbrev pub mask_of : List ℕ → Result ℕ LineError
mask_of w = ok_or (number_in 16 w) Mask

-- the number n that the word w writes, where w is four characters long
abbrev pub four_digits : List ℕ → Option ℕ → Result ℕ LineError
four_digits w None = Err Row
four_digits w (Some n) = cond (length w == 4 && nat_lt n 65536) (Ok n) (Err Row)

-- a row of an order map: four hex digits
abbrev pub row_of : List ℕ → Result ℕ LineError
row_of w = four_digits w (number_in 16 w)

-- n, where a channel can have it as its capacity: 1 to 65535
abbrev pub bounded : Option ℕ → Result ℕ LineError
bounded None = Err Capacity
bounded (Some n) = cond (nat_le 1 n && nat_le n 65535) (Ok n) (Err Capacity)

-- a capacity of a channel, in decimal
abbrev pub capacity_of : List ℕ → Result ℕ LineError
capacity_of w = bounded (number_in 10 w)

-- n, where that is a value
abbrev pub positive : Option ℕ → Result ℤ LineError
positive None = Err Value
positive (Some n) = cond (nat_le n 2147483647) (Ok (pos n)) (Err Value)

-- minus n, where that is a value
abbrev pub negative : Option ℕ → Result ℤ LineError
negative None = Err Value
negative (Some n) = cond (nat_le n 2147483648) (Ok (neg_ℤ (pos n))) (Err Value)

-- a value of a channel: a number in decimal, or one after a minus sign
abbrev pub value_of : List ℕ → Result ℤ LineError
value_of [] = Err Value
value_of (c ∷ cs) = cond (c == 45) (negative (number_in 10 cs)) (positive (number_in 10 (c ∷ cs)))

-- what f makes of the first k words, or of all where they are fewer, and the words after them; the first error ends it
abbrev pub entries_from : (List ℕ → Result ℕ LineError) → ℕ → List (List ℕ) → Result (List ℕ × List (List ℕ)) LineError
entries_from f zero ws = Ok ([], ws)
entries_from f (suc k) [] = Ok ([], [])
entries_from f (suc k) (w ∷ ws) = then (f w) (λ r. then (entries_from f k ws) (λ p. Ok (r ∷ p.0, p.1)))

-- k entries: what f makes of the words that are given, and then 0; and the words after them; the first error ends it
abbrev pub table_from : (List ℕ → Result ℕ LineError) → ℕ → List (List ℕ) → Result (List ℕ × List (List ℕ)) LineError
table_from f zero ws = Ok ([], ws)
table_from f (suc k) [] = Ok (replicate (suc k) 0, [])
table_from f (suc k) (w ∷ ws) = then (f w) (λ r. then (table_from f k ws) (λ p. Ok (r ∷ p.0, p.1)))

-- the entries before the first that is 0
abbrev pub before_zero : List ℕ → List ℕ
before_zero [] = []
before_zero (x ∷ xs) = cond (x == 0) [] (x ∷ before_zero xs)

-- r is the list of what stands in a table before the first 0, seen through view, unless memory failed, or the error that t is
abbrev pub Listed : {X : Type 0} → (X → List ℕ) → Result (List ℕ) LineError → Result X LineError → Type 0
Listed view (Ok t) r = Gives view (Ok (before_zero t)) r
Listed view (Err e) r = r ≡ Err e

-- what `read` answers at a word is what f makes of it
abbrev pub Reads : {F : Type 0} → Shared F (Bor (List ℕ) × Unit {0}) (Result ℕ LineError) → F → (List ℕ → Result ℕ LineError) → Type 0
Reads g read f = (w : Bor (List ℕ)) (r : Result ℕ LineError) → g.post read (w, tt) r → r ≡ f w.now

-- what f makes of the first word, and the words after it; a word is missing where there is none
abbrev pub taken : {X : Type 0} → (List ℕ → Result X LineError) → List (List ℕ) → Result (X × List (List ℕ)) LineError
taken f [] = Err Missing
taken f (w ∷ ws) = then (f w) (λ x. Ok (x, ws))

-- r and the words vs are the answer s, seen through view, unless memory failed
abbrev pub Takes : {X Y : Type 0} → (X → Y) → Result (Y × List (List ℕ)) LineError → Result X LineError → List (List ℕ) → Type 0
Takes view s (Ok x) vs = s ≡ Ok (view x, vs)
Takes view s (Err e) vs = (e ≡ Memory) ⊎ (s ≡ Err e)

-- there are no words left: else there is a word too many
abbrev pub ended : List (List ℕ) → Result (Unit {0}) LineError
ended [] = Ok tt
ended (w ∷ ws) = Err Extra
