-- What a list of entries holds, and what calls make of it. Assumes nothing.
use Rattle.std.specs.Prelude.{ℕ, suc, ◌+◌, ◌-◌, Bool, true, cond, ◌&&◌, List, [], ◌∷◌, ◌++◌, take, drop, ℤ, pos, ◌==◌, nat_lt, slice_set}
use Rattle.std.proofs.Math.Seq.{paste}
use Rattle.strip.specs.declared.entry.Entry.{Entry}

-- what a read past the end of a list of entries gives
abbrev pub none : Entry
none = record { channel = 0; value = pos 0 }

-- the values of one channel, in the order of the entries
abbrev pub listed : ℕ → List Entry → List ℤ
listed c [] = []
listed c (e ∷ es) = cond (e.channel == c) (e.value ∷ listed c es) (listed c es)

-- every entry is of a channel below n
abbrev pub known : ℕ → List Entry → Bool
known n [] = true
known n (e ∷ es) = nat_lt e.channel n && known n es

-- where the first entry of a channel stands, or the length where it has none
abbrev pub place : ℕ → List Entry → ℕ
place c [] = 0
place c (e ∷ es) = cond (e.channel == c) 0 (suc (place c es))

-- all but the first entry of a channel; all where it has none
abbrev pub without : ℕ → List Entry → List Entry
without c [] = []
without c (e ∷ es) = cond (e.channel == c) es (e ∷ without c es)

-- the entry at that place goes: those after it among the first n move one toward the front, and all others stay
abbrev pub closed_up : ℕ → ℕ → List Entry → List Entry
closed_up at n es = paste es at (drop (at + 1) es) (n - (at + 1))

-- the lent entries after a put, of which the first n are in use: the next one becomes channel and value
abbrev pub entries_put : ℕ → ℕ → ℤ → List Entry → List Entry
entries_put n c v es = slice_set es n (record { channel = c; value = v })

-- the lent entries after a take, of which the first n are in use: those have the first of the channel no more, and the
-- last that was in use stays behind them (only asked where the channel has one)
abbrev pub entries_taken : ℕ → ℕ → List Entry → List Entry
entries_taken n c es = without c (take n es) ++ drop (n - 1) es
