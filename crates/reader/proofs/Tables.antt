-- Tables whose first slots were filled. Assumes nothing.
use Rattle.std.proofs.Common.{◌≡◌, ℕ, ◌+◌, ◌-◌, ◌≤◌, List, ◌++◌, length, take, drop, replicate, ◌∙◌, arith, length-append, length-drop}
use lib.ListN.{length-replicate}
use Rattle.std.proofs.lemmas.List.{get_or-drop, get_or-append_right, take_at}
use Rattle.script.specs.Laws.{Blank}
use Rattle.script.proofs.Tables.{blank_all}

-- a table of n slots that begins with the k items, and holds d past them
pub record Table {X : Type 0} (n : ℕ) (d : X) (k : ℕ) (items table : List X) : Type 0 where
  pub size : length table ≡ n
  pub unused : Blank d k table
  pub front : take k table ≡ items

-- what is left of a table of d when its first k slots are filled with as many items
pub filled : {X : Type 0} (n : ℕ) (d : X) (k : ℕ) (items : List X) → length items ≡ k → k ≤ n → Table n d k items (items ++ drop k (replicate n d))
filled n d k items long le = record {
  size = omega (arith, length-append items (drop k (replicate n d)), length-drop k (replicate n d), length-replicate n d);
  unused = λ j past.
      get_or-append_right items (drop k (replicate n d)) k j d long past ∙ get_or-drop k (replicate n d) (j - k) d ∙ blank_all d n (k + (j - k)) (omega arith);
  front = take_at items (drop k (replicate n d)) k long;
}
