-- What the words of a line ask for. Assumes nothing.
use Rattle.std.specs.Prelude.{ℕ, cond, List, ℤ, Some, None, Ok, Err, vec_items, Option, Result, nat_le}
use Rattle.console.specs.declared.command.Command.{Command}
use Rattle.console.specs.declared.command.Command.TheVariants as command
use Rattle.text.specs.declared.error.LineError.{LineError}
use Rattle.text.specs.declared.error.LineError.TheVariants as error
use Rattle.verb.specs.declared.HostKind.{HostKind}
use Rattle.verb.specs.declared.HostKind.TheVariants as kind
use Rattle.verb.specs.declared.Shape.{Shape}
use Rattle.verb.specs.declared.Shape.TheVariants as shape
use Rattle.verb.specs.declared.Verb.{Verb}
use Rattle.verb.specs.declared.Verb.TheVariants as verb
use Rattle.text.specs.Answers.{then}
use Rattle.text.specs.Arguments.{bytes_of, count_of, mask_of, room_of, row_of, capacity_of, value_of, table_from, taken}
use Rattle.text.specs.Lines.{line_asked}
use Rattle.verb.specs.Verbs.{host_of, shape_of, verb_of}
use Rattle.text.specs.Words.{words_of}

-- a command, with the bytes that it holds
pub data Request : Type 0 where
  read : List ℕ → Request
  show : List ℕ → Request
  split : List ℕ → ℕ → Request
  write : List ℕ → ℕ → Request
  list : List ℕ → Request
  ladder : ℕ → Request
  compartments : ℕ → Request
  map : ℕ → List ℕ → Request
  flows : ℕ → ℕ → Request
  pick : ℕ → ℕ → Request
  slot_host : Request
  own_host : List ℕ → Request
  strip_host : ℕ → ℕ → Request
  put : ℕ → ℤ → Request
  take : ℕ → Request
  count : Request
  held : ℕ → Request
  space : ℕ → Request
  entries : Request
  script : List ℕ → Request
  open_visit : Request
  feed : ℕ → ℤ → Request
  collect : ℕ → Request
  turn : Request
  turns : ℕ → Request
  ask : ℕ → Request
  close_visit : Request
  plain : Request
  give : ℕ → Request
  add : ℕ → ℤ → Request
  step : Request
  copy : Request
  help : Request

-- what a command asks for, with files and lists by their bytes and numbers
abbrev pub request : Command → Request
request (command.Read f) = read (vec_items f)
request (command.Show f) = show (vec_items f)
request (command.Split f i) = split (vec_items f) i
request (command.Write f n) = write (vec_items f) n
request (command.List f) = list (vec_items f)
request (command.Ladder n) = ladder n
request (command.Compartments k) = compartments k
request (command.Map n rows) = map n rows
request (command.Flows a b) = flows a b
request (command.Pick p m) = pick p m
request command.SlotHost = slot_host
request (command.OwnHost caps) = own_host caps
request (command.StripHost c n) = strip_host c n
request (command.Put c v) = put c v
request (command.Take c) = take c
request command.Count = count
request (command.Held c) = held c
request (command.Space c) = space c
request command.Entries = entries
request (command.Script f) = script (vec_items f)
request command.Open = open_visit
request (command.Feed c v) = feed c v
request (command.Collect c) = collect c
request command.Turn = turn
request (command.Turns k) = turns k
request (command.Ask l) = ask l
request command.Close = close_visit
request command.Plain = plain
request (command.Give c) = give c
request (command.Add c v) = add c v
request command.Step = step
request command.Copy = copy
request command.Help = help

-- a request for one file, and the words after it
abbrev pub of_file : (List ℕ → Request) → List (List ℕ) → Result (Request × List (List ℕ)) LineError
of_file make ws = then (taken bytes_of ws) (λ p. Ok (make p.0, p.1))

-- a request for one file and a number
abbrev pub of_file_and : (List ℕ → Result ℕ LineError) → (List ℕ → ℕ → Request) → List (List ℕ) → Result (Request × List (List ℕ)) LineError
of_file_and number make ws = then (taken bytes_of ws) (λ p. then (taken number p.1) (λ q. Ok (make p.0 q.0, q.1)))

-- a request for a number
abbrev pub of_number : (ℕ → Request) → List (List ℕ) → Result (Request × List (List ℕ)) LineError
of_number make ws = then (taken count_of ws) (λ p. Ok (make p.0, p.1))

-- a request for a number and what the words after it are
abbrev pub of_number_and : {X : Type 0} → (List (List ℕ) → Result (X × List (List ℕ)) LineError) → (ℕ → X → Request) → List (List ℕ) → Result (Request × List (List ℕ)) LineError
of_number_and next make ws = then (taken count_of ws) (λ p. then (next p.1) (λ q. Ok (make p.0 q.0, q.1)))

-- the levels of each kind of regime
abbrev pub by_shape : Shape → List (List ℕ) → Result (Request × List (List ℕ)) LineError
by_shape shape.Ladder ws = of_number ladder ws
by_shape shape.Compartments ws = of_number compartments ws
by_shape shape.Map ws = of_number_and (table_from row_of 16) map ws

-- the levels that the words ask for, the kind first; and the words that are left
abbrev pub levels_asked : List (List ℕ) → Result (Request × List (List ℕ)) LineError
levels_asked ws = then (taken shape_of ws) (λ p. by_shape p.0 p.1)

-- a host of each kind
abbrev pub by_kind : HostKind → List (List ℕ) → Result (Request × List (List ℕ)) LineError
by_kind kind.Slot ws = Ok (slot_host, ws)
by_kind kind.Caps ws = then (table_from capacity_of 16 ws) (λ p. Ok (own_host p.0, p.1))
by_kind kind.Strip ws = of_number_and (taken room_of) strip_host ws

-- the host that the words ask for, the kind first; and the words that are left
abbrev pub host_asked : List (List ℕ) → Result (Request × List (List ℕ)) LineError
host_asked ws = then (taken host_of ws) (λ p. by_kind p.0 p.1)

-- turns in a row, ten million at most
abbrev pub turns_asked : List (List ℕ) → Result (Request × List (List ℕ)) LineError
turns_asked ws = then (taken count_of ws) (λ p. cond (nat_le p.0 10000000) (Ok (turns p.0, p.1)) (Err error.Turns))

-- what the words after a command's name ask for, and the words after that
abbrev pub asked : Verb → List (List ℕ) → Result (Request × List (List ℕ)) LineError
asked verb.Read ws = of_file read ws
asked verb.Show ws = of_file show ws
asked verb.Split ws = of_file_and count_of split ws
asked verb.Write ws = of_file_and room_of write ws
asked verb.List ws = of_file list ws
asked verb.Levels ws = levels_asked ws
asked verb.Flows ws = of_number_and (taken count_of) flows ws
asked verb.Pick ws = of_number_and (taken mask_of) pick ws
asked verb.Host ws = host_asked ws
asked verb.Put ws = of_number_and (taken value_of) put ws
asked verb.Take ws = of_number take ws
asked verb.Count ws = Ok (count, ws)
asked verb.Held ws = of_number held ws
asked verb.Space ws = of_number space ws
asked verb.Entries ws = Ok (entries, ws)
asked verb.Script ws = of_file script ws
asked verb.Open ws = Ok (open_visit, ws)
asked verb.Feed ws = of_number_and (taken value_of) feed ws
asked verb.Collect ws = of_number collect ws
asked verb.Turn ws = Ok (turn, ws)
asked verb.Turns ws = turns_asked ws
asked verb.Ask ws = of_number ask ws
asked verb.Close ws = Ok (close_visit, ws)
asked verb.Plain ws = Ok (plain, ws)
asked verb.Give ws = of_number give ws
asked verb.Add ws = of_number_and (taken value_of) add ws
asked verb.Step ws = Ok (step, ws)
asked verb.Copy ws = Ok (copy, ws)
asked verb.Help ws = Ok (help, ws)

-- the same by the command's name
abbrev pub by_verb : Option Verb → List (List ℕ) → Result (Request × List (List ℕ)) LineError
by_verb None ws = Err error.Unknown
by_verb (Some v) ws = asked v ws

-- what the command of that name asks for; an error where no command has the name
abbrev pub named : List ℕ → List (List ℕ) → Result (Request × List (List ℕ)) LineError
named name = by_verb (verb_of name)

-- what a line asks for
abbrev pub request_of : List ℕ → Result (Option Request) LineError
request_of line = line_asked named (words_of line)
