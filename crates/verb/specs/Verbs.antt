-- The names of the commands. Assumes nothing.
use Rattle.std.specs.Prelude.{ℕ, cond, List, Some, None, Ok, Err, codes, Option, Result}
use Rattle.std.specs.Str.{bytes_eq}
use Rattle.text.specs.declared.error.LineError.{LineError}
use Rattle.text.specs.declared.error.LineError.TheVariants as error
use Rattle.verb.specs.declared.HostKind.{HostKind}
use Rattle.verb.specs.declared.HostKind.TheVariants as kind
use Rattle.verb.specs.declared.Shape.{Shape}
use Rattle.verb.specs.declared.Shape.TheVariants as shape
use Rattle.verb.specs.declared.Verb.{Verb}
use Rattle.verb.specs.declared.Verb.TheVariants as verb

-- the commands
abbrev pub verb_of : List ℕ → Option Verb
verb_of w =
    cond (bytes_eq w (codes "read")) (Some verb.Read)
    (cond (bytes_eq w (codes "show")) (Some verb.Show)
    (cond (bytes_eq w (codes "split")) (Some verb.Split)
    (cond (bytes_eq w (codes "write")) (Some verb.Write)
    (cond (bytes_eq w (codes "list")) (Some verb.List)
    (cond (bytes_eq w (codes "levels")) (Some verb.Levels)
    (cond (bytes_eq w (codes "flows")) (Some verb.Flows)
    (cond (bytes_eq w (codes "pick")) (Some verb.Pick)
    (cond (bytes_eq w (codes "host")) (Some verb.Host)
    (cond (bytes_eq w (codes "put")) (Some verb.Put)
    (cond (bytes_eq w (codes "take")) (Some verb.Take)
    (cond (bytes_eq w (codes "count")) (Some verb.Count)
    (cond (bytes_eq w (codes "held")) (Some verb.Held)
    (cond (bytes_eq w (codes "space")) (Some verb.Space)
    (cond (bytes_eq w (codes "entries")) (Some verb.Entries)
    (cond (bytes_eq w (codes "script")) (Some verb.Script)
    (cond (bytes_eq w (codes "open")) (Some verb.Open)
    (cond (bytes_eq w (codes "feed")) (Some verb.Feed)
    (cond (bytes_eq w (codes "collect")) (Some verb.Collect)
    (cond (bytes_eq w (codes "turn")) (Some verb.Turn)
    (cond (bytes_eq w (codes "turns")) (Some verb.Turns)
    (cond (bytes_eq w (codes "ask")) (Some verb.Ask)
    (cond (bytes_eq w (codes "close")) (Some verb.Close)
    (cond (bytes_eq w (codes "plain")) (Some verb.Plain)
    (cond (bytes_eq w (codes "give")) (Some verb.Give)
    (cond (bytes_eq w (codes "add")) (Some verb.Add)
    (cond (bytes_eq w (codes "step")) (Some verb.Step)
    (cond (bytes_eq w (codes "copy")) (Some verb.Copy)
    (cond (bytes_eq w (codes "help")) (Some verb.Help) None))))))))))))))))))))))))))))

-- the kinds of regime, or the error of a word that is none
abbrev pub shape_of : List ℕ → Result Shape LineError
shape_of w =
    cond (bytes_eq w (codes "ladder")) (Ok shape.Ladder)
    (cond (bytes_eq w (codes "compartments")) (Ok shape.Compartments)
    (cond (bytes_eq w (codes "map")) (Ok shape.Map) (Err error.Shape)))

-- the kinds of host that the tool can make, or the error of a word that is none
abbrev pub host_of : List ℕ → Result HostKind LineError
host_of w =
    cond (bytes_eq w (codes "slot")) (Ok kind.Slot)
    (cond (bytes_eq w (codes "caps")) (Ok kind.Caps)
    (cond (bytes_eq w (codes "strip")) (Ok kind.Strip) (Err error.Host)))
