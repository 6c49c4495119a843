-- What the lesson answers in code. Assumes nothing.
use Rattle.std.specs.Prelude.{List, [], ◌∷◌, ◌++◌, map, pos, Ok}
use Rattle.meaning.specs.Answers.{Answer, Call, collect, fed_by, turned_by, collected_by}
use Rattle.meaning.specs.Logs.{logged}
use Rattle.meaning.specs.Visits.{Opening}
use Rattle.cases.specs.declared.lesson.Lesson.{Lesson}
use Rattle.cases.specs.Lesson.{lesson_calls, lesson_turns}

-- all answers of a lesson in order, as answers of a log
abbrev pub answers_of : Lesson → List Answer
answers_of l = map fed_by l.fed ++ (map turned_by l.turns ++ map collected_by l.collected)

-- the calls of the lesson, and then a collect from each out channel
abbrev pub all_calls : List Call
all_calls = lesson_calls ++ (collect 2 ∷ collect 3 ∷ [])

-- what a visit that is opened with o answers to them
abbrev pub gone_through : Opening → List Answer
gone_through o = map (λ e. e.1) (logged o all_calls)

-- the lesson with F: both values are taken in, the turns go as in the table, and what is held is collected
abbrev pub as_taught : Lesson
as_taught = record { fed = Ok tt ∷ Ok tt ∷ []; turns = map Ok lesson_turns; collected = Ok (pos 0) ∷ Ok (pos 5) ∷ [] }
