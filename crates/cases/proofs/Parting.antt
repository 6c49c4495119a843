-- Answers in a row of feeds, turns and collects: if none is a refusal, the row tells what each call answered. Assumes
-- nothing.
use Rattle.std.proofs.Common.{◌≡◌, ℕ, List, [], ◌∷◌, ◌++◌, map, ℤ, pos, Option, Ok, Err, Result, sym, refl, ap, ◌∙◌, ap₂, append-nil, arith}
use Rattle.refusal.specs.declared.Refusal.{Refusal}
use Rattle.meaning.specs.Answers.{Answer, refused, fed, collected, turned, told, answer_of, collected_by, turned_by}
use Rattle.meaning.specs.declared.answers.Moved.{Moved}
use Rattle.cases.specs.declared.lesson.Lesson.{Lesson}
use Rattle.cases.specs.Lesson.{lesson_turns}
use Rattle.cases.specs.Told.{answers_of, as_taught}

-- what kind of answer comes first
abbrev kind : List Answer → ℕ
kind [] = 5
kind (refused e ∷ ws) = 0
kind (fed ∷ ws) = 1
kind (collected v ∷ ws) = 2
kind (turned t ∷ ws) = 3
kind (told s ∷ ws) = 4

-- answers of one kind k, and after them others, of which the first is of another kind
module _ {A : Type 0} (f : A → Answer) (k : ℕ) (kinds : (a : A) (ws : List Answer) → kind (f a ∷ ws) ≡ k) (some : k ≡ 0 → ⊥) (apart : (a b : A) → f a ≡ f b → a ≡ b) where
  -- an answer of that kind is no refusal
  one : (x : Result A Refusal) (y : A) → answer_of f x ≡ f y → x ≡ Ok y
  one (Ok a) y e = ap Ok (apart a y e)
  one (Err r) y e = absurd (some (sym (kinds y []) ∙ sym (ap (λ a. kind (a ∷ [])) e)))

  -- what comes first is a refusal or of that kind
  not_first : (x : Result A Refusal) (ws : List Answer) → (kind (answer_of f x ∷ ws) ≡ k → ⊥) → (kind (answer_of f x ∷ ws) ≡ 0 → ⊥) → ⊥
  not_first (Ok a) ws other accepted = other (kinds a ws)
  not_first (Err e) ws other accepted = accepted refl

  -- the answers of that kind are known, and the others are the same
  pub parted : (xs : List (Result A Refusal)) (ys : List A) (us vs : List Answer) → (kind us ≡ k → ⊥) → (kind vs ≡ k → ⊥) → (kind vs ≡ 0 → ⊥) → map (answer_of f) xs ++ us ≡ map f ys ++ vs → (xs ≡ map Ok ys) × (us ≡ vs)
  parted [] [] us vs hu hv h0 e = (refl, e)
  parted [] (y ∷ ys) us vs hu hv h0 e = absurd (hu (ap kind e ∙ kinds y _))
  parted (x ∷ xs) [] us vs hu hv h0 e = absurd (not_first x (map (answer_of f) xs ++ us) (λ d. hv (sym (ap kind e) ∙ d)) (λ d. h0 (sym (ap kind e) ∙ d)))
  parted (x ∷ xs) (y ∷ ys) us vs hu hv h0 e =
      let here : answer_of f x ≡ f y = cc in
      let there : map (answer_of f) xs ++ us ≡ map f ys ++ vs = cc in
      let more = parted xs ys us vs hu hv h0 there in
      (ap₂ (λ (z : Result A Refusal) (zs : List (Result A Refusal)). z ∷ zs) (one x y here) more.0, more.1)

-- after feeds come turns and collects, and after turns collects
no_feed : (ts : List (Result (Option Moved) Refusal)) (cs : List (Result ℤ Refusal)) → kind (map turned_by ts ++ map collected_by cs) ≡ 1 → ⊥
no_feed [] [] e = omega arith
no_feed [] (Ok v ∷ cs) e = omega arith
no_feed [] (Err r ∷ cs) e = omega arith
no_feed (Ok t ∷ ts) cs e = omega arith
no_feed (Err r ∷ ts) cs e = omega arith

no_turn : (cs : List (Result ℤ Refusal)) → kind (map collected_by cs) ≡ 3 → ⊥
no_turn [] e = omega arith
no_turn (Ok v ∷ cs) e = omega arith
no_turn (Err r ∷ cs) e = omega arith

-- the lesson with F is known by its answers
pub known : (l : Lesson) → answers_of l ≡ answers_of as_taught → l ≡ as_taught
known l e =
    let first = parted (λ _. fed) 1 (λ _ _. refl) (λ d. omega arith) (λ _ _ _. refl) l.fed (tt ∷ tt ∷ []) _ _ (no_feed l.turns l.collected) (λ d. omega arith) (λ d. omega arith) e in
    let second = parted turned 3 (λ _ _. refl) (λ d. omega arith) (λ _ _ d. cc) l.turns lesson_turns _ _ (no_turn l.collected) (λ d. omega arith) (λ d. omega arith) first.1 in
    let third = parted collected 2 (λ _ _. refl) (λ d. omega arith) (λ _ _ d. cc) l.collected (pos 0 ∷ pos 5 ∷ []) [] [] (λ d. omega arith) (λ d. omega arith) (λ d. omega arith) (append-nil _ ∙ second.1) in
    λ i. record { fed = first.0 i; turns = second.0 i; collected = third.0 i }
