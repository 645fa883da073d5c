-- The files that legal words name, one by one.
use Rattle.std.proofs.Common.{◌≡◌, ℕ, ◌<◌, List, [], ◌∷◌, Option, Some, Result, String, length, get_or, refl, sym}
use Rattle.std.proofs.Common.{subst, ◌∙◌, arith}
use Rattle.std.specs.Prelude.{All}
use Rattle.std.specs.declared.alloc.Global.{Global}
use Rattle.outside.specs.Views.{ShelfView}
use Rattle.run_steps.specs.declared.answers.Answer.{Answer}
use Rattle.run_steps.specs.declared.stops.Stop.{Stop}
use Rattle.run_steps.specs.Outcome.{Outcome, Fetched}
use Rattle.run_steps.specs.Steps.{Work}
use Rattle.pdcch_app.specs.declared.words.Command.{Command}
use Rattle.pdcch_app.specs.Outcomes.{outcome, served}
use Rattle.pdcch_app.specs.Words.{count_of, file, files, legal, named, named_by}

-- the command of legal words, and the number of files that they name
pub record Serves (words : List (String Global)) (command : Command) : Type 0 where
  pub legal_is : legal words ≡ Some command
  pub count : length (files command words) ≡ count_of command

-- so it is for a command that was found of the words
pub serves : (words : List (String Global)) (found command : Command) → Some found ≡ legal words
    → length (files found words) ≡ count_of found → found ≡ command → Serves words command
serves words found command h l e = subst (Serves words) e (record { legal_is = sym h; count = l })

-- what holds of all of them holds of each
pub holds_of_file : (P : List ℕ → Type 0) (words : List (String Global)) (command : Command) (place : ℕ)
    → All P (named words) → Serves words command
    → place < count_of command → P (file command words place)
holds_of_file P words command place all s l =
    let here : All P (files command words) = subst (λ (c : Option Command). All P (named_by c words)) s.legal_is all in
    here place [] (omega (arith, l, s.count))

four_are : (names : List (List ℕ)) → length names ≡ 4
    → names ≡ get_or names 0 [] ∷ get_or names 1 [] ∷ get_or names 2 [] ∷ get_or names 3 [] ∷ []
four_are [] l = absurd (omega (arith, l))
four_are (a ∷ []) l = absurd (omega (arith, l))
four_are (a ∷ b ∷ []) l = absurd (omega (arith, l))
four_are (a ∷ b ∷ c ∷ []) l = absurd (omega (arith, l))
four_are (a ∷ b ∷ c ∷ d ∷ []) l = refl
four_are (a ∷ b ∷ c ∷ d ∷ e ∷ more) l = absurd (omega (arith, l))

-- the work of a command over its four files is that of the words
pub work_four : (words : List (String Global)) (command : Command)
    (job : List ℕ → List ℕ → List ℕ → List ℕ → List Fetched → Outcome) (old new : ShelfView)
    (result : Result Answer Stop) (a b c d : List ℕ)
    → Serves words command → count_of command ≡ 4
    → served (Some command) words
    ≡ job (file command words 0) (file command words 1) (file command words 2) (file command words 3)
    → a ≡ file command words 0 → b ≡ file command words 1 → c ≡ file command words 2 → d ≡ file command words 3
    → Work (job a b c d) (a ∷ b ∷ c ∷ d ∷ []) old new result → Work (outcome words) (named words) old new result
work_four words command job old new result a b c d s four is ea eb ec ed work =
    let first = file command words 0 in
    let second = file command words 1 in
    let third = file command words 2 in
    let at_first = subst (λ (x : List ℕ). Work (job x b c d) (x ∷ b ∷ c ∷ d ∷ []) old new result) ea work in
    let at_second = subst (λ (x : List ℕ). Work (job first x c d) (first ∷ x ∷ c ∷ d ∷ []) old new result) eb at_first in
    let at_third = subst (λ (x : List ℕ). Work (job first second x d) (first ∷ second ∷ x ∷ d ∷ []) old new result) ec
    at_second in
    let at_last = subst (λ (x : List ℕ). Work (job first second third x) (first ∷ second ∷ third ∷ x ∷ []) old new result)
    ed at_third in
    let wanted =
    subst (λ (o : List Fetched → Outcome). Work o (first ∷ second ∷ third ∷ file command words 3 ∷ []) old new result)
    (sym is) at_last in
    let named_so = subst (λ (names : List (List ℕ)). Work (served (Some command) words) names old new result)
    (sym (four_are (files command words) (s.count ∙ four))) wanted in
    subst (λ (o : Option Command). Work (served o words) (named_by o words) old new result) (sym s.legal_is) named_so
