-- What a run leaves: its status, what the output and the error output took, how the counts of faults moved, and which
-- files the shelf missed.
use Rattle.std.specs.Prelude.{◌≡◌, ◌⊎◌, ℕ, false, List, [], ◌∷◌, Some, map}
use Rattle.outside.specs.Causes.{Rose}
use Rattle.outside.specs.Taken.{Takes, TakesPrefix}
use Rattle.outside.specs.Views.{ShelfView, SinkView}
use Rattle.run_steps.specs.declared.statuses.Status.{Status}
use Rattle.run_steps.specs.declared.statuses.Status.TheVariants as ends
use Rattle.run_steps.specs.Outcome.{Outcome, Fetched, given_of, is_done, no_memory}
use Rattle.run_steps.specs.Steps.{AreGiven, Misses}

-- an answer written to the output, then to the error output
pub record IsDelivered (answer : Outcome) (result : Status) (out_old out_new err_old err_new : SinkView) : Type 0 where
  pub status : (result ≡ answer.status) ⊎ (result ≡ ends.WriteFault)
  pub out_whole : (result ≡ ends.WriteFault → ⊥) → Takes out_old.taken out_new.taken answer.out
  pub err_whole : (result ≡ ends.WriteFault → ⊥) → Takes err_old.taken err_new.taken answer.err
  pub out_prefix : TakesPrefix out_old.taken out_new.taken answer.out
  pub err_prefix : TakesPrefix err_old.taken err_new.taken answer.err
  pub out_first : Takes out_old.taken out_new.taken answer.out ⊎ (err_new.taken ≡ err_old.taken)
  pub faulted : result ≡ ends.WriteFault → Rose out_old.faults out_new.faults ⊎ Rose err_old.faults err_new.faults
  pub out_kept : (result ≡ ends.WriteFault → ⊥) → out_new.faults ≡ out_old.faults
  pub err_kept : (result ≡ ends.WriteFault → ⊥) → err_new.faults ≡ err_old.faults

-- an answer that the words and the files decide, or want of memory, and its delivery
pub record Finishes (answer : Outcome) (result : Status) (out_old out_new err_old err_new : SinkView) : Type 0 where
  pub silent : is_done answer.status ≡ false → answer.out ≡ []
  pub honest : answer.status ≡ ends.WriteFault → ⊥
  pub delivered : IsDelivered answer result out_old out_new err_old err_new

-- a run of a command with this outcome over what its named files give: what each fetch gave, the answer over that or want
-- of memory, and its delivery
pub record Ran (outcome : List Fetched → Outcome) (names : List (List ℕ)) (shelf_old shelf_new : ShelfView)
    (result : Status) (out_old out_new err_old err_new : SinkView) : Type 0 where
  pub gave : List Fetched
  pub given : AreGiven shelf_old shelf_new names gave
  pub answer : Outcome
  pub is : (answer ≡ outcome gave) ⊎ (answer ≡ no_memory)
  -- which file the shelf missed, and that the answer's line has its name
  pub missed : Misses shelf_old.missed shelf_new.missed answer
  -- the counts
  pub read : result ≡ ends.ReadFault → Rose shelf_old.faults shelf_new.faults
  pub long : result ≡ ends.FileTooLong → Rose shelf_old.longs shelf_new.longs
  pub quiet : ((outcome gave).status ≡ ends.ReadFault) ⊎ (shelf_new.faults ≡ shelf_old.faults)
  pub short : ((outcome gave).status ≡ ends.FileTooLong) ⊎ (shelf_new.longs ≡ shelf_old.longs)
  -- the texts
  pub silent : is_done answer.status ≡ false → answer.out ≡ []
  pub honest : answer.status ≡ ends.WriteFault → ⊥
  pub delivered : IsDelivered answer result out_old out_new err_old err_new

-- these are the bytes that are told of the named objects, in order
abbrev pub AreTold : ShelfView → List (List ℕ) → List (List ℕ) → Type 0
AreTold shelf [] [] = Unit {0}
AreTold shelf [] (b ∷ bs) = ⊥
AreTold shelf (n ∷ ns) [] = ⊥
AreTold shelf (n ∷ ns) (b ∷ bs) = (shelf.told n ≡ Some b) × AreTold shelf ns bs

-- a run that ended with one answer, both of its texts whole
abbrev pub EndsWhole : Outcome → Status → SinkView → SinkView → SinkView → SinkView → Type 0
EndsWhole wanted result out_old out_new err_old err_new =
    (result ≡ wanted.status) × Takes out_old.taken out_new.taken wanted.out × Takes err_old.taken err_new.taken wanted.err

-- a run that ended as was wanted, or for want of memory
abbrev pub IsComplete : Outcome → Status → SinkView → SinkView → SinkView → SinkView → Type 0
IsComplete wanted result out_old out_new err_old err_new =
    EndsWhole wanted result out_old out_new err_old err_new ⊎ EndsWhole no_memory result out_old out_new err_old err_new

-- where all named files are told and no count of faults rose, the run ended as the told bytes want it
abbrev pub Completes : (List Fetched → Outcome) → List (List ℕ) → ShelfView → ShelfView → Status → SinkView → SinkView
    → SinkView → SinkView → Type 0
Completes outcome names shelf_old shelf_new result out_old out_new err_old err_new = (bytes : List (List ℕ))
    → AreTold shelf_old names bytes → (Rose shelf_old.faults shelf_new.faults → ⊥)
    → (Rose out_old.faults out_new.faults → ⊥) → (Rose err_old.faults err_new.faults → ⊥)
    → IsComplete (outcome (map given_of bytes)) result out_old out_new err_old err_new
