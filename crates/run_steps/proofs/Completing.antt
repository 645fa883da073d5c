-- A run whose files are told and that met no fault ends as the told bytes want it.
use Rattle.std.proofs.Common.{◌≡◌, inl, inr, ⊎_elim, ℕ, List, [], ◌∷◌, map, refl, ap, ◌∙◌, subst}
use Rattle.outside.specs.Causes.{Rose}
use Rattle.outside.specs.Views.{ShelfView, SinkView}
use Rattle.run_steps.specs.declared.statuses.Status.{Status}
use Rattle.run_steps.specs.declared.statuses.Status.TheVariants.{WriteFault}
use Rattle.run_steps.specs.Outcome.{Outcome, Fetched, Fault, given_of, no_memory}
use Rattle.run_steps.specs.Steps.{AreGiven}
use Rattle.run_steps.specs.Ran.{Ran, IsDelivered, AreTold, EndsWhole, Completes}

gave_told : (old new : ShelfView) (names : List (List ℕ)) (gave : List Fetched) (bytes : List (List ℕ))
    → AreGiven old new names gave → AreTold old names bytes
    → (Rose old.faults new.faults → ⊥) → gave ≡ map given_of bytes
gave_told old new [] [] [] given are none = refl
gave_told old new [] [] (b ∷ bs) given are none = absurd are
gave_told old new [] (x ∷ xs) bytes given are none = absurd given
gave_told old new (n ∷ ns) [] bytes given are none = absurd given
gave_told old new (n ∷ ns) (x ∷ xs) [] given are none = absurd are
gave_told old new (n ∷ ns) (x ∷ xs) (b ∷ bs) given are none =
    let one : x ≡ given_of b = ⊎_elim (λ e. e) (λ (e : x ≡ Fault). absurd (none (given.0.faulted e))) (given.0.agrees b are.0) in
    let rest : xs ≡ map given_of bs = gave_told old new ns xs bs given.1 are.1 none in
    cc

whole-from : {answer : Outcome} {result : Status} {out_old out_new err_old err_new : SinkView}
    → IsDelivered answer result out_old out_new err_old err_new → (Rose out_old.faults out_new.faults → ⊥)
    → (Rose err_old.faults err_new.faults → ⊥) → EndsWhole answer result out_old out_new err_old err_new
whole-from {answer} {result} {out_old} {out_new} {err_old} {err_new} d none_out none_err =
    let unlike : result ≡ WriteFault → ⊥ = λ e. ⊎_elim none_out none_err (d.faulted e) in
    (⊎_elim (λ e. e) (λ (e : result ≡ WriteFault). absurd (unlike e)) d.status, d.out_whole unlike, d.err_whole unlike)

-- the run ended as the told bytes want it, or for want of memory
pub complete-from : {outcome : List Fetched → Outcome} {names : List (List ℕ)} {old new : ShelfView} {result : Status}
    → {out_old out_new err_old err_new : SinkView} → Ran outcome names old new result out_old out_new err_old err_new
    → Completes outcome names old new result out_old out_new err_old err_new
complete-from {outcome} {names} {old} {new} {result} {out_old} {out_new} {err_old} {err_new} r =
    λ bytes are none none_out none_err.
    let whole = whole-from r.delivered none_out none_err in
    let same : r.gave ≡ map given_of bytes = gave_told old new names r.gave bytes r.given are none in
    let ends : (o : Outcome) → r.answer ≡ o → EndsWhole o result out_old out_new err_old err_new =
    λ o e. subst (λ (x : Outcome). EndsWhole x result out_old out_new err_old err_new) e whole in
    ⊎_elim (λ (e : r.answer ≡ outcome r.gave). inl (ends (outcome (map given_of bytes)) (e ∙ ap outcome same)))
    (λ (e : r.answer ≡ no_memory). inr (ends no_memory e)) r.is
