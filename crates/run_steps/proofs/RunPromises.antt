-- The promises of a run, from what it leaves.
use Rattle.std.proofs.Common.{◌≡◌, ◌<◌, ◌⊎◌, inl, inr, ⊎_elim, ℕ, false, List, [], ◌∷◌, ◌++◌, Option, Some, None, sym}
use Rattle.std.proofs.Common.{ap, ◌∙◌, subst, arith, append-nil}
use Rattle.outside.specs.Missed.{Missed, FailedName, LongName}
use Rattle.outside.specs.Taken.{Takes}
use Rattle.outside.specs.Views.{ShelfView, SinkView}
use Rattle.run_steps.specs.declared.statuses.Status.{Status}
use Rattle.run_steps.specs.declared.statuses.Status.TheVariants as ends
use Rattle.run_steps.specs.Outcome.{Outcome, is_done, missed_file, no_memory}
use Rattle.run_steps.specs.Promises.{EndsAsReadFault, EndsAsWriteFault, RefusesSilently, NamesFailed, NamesLong}
use Rattle.run_steps.specs.Promises.{NamesTheFailedFile, NamesTheLongFile}
use Rattle.run_steps.specs.Ran.{IsDelivered}
use Rattle.run_steps.specs.Steps.{Misses}

-- a run ends with the status of its outcome, for want of memory, or as a fault of writing
pub ends_with : (wanted answer : Outcome) (result status : Status) → (answer ≡ wanted) ⊎ (answer ≡ no_memory)
    → (result ≡ answer.status) ⊎ (result ≡ ends.WriteFault) → wanted.status ≡ status
    → (result ≡ status) ⊎ ((result ≡ ends.WriteFault) ⊎ (result ≡ ends.NoMemory))
ends_with wanted answer result status (inl e) (inl s) h = inl (s ∙ ap (λ (o : Outcome). o.status) e ∙ h)
ends_with wanted answer result status (inr e) (inl s) h = inr (inr (s ∙ ap (λ (o : Outcome). o.status) e))
ends_with wanted answer result status a (inr s) h = inr (inl s)

-- a fault of the shelf ends a run as one
pub ends_as_read_fault : EndsAsReadFault
ends_as_read_fault outcome names old new result out_old out_new err_old err_new r rose =
    ⊎_elim (λ h. ends_with (outcome r.gave) r.answer result ends.ReadFault r.is r.delivered.status h)
    (λ (e : new.faults ≡ old.faults). absurd (omega arith)) r.quiet

-- a fault of a sink ends a run as one
pub ends_as_write_fault : EndsAsWriteFault
ends_as_write_fault outcome names old new result out_old out_new err_old err_new r rose =
    ⊎_elim
    (λ (s : result ≡ r.answer.status).
    let unlike : result ≡ ends.WriteFault → ⊥ = λ e. r.honest (sym s ∙ e) in
    let out : out_new.faults ≡ out_old.faults = r.delivered.out_kept unlike in
    let err : err_new.faults ≡ err_old.faults = r.delivered.err_kept unlike in
    absurd
    (⊎_elim (λ (h : out_old.faults < out_new.faults). omega arith) (λ (h : err_old.faults < err_new.faults). omega arith) rose))
    (λ s. s) r.delivered.status

took_nothing : (old new : Option (List ℕ)) → Takes old new [] → new ≡ old
took_nothing None new e = e
took_nothing (Some bytes) new e = e ∙ ap Some (append-nil bytes)

-- a refused run wrote nothing to the output
pub refuses_silently : RefusesSilently
refuses_silently outcome names old new result out_old out_new err_old err_new r refused unlike =
    let same : result ≡ r.answer.status = ⊎_elim (λ s. s) (λ s. absurd (unlike s)) r.delivered.status in
    let nothing : r.answer.out ≡ [] = r.silent (subst (λ (s : Status). is_done s ≡ false) same refused) in
    took_nothing out_old.taken out_new.taken
    (subst (λ (text : List ℕ). Takes out_old.taken out_new.taken text) nothing (r.delivered.out_whole unlike))

-- a run that ends with another status than that of a fault of writing gave its answer whole
answer_whole : {answer : Outcome} {result : Status} {out_old out_new err_old err_new : SinkView} (wanted : Status)
    → IsDelivered answer result out_old out_new err_old err_new → result ≡ wanted → (wanted ≡ ends.WriteFault → ⊥)
    → (answer.status ≡ wanted) × Takes err_old.taken err_new.taken answer.err
answer_whole {result = result} wanted d e unlike =
    let own : result ≡ ends.WriteFault → ⊥ = λ h. unlike (sym e ∙ h) in
    (sym (⊎_elim (λ s. s) (λ s. absurd (own s)) d.status) ∙ e, d.err_whole own)

-- an answer that names the file that was missed, and was taken whole
module _ (old new : ShelfView) (err_old err_new : SinkView) (answer : Outcome) where
  -- its fetch failed, where the answer says so
  failed_of : (missed : Missed) → new.missed ≡ old.missed ++ missed ∷ [] → answer ≡ missed_file missed
      → answer.status ≡ ends.ReadFault → Takes err_old.taken err_new.taken answer.err → NamesFailed old new err_old err_new
  failed_of (FailedName name) noted says s takes =
      record { name = name; noted = noted; line = subst (λ (o : Outcome). Takes err_old.taken err_new.taken o.err) says takes }
  failed_of (LongName name) noted says s takes =
      let same : ends.FileTooLong ≡ ends.ReadFault = sym (ap (λ (o : Outcome). o.status) says) ∙ s in absurd (cc)

  failed_from : Misses old.missed new.missed answer → answer.status ≡ ends.ReadFault
      → Takes err_old.taken err_new.taken answer.err
      → NamesFailed old new err_old err_new
  failed_from (inl none) s takes = absurd (none.says.read s)
  failed_from (inr one) s takes =
      ⊎_elim (λ (e : answer ≡ missed_file one.missed). failed_of one.missed one.noted e s takes)
      (λ (e : answer ≡ no_memory).
      let same : ends.NoMemory ≡ ends.ReadFault = sym (ap (λ (o : Outcome). o.status) e) ∙ s in absurd (cc)) one.says

  -- it was too long, where the answer says that
  long_of : (missed : Missed) → new.missed ≡ old.missed ++ missed ∷ [] → answer ≡ missed_file missed
      → answer.status ≡ ends.FileTooLong → Takes err_old.taken err_new.taken answer.err → NamesLong old new err_old err_new
  long_of (LongName name) noted says s takes =
      record { name = name; noted = noted; line = subst (λ (o : Outcome). Takes err_old.taken err_new.taken o.err) says takes }
  long_of (FailedName name) noted says s takes =
      let same : ends.ReadFault ≡ ends.FileTooLong = sym (ap (λ (o : Outcome). o.status) says) ∙ s in absurd (cc)

  long_from : Misses old.missed new.missed answer → answer.status ≡ ends.FileTooLong
      → Takes err_old.taken err_new.taken answer.err
      → NamesLong old new err_old err_new
  long_from (inl none) s takes = absurd (none.says.long s)
  long_from (inr one) s takes =
      ⊎_elim (λ (e : answer ≡ missed_file one.missed). long_of one.missed one.noted e s takes)
      (λ (e : answer ≡ no_memory).
      let same : ends.NoMemory ≡ ends.FileTooLong = sym (ap (λ (o : Outcome). o.status) e) ∙ s in absurd (cc)) one.says

-- the line of a fault of reading has the name whose fetch failed
pub names_the_failed_file : NamesTheFailedFile
names_the_failed_file outcome names old new result out_old out_new err_old err_new r e =
    let (status, whole) = answer_whole ends.ReadFault r.delivered e (λ h. cc) in
    failed_from old new err_old err_new r.answer r.missed status whole

-- the line of a file that is too long has the name that was
pub names_the_long_file : NamesTheLongFile
names_the_long_file outcome names old new result out_old out_new err_old err_new r e =
    let (status, whole) = answer_whole ends.FileTooLong r.delivered e (λ h. cc) in
    long_from old new err_old err_new r.answer r.missed status whole
