-- When a run ends with a status: where its cause is there, and there alone.
use Rattle.std.specs.Prelude.{◌≡◌, ◌⊎◌, ◌↔◌, List, String, length}
use Rattle.std.specs.declared.alloc.Global.{Global}
use Rattle.outside.specs.Views.{ShelfView, SinkView}
use Rattle.run_steps.specs.declared.statuses.Status.{Status}
use Rattle.run_steps.specs.declared.statuses.Status.TheVariants as ends
use Rattle.run_steps.specs.Outcome.{Fetched, TooLong, Fault}
use Rattle.run_steps.specs.Ran.{Ran}
use Rattle.pdcch_app.specs.Causes.{WordsAreFaulty, SettingsAreFaulty, TableIsFaulty, GrantsAreFaulty, GridIsFaulty}
use Rattle.pdcch_app.specs.Causes.{Meets, IsUnknown, SlotIsExceeded, WriteRefusesSome, JobIsDone, CauseOf}
use Rattle.pdcch_app.specs.Outcomes.{outcome}
use Rattle.pdcch_app.specs.Words.{named}

-- a run ended with a status only where the cause was there; where it was there, it ended so, for want of memory or as a fault
-- of writing
pub record EndsWhere (status : Status) (cause : Type 0) (result : Status) : Type 0 where
  pub only : result ≡ status → cause
  pub always : cause → (result ≡ status) ⊎ ((result ≡ ends.WriteFault) ⊎ (result ≡ ends.NoMemory))

-- a run ends with this status exactly where this cause is there, over the words and what each of its fetches gave
abbrev pub EndsExactly : Status → (List (String Global) → List Fetched → Type 0) → Type 0
EndsExactly status cause =
    (words : List (String Global)) (shelf_old shelf_new : ShelfView) (result : Status)
    (out_old out_new err_old err_new : SinkView)
    (ran : Ran (outcome words) (named words) shelf_old shelf_new result out_old out_new err_old err_new)
    → EndsWhere status (cause words ran.gave) result

-- an outcome has a status exactly where the cause of that status is there
abbrev pub EndsByItsCause : Type 0
EndsByItsCause = (words : List (String Global)) (gave : List Fetched) (status : Status) → length gave ≡ length (named words)
    → ((outcome words gave).status ≡ status) ↔ CauseOf status words gave

-- a run ends as a usage error exactly where the words are of no command
abbrev pub EndsAsUsage : Type 0
EndsAsUsage = EndsExactly ends.Usage WordsAreFaulty

-- with refused settings exactly where the command takes settings and the first file is no legal settings
abbrev pub EndsAsSettingsRefused : Type 0
EndsAsSettingsRefused = EndsExactly ends.SettingsRefused SettingsAreFaulty

-- with a refused table exactly where one of the two tables is none, and every file before it was read
abbrev pub EndsAsTableRefused : Type 0
EndsAsTableRefused = EndsExactly ends.TableRefused TableIsFaulty

-- with a refused file of grants exactly where that file is no grants, and every file before it was read
abbrev pub EndsAsGrantsFileRefused : Type 0
EndsAsGrantsFileRefused = EndsExactly ends.GrantsFileRefused GrantsAreFaulty

-- with a refused grid exactly where the last file is no grid of the cell, and every file before it was read
abbrev pub EndsAsGridRefused : Type 0
EndsAsGridRefused = EndsExactly ends.GridRefused GridIsFaulty

-- as a fault of reading exactly where the fetch of a file failed, and every file before it was read
abbrev pub EndsAsReadFaultOfAFile : Type 0
EndsAsReadFaultOfAFile = EndsExactly ends.ReadFault (Meets Fault)

-- with a file that is too long exactly where a fetch found one so, and every file before it was read
abbrev pub EndsAsFileTooLong : Type 0
EndsAsFileTooLong = EndsExactly ends.FileTooLong (Meets TooLong)

-- with no such handset or watch exactly where every file was read, and the cell has no handset of the name that the words give or
-- this handset no watch of the number that they give
abbrev pub EndsAsNoSuch : Type 0
EndsAsNoSuch = EndsExactly ends.NoSuch IsUnknown

-- with a refused slot exactly where every file was read and the common sets of a handset exceed a limit in the slot
abbrev pub EndsAsSlotRefused : Type 0
EndsAsSlotRefused = EndsExactly ends.SlotRefused SlotIsExceeded

-- with refused grants exactly where every file was read, the slot has a desk and one of the grants was refused
abbrev pub EndsAsGrantsRefused : Type 0
EndsAsGrantsRefused = EndsExactly ends.GrantsRefused WriteRefusesSome

-- as done exactly where every file was read and the job was done whole
abbrev pub EndsAsDone : Type 0
EndsAsDone = EndsExactly ends.Done JobIsDone
