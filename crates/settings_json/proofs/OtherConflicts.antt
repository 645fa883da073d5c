-- No check of what may not stand together finds that a text is no JSON.
use Rattle.std.proofs.Common.{List, [], Bool}
use Rattle.std.specs.Prelude.{Option, not}
use Rattle.rrc_settings.specs.declared.words.Key.{Key}
use Rattle.rrc_settings.specs.declared.words.Key.TheVariants as keys
use Rattle.rrc_settings.specs.declared.place.Reason.TheVariants as reasons
use Rattle.rrc_settings.specs.declared.settings.Bwp.{Bwp}
use Rattle.rrc_settings.specs.declared.settings.Interleave.{Interleave}
use Rattle.rrc_settings.specs.declared.settings.Coreset.{Coreset}
use Rattle.rrc_settings.specs.declared.settings.SearchSet.{SearchSet}
use Rattle.rrc_settings.specs.declared.settings.Codebook.{Codebook}
use Rattle.rrc_settings.specs.declared.settings.UplinkFields.{UplinkFields}
use Rattle.rrc_settings.specs.declared.settings.DownlinkFields.{DownlinkFields}
use Rattle.rrc_settings.specs.declared.settings.Handset.{Handset}
use Rattle.rrc_settings.specs.declared.settings.RawCell.{RawCell}
use Rattle.rrc_settings.specs.Faults.{Steps, Finding, ◌▸◌, fault_at, each_after}
use Rattle.rrc_settings.specs.Conflicts.{conflict, interleave_conflicts, coreset_conflicts, timing_conflicts}
use Rattle.rrc_settings.specs.Conflicts.{set_conflicts, uplink_conflicts, downlink_conflicts, handset_conflicts, cell_conflicts}
use Rattle.json_form.proofs.OtherReasons.{other_none, other_next, other_unless}
use Rattle.settings_json.proofs.OtherFaults.{IsOther, other_first_in, other_if_given}

-- a conflict at a key
conflict_judges : (at : Steps) (key : Key) (test : Bool) → IsOther (conflict at key test)
unfolding conflict
conflict_judges at key test = other_unless (fault_at (at ▸ key) reasons.Conflict) (not test) tt

-- the elements of a list, each with those before it
each_judges : {A : Type 0} (judge : List A → Steps → A → Finding) (at : Steps) (xs : List A)
    → ((before : List A) (there : Steps) (x : A) → IsOther (judge before there x)) → IsOther (each_after judge at xs)
each_judges judge at xs h = other_first_in judge at [] xs h

-- an interleaver
interleave_judges : (c : Coreset) (at : Steps) (i : Interleave) → IsOther (interleave_conflicts c at i)
unfolding interleave_conflicts
interleave_judges c at i = search (other_next, other_none, conflict_judges)

-- a CORESET
coreset_judges : (downlink : Bwp) (earlier : List Coreset) (at : Steps) (c : Coreset)
    → IsOther (coreset_conflicts downlink earlier at c)
unfolding coreset_conflicts
coreset_judges downlink earlier at c =
    search (other_next, other_none, conflict_judges, other_if_given, interleave_judges)

-- the times of a set
timing_judges : (coreset : Option Coreset) (at : Steps) (s : SearchSet) → IsOther (timing_conflicts coreset at s)
unfolding timing_conflicts
timing_judges coreset at s = search (other_next, other_none, conflict_judges) depth 20

-- a search space set
set_judges : (h : Handset) (earlier : List SearchSet) (at : Steps) (s : SearchSet) → IsOther (set_conflicts h earlier at s)
unfolding set_conflicts
set_judges h earlier at s = search (other_next, other_none, conflict_judges, timing_judges) depth 20

-- what decides the fields of format 0_1
uplink_judges : (codebook : Codebook) (at : Steps) (f : UplinkFields) → IsOther (uplink_conflicts codebook at f)
unfolding uplink_conflicts
uplink_judges codebook at f = search (other_next, other_none, conflict_judges)

-- what decides the fields of format 1_1
downlink_judges : (at : Steps) (f : DownlinkFields) → IsOther (downlink_conflicts at f)
unfolding downlink_conflicts
downlink_judges at f = search (other_next, other_none, conflict_judges)

-- a handset
handset_judges : (cell : RawCell) (earlier : List Handset) (at : Steps) (h : Handset)
    → IsOther (handset_conflicts cell earlier at h)
unfolding handset_conflicts
handset_judges cell earlier at h =
    search (
      other_next,
      other_none,
      conflict_judges,
      each_judges,
      other_if_given,
      coreset_judges,
      set_judges,
      uplink_judges,
      downlink_judges,
    ) depth 20

-- the whole
pub cell_judges : (raw : RawCell) → IsOther (cell_conflicts raw)
unfolding cell_conflicts
cell_judges raw = each_judges (handset_conflicts raw) ([] ▸ keys.Handsets) raw.handsets (handset_judges raw)
