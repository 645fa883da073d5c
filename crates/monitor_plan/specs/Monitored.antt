-- Words of the code: the watches of a handset in a slot from its sets, each kept once, and a candidate for each watch with the
-- place of its set.
use Rattle.std.specs.Prelude.{◌≡◌, ℕ, ◌+◌, ◌<◌, ◌≤◌, List, Option, Some, None, length, map, slice_get}
use Rattle.std.specs.List.{flat_map}
use Rattle.rrc_settings.specs.declared.settings.RawCell.{RawCell}
use Rattle.rrc_settings.specs.declared.settings.Handset.{Handset}
use Rattle.rrc_settings.specs.declared.settings.SearchSet.{SearchSet}
use Rattle.rrc_settings.specs.HandsetsOfCell.{set_at}
use Rattle.dci_fields.specs.declared.sizes.Sizes.{Sizes}
use Rattle.coreset_map.specs.ControlResources.{cce_count}
use Rattle.monitor_budget.specs.declared.candidates.Candidate.{Candidate}
use Rattle.monitor_budget.specs.SetCandidates.{sizes_in, set_candidates}
use Rattle.monitor_budget.specs.Spaces.{space_of}
use Rattle.monitor_plan.specs.declared.monitored.MonitoredSet.{MonitoredSet}
use Rattle.monitor_plan.specs.declared.monitored.Monitored.{Monitored}
use Rattle.monitor_plan.specs.declared.watch.Watch.{Watch}
use Rattle.monitor_plan.specs.Watch.{no_watch}
use Rattle.monitor_plan.specs.SetFormats.{formats_of, watch_in}

-- a set with what its watches have in common
abbrev pub set_kept : RawCell → Handset → Sizes → SearchSet → MonitoredSet
set_kept cell h sizes s = record { space = space_of cell h s; formats = formats_of cell h sizes s.kind }

-- the sets at some places
abbrev pub sets_kept : RawCell → Handset → Sizes → List ℕ → List MonitoredSet
sets_kept cell h sizes places = map (λ place. set_kept cell h sizes (set_at h place)) places

-- the candidates of a set, in search order
abbrev pub candidates_in : Sizes → MonitoredSet → List Candidate
candidates_in sizes s =
    set_candidates (cce_count s.space.resources) (sizes_in sizes s.space.set.kind) s.space.set

-- a candidate of the set at a place
abbrev pub monitored_at : ℕ → Candidate → Monitored
monitored_at at c = record { set = at; candidate = c }

-- the watch of a candidate of a set
abbrev pub watch_kept : MonitoredSet → Candidate → Watch
watch_kept s c = watch_in s.space s.formats c

-- the watch of a candidate, where its set is there
abbrev pub watch_where : Option MonitoredSet → Candidate → Watch
watch_where None c = no_watch
watch_where (Some s) c = watch_kept s c

-- the watch of a candidate of one of the sets
abbrev pub watch_monitored : List MonitoredSet → Monitored → Watch
watch_monitored sets m = watch_where (slice_get sets m.set) m.candidate

-- the watches of candidates of the sets
abbrev pub watches_monitored : List MonitoredSet → List Monitored → List Watch
watches_monitored sets candidates = map (watch_monitored sets) candidates

-- the watches of all candidates of the sets, set by set
unfoldable pub watches_in_sets : Sizes → List MonitoredSet → List Watch
watches_in_sets sizes sets = flat_map (λ (s : MonitoredSet). map (watch_kept s) (candidates_in sizes s)) sets

-- a candidate is of one of the sets, and its CCEs are some of the set's CORESET
pub record IsMonitored (sets : List MonitoredSet) (m : Monitored) : Type 0 where
  pub set : m.set < length sets
  pub level : m.candidate.level ≤ 16
  pub cces : (s : MonitoredSet) → slice_get sets m.set ≡ Some s
      → m.candidate.start + m.candidate.level ≤ cce_count s.space.resources
