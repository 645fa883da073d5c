-- A searcher: what its callers see, and what its fields keep.
use Rattle.std.specs.Prelude.{◌≤◌, List, Vec, length, vec_capacity}
use Rattle.std.specs.declared.alloc.Global.{Global}
use Rattle.monitor_plan.specs.declared.watch.Watch.{Watch}
use Rattle.dci_codec.specs.declared.heard.Heard.{Heard}
use Rattle.blind_search.specs.Report.{AreOfWatches}

-- the watches of its plan, and the report of its last search
pub record SearcherValue : Type 0 where
  pub plan : List Watch
  pub found : List Heard

-- there is room for an entry of each watch, and each entry is of one of them
pub record IsSearcher (plan : List Watch) (heard : Vec Heard Global) : Type 0 where
  pub room : length plan ≤ vec_capacity heard
  pub within : AreOfWatches plan heard.items
