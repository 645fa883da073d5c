-- A watch as C has it.
use Rattle.std.specs.Prelude.{◌≡◌, ℕ, List, is_some, Result}
use Rattle.monitor_plan.specs.declared.watch.Watch.{Watch}
use Rattle.nrpdcch_c.specs.declared.stop.Stop.{Stop}
use Rattle.nrpdcch_c.specs.declared.watch.NrpdcchWatch.{NrpdcchWatch}
use Rattle.nrpdcch_c.specs.FormatNumbers.{kind_number}
use Rattle.nrpdcch_c.specs.Stops.{answer_number, count_left, entries_left}

-- the numbers of a watch, and which formats it carries
abbrev pub watch_of : Watch → NrpdcchWatch
watch_of w = record {
  set = w.set;
  kind = kind_number w.kind;
  symbol = w.symbol;
  level = w.level;
  candidate = w.candidate;
  size = w.size;
  rnti = w.rnti;
  uplink = is_some w.up;
  downlink = is_some w.down;
}

-- what listing a plan leaves, by its answer
pub record PlanLeaves (number : ℕ) (watches watches-new : List NrpdcchWatch) (count : ℕ)
    (answer : Result (List Watch) Stop) : Type 0 where
  pub number_is : number ≡ answer_number answer
  pub watches_are : watches-new ≡ entries_left watch_of answer watches
  pub count_is : count ≡ count_left answer
