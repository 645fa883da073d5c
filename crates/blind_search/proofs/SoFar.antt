-- What is heard at the first watches of a list.
use Rattle.std.proofs.Common.{◌≡◌, ℕ, ◌+◌, ◌<◌, ◌≤◌, List, ◌++◌, Vec, vec_capacity, length, get_or, sym, ap, ◌∙◌, arith, add-one}
use Rattle.std.specs.List.{filter_map, range_with_len}
use Rattle.std.specs.Option.{option_to_list}
use Rattle.std.specs.declared.alloc.Global.{Global}
use Rattle.std.proofs.lemmas.List.{get_or_default}
use Rattle.slot_grid.specs.Grid.{GridValue}
use Rattle.table_files.specs.declared.tables.Tables.{Tables}
use Rattle.monitor_plan.specs.declared.watch.Watch.{Watch}
use Rattle.monitor_plan.specs.Watch.{no_watch, watch_at}
use Rattle.dci_codec.specs.declared.codes.Codes.{Codes}
use Rattle.dci_codec.specs.declared.heard.Heard.{Heard}
use Rattle.dci_codec.specs.KnownCodes.{AreOf}
use Rattle.dci_codec.specs.TheSpelling.{heard_at}
use Rattle.blind_search.specs.Report.{heard_in, report_of}
use Rattle.blind_search.proofs.Entries.{given_more, length-given}

-- the entries of the watches below a number, with room for so many
pub record IsHeardBelow (tables : Tables) (grid : GridValue) (watches : List Watch) (n least : ℕ)
    (heard : Vec Heard Global) : Type 0 where
  pub report : heard.items ≡ filter_map (heard_in tables grid watches) (range_with_len 0 n)
  pub room : least ≤ vec_capacity heard

-- so far the entries are those of the watches below a number, and the codes that are kept are by the tables
pub record IsSearchedBelow (tables : Tables) (grid : GridValue) (watches : List Watch) (n least : ℕ)
    (heard : Vec Heard Global) (codes : Codes) : Type 0 where
  pub entries : IsHeardBelow tables grid watches n least heard
  pub kept : AreOf tables codes

-- there is room for one entry more
pub room_left : (tables : Tables) (grid : GridValue) (watches : List Watch) (n least : ℕ) (heard : Vec Heard Global) → n < least
    → IsHeardBelow tables grid watches n least heard → length heard.items < vec_capacity heard
room_left tables grid watches n least heard l h =
    omega (arith, l, h.room, ap length h.report, length-given (heard_in tables grid watches) n 0)

-- one watch more
pub heard_more : (tables : Tables) (grid : GridValue) (watches : List Watch) (n least : ℕ) (heard next : Vec Heard Global)
    (watch : Watch)
    → n < length watches → watch ≡ get_or watches n watch → IsHeardBelow tables grid watches n least heard
    → next.items ≡ heard.items ++ option_to_list (heard_at tables grid watch n) → vec_capacity heard ≤ vec_capacity next
    → IsHeardBelow tables grid watches (n + 1) least next
heard_more tables grid watches n least heard next watch some is h e l =
    let f = heard_in tables grid watches in
    let this : watch ≡ watch_at watches n = is ∙ get_or_default watches n watch no_watch some in
    record {
      report =
          e ∙ ap (λ (xs : List Heard). xs ++ option_to_list (heard_at tables grid watch n)) h.report
          ∙ ap (λ (w : Watch). filter_map f (range_with_len 0 n) ++ option_to_list (heard_at tables grid w n)) this
          ∙ sym (given_more f n 0 n (omega arith))
          ∙ ap (λ (k : ℕ). filter_map f (range_with_len 0 k)) (sym (add-one n));
      room = omega (arith, l, h.room);
    }

-- all watches
pub heard_all : (tables : Tables) (grid : GridValue) (watches : List Watch) (n least : ℕ) (heard : Vec Heard Global)
    → length watches ≤ n → n ≤ length watches
    → IsHeardBelow tables grid watches n least heard → heard.items ≡ report_of tables grid watches
unfolding report_of
heard_all tables grid watches n least heard l m h =
    let all : n ≡ length watches = omega (arith, l, m) in
    h.report ∙ ap (λ (k : ℕ). filter_map (heard_in tables grid watches) (range_with_len 0 k)) all
