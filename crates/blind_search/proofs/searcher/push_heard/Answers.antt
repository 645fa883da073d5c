use Rattle.std.proofs.Common.{◌≡◌, List, arith, sym, subst, vec_capacity}
use Rattle.dci_codec.specs.declared.heard.Heard.{Heard}
use Rattle.blind_search.specs.Report.{AreOfWatches, report_of}
use Rattle.blind_search.proofs.Reports.{report_within}
use Rattle.blind_search.proofs.SoFar.{room_left, heard_more, heard_all}
use Rattle.blind_search.proofs.searcher.push_heard.Goals as goal

pub push_heard_at-requires-clause-room : goal.push_heard_at-requires-clause-room
push_heard_at-requires-clause-room c =
    let l = c.loop-number in
    room_left c.args.tables.now c.args.grid.now c.args.watches.now l.number (vec_capacity c.args.heard.now) l.heard
    (omega (arith, c.loop-number-test.true, c.requires.room)) l.invariant.entries

pub loop-number-preserved : goal.loop-number-preserved
loop-number-preserved c =
    let l = c.loop-number in
    record {
      entries =
          heard_more c.args.tables.now c.args.grid.now c.args.watches.now l.number (vec_capacity c.args.heard.now) l.heard
          c.push_heard_at.new.heard
          c.index-watches-number.result c.loop-number-test.true c.index-watches-number.is l.invariant.entries
          c.push_heard_at.ensures.entry c.push_heard_at.ensures.room;
      kept = c.push_heard_at.ensures.codes;
    }

-- after the last watch
all : (c : goal.After-loop-number) → c.loop-number.heard.items ≡ report_of c.args.tables.now c.args.grid.now c.args.watches.now
all c =
    let l = c.loop-number in
    heard_all c.args.tables.now c.args.grid.now c.args.watches.now l.number (vec_capacity c.args.heard.now) l.heard
    c.loop-number-test.false l.auto.number-end l.invariant.entries

pub returns-clause-report : goal.returns-clause-report
returns-clause-report = all

pub returns-clause-within : goal.returns-clause-within
returns-clause-within c =
    subst (λ (entries : List Heard). AreOfWatches c.args.watches.now entries) (sym (all c))
    (report_within c.args.tables.now c.args.grid.now c.args.watches.now)
