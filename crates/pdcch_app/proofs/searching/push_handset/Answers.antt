use Rattle.std.proofs.Common.{get_or, ap, ◌∙◌}
use Rattle.std.proofs.lemmas.Result.{err_from_is_err_and}
use Rattle.rrc_settings.specs.declared.settings.RawCell.{RawCell}
use Rattle.monitor_plan.specs.Planned.{planned}
use Rattle.blind_search.specs.Report.{report_of}
use Rattle.blind_search.specs.Searcher.{SearcherValue}
use Rattle.pdcch_app.proofs.Listeners.{name_of, plan_is, listens_over, appended_from}
use Rattle.pdcch_app.proofs.searching.push_handset.Goals as goal

pub returns-in_err-plan-clause-lines : goal.returns-in_err-plan-clause-lines
returns-in_err-plan-clause-lines c =
    let p = err_from_is_err_and c.from_residual.result c.from_residual.ensures.1 in
    rw (p.1, p.2) (listens_over c.args.cell.now c.args.tables.now c.args.grid.now c.args.handset c.args.text.now.items _
    c.in_err-plan.ensures.read)

pub returns-clause-lines : goal.returns-clause-lines
returns-clause-lines c =
    let v = c.search_with.follows.holds-at-none in
    let p = ap (λ (s : SearcherValue). s.plan) c.in_ok-searcher.ensures in
    appended_from c.args.cell.now c.args.tables.now c.args.grid.now c.args.handset c.in_ok-plan.plan
    (record {
      name = (get_or c.as_slice.result.now c.args.handset c.index-as_slice-handset.result).name;
      plan = c.plan.result.now;
      found = c.found.result.now;
      name_is =
          name_of c.args.cell.now c.as_slice.result.now c.args.handset c.index-as_slice-handset.result
          (c.as_slice.ensures ∙ ap (λ (raw : RawCell). raw.handsets) c.raw.ensures.value) c.requires.handset;
      plan_is = c.plan.ensures ∙ v.0 ∙ p;
      found_is =
          c.found.ensures.report ∙ v.1 ∙ c.search_with.ensures.report ∙ ap (report_of c.args.tables.now c.args.grid.now) p;
    })
    c.args.text.now.items c.append_report.new.out.items
    (plan_is c.args.cell.now c.args.handset
    (planned c.args.cell.now c.args.handset c.args.grid.now.frame c.args.grid.now.slot) c.in_ok-plan.plan
    c.in_ok-plan.ensures.read)
    c.in_ok-append_report.ensures.whole
