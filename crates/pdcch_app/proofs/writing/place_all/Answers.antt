use Rattle.std.proofs.Common.{Vec, ℕ, ◌+◌, Global, sym, subst, ap, ◌∙◌}
use Rattle.grant_file.specs.Lists.{IsReadGrant}
use Rattle.report_text.proofs.RefusedGrants.{named_from_fate}
use Rattle.pdcch_app.proofs.Placings.{Start, Now, Underway, all_placed, placed_one, refused_one}
use Rattle.pdcch_app.proofs.writing.place_all.Goals.{in-Ok, in-Err+in_ok-append_refusal-in-Err}
use Rattle.pdcch_app.proofs.writing.place_all.Goals as goal

pub append_refusal-requires : goal.append_refusal-requires
append_refusal-requires c =
    let grant = c.index-grants-number.result in
    let read : IsReadGrant grant = subst IsReadGrant (sym c.index-grants-number.is)
    (c.requires.grants c.loop-number.number grant c.loop-number-test.true) in
    named_from_fate c.loop-number.desk.ledger grant c.in-Err.refusal read.fields.in_place (sym c.in-Err.ensures.fate)

pub loop-number-preserved : goal.loop-number-preserved
loop-number-preserved c =
    let l = c.loop-number in
    let start : Start = record { desk = c.args.desk.now; lines = c.args.lines.now.items } in
    let now : Now = record { desk = l.desk; lines = l.lines.items; all = l.all_placed } in
    let next : Now =
    record { desk = c.place_with.new.self; lines = c.match-place_with.lines.items; all = c.match-place_with.all_placed } in
    let placed : Underway c.args.tables.now c.args.grants.now start next (l.number + 1) = elim c.match-place_with.branch [
      | in-Ok w ↦
          placed_one c.args.tables.now c.args.grants.now start now l.number c.index-grants-number.result
          c.loop-number-test.true c.index-grants-number.is l.invariant.placed next w.in-Ok.field-0 w.in-Ok.ensures.fate
          c.place_with.ensures.step (ap (λ (v : Vec ℕ Global). v.items) w.lines-is) w.all_placed-is
      | in-Err+in_ok-append_refusal-in-Err w ↦
          refused_one c.args.tables.now c.args.grants.now start now l.number c.index-grants-number.result
          c.loop-number-test.true c.index-grants-number.is l.invariant.placed next w.in-Err.refusal w.in-Err.ensures.fate
          c.place_with.ensures.step
          (ap (λ (v : Vec ℕ Global). v.items) w.lines-is ∙ w.in_ok-append_refusal-in-Err.ensures.whole) w.all_placed-is
    ] in
    record { placed = placed; kept = c.place_with.ensures.codes }

pub returns : goal.returns
returns c =
    let l = c.loop-number in
    all_placed c.args.tables.now c.args.grants.now (record { desk = c.args.desk.now; lines = c.args.lines.now.items })
    (record { desk = l.desk; lines = l.lines.items; all = l.all_placed }) l.number c.loop-number-test.false l.invariant.placed
