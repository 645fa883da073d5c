use Rattle.std.proofs.Common.{arith, []}
use Rattle.std.proofs.lemmas.Grind.{common_steps}
use Rattle.dci_codec.specs.declared.heard.Heard.{Heard}
use Rattle.dci_fields.specs.declared.formats.Format.TheVariants.{F00}
use Rattle.nrpdcch_c.specs.HeardNumbers.{heard_of}
use Rattle.nrpdcch_c.proofs.Overlays.{overlaid_next}
use Rattle.nrpdcch_c.proofs.searching.put_report.Goals as goal

pub loop-index-preserved : goal.loop-index-preserved
loop-index-preserved c =
    let i = c.loop-index.index in
    let report = c.args.report.now in
    let test = c.loop-index-test.true in
    let room = c.requires in
    let none : Heard = record { watch = 0; format = F00; values = [] } in
    let written = c.heard_of.ensures in
    let before = c.loop-index.invariant in
    let next = overlaid_next heard_of report c.args.found.now i none (heard_of none) (omega arith) (omega arith) in
    grind (arith, common_steps)
