use Rattle.std.proofs.Common.{refl, sym, ◌∙◌}
use Rattle.dci_codec.proofs.Readings.{none-read, none_unfit, none-unread}
use Rattle.dci_codec.proofs.hearing.read.Goals as goal
use Rattle.dci_codec.proofs.hearing.read.Goals.{then-fits+in_default, else-fits}

pub loop-format-preserved : goal.loop-format-preserved
loop-format-preserved c =
    let w = c.args.watch.now in
    let payload = c.args.payload.now in
    let at = c.loop-format.format-index in
    elim c.if-fits.branch [
      | then-fits+in_default k ↦ none-unread w payload at _ c.loop-format.invariant refl c.requires.size k.in_default.ensures
      | else-fits k ↦ none_unfit w payload at _ c.loop-format.invariant refl (sym c.fits.ensures ∙ k.if-fits.false)
    ]

pub returns : goal.returns
returns c =
    none-read c.args.watch.now c.args.number c.args.payload.now c.loop-format.format-index c.loop-format-test.false
    c.loop-format.invariant
