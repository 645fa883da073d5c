use Rattle.std.proofs.Common.{arith, length, ◌<◌, subst, replicate}
use Rattle.std.proofs.lemmas.Grind.{common_steps}
use Rattle.rrc_settings.specs.declared.place.Step.TheVariants.{Key}
use Rattle.rrc_settings.specs.declared.words.Key.TheVariants.{Version}
use Rattle.nrpdcch_c.specs.Faults.{no_step, step_of}
use Rattle.nrpdcch_c.proofs.Overlays.{overlaid_next}
use Rattle.nrpdcch_c.proofs.fault.steps_of.Goals as goal

pub loop-index-preserved : goal.loop-index-preserved
loop-index-preserved c =
    let i = c.loop-index.index in
    let xs = c.args.place.now.steps.items in
    let value = c.as_slice-step-items.ensures.value in
    let fits = c.as_slice-step-items.ensures.fits in
    let below = subst (λ l. i < length l) value c.loop-index-test.true in
    let next = overlaid_next step_of xs (replicate 6 no_step) i (Key Version) no_step below (omega arith) in
    let written = c.step_of.ensures in
    let before = c.loop-index.invariant in
    grind (arith, common_steps)
