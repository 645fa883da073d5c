use Rattle.std.proofs.Common.{arith, length, ◌<◌, subst, replicate}
use Rattle.std.proofs.lemmas.Grind.{common_steps}
use Rattle.dci_fields.specs.declared.names.FieldName.TheVariants.{Identifier}
use Rattle.dci_fields.specs.declared.values.FieldValue.{FieldValue}
use Rattle.nrpdcch_c.specs.HeardNumbers.{field_of, no_field}
use Rattle.nrpdcch_c.proofs.Overlays.{overlaid_next}
use Rattle.nrpdcch_c.proofs.heard.fields_of.Goals as goal

pub loop-index-preserved : goal.loop-index-preserved
loop-index-preserved c =
    let i = c.loop-index.index in
    let values = c.args.values.now in
    let value = c.entries-value-items.ensures.value in
    let few = c.entries-value-items.ensures.few in
    let below = subst (λ l. i < length l) value c.loop-index-test.true in
    let none : FieldValue = record { name = Identifier; value = 0 } in
    let next = overlaid_next field_of values (replicate 32 no_field) i none no_field below (omega arith) in
    let written = c.field_of.ensures in
    let before = c.loop-index.invariant in
    grind (arith, common_steps)
