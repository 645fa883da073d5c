use Rattle.std.proofs.Common.{not, ℕ, drop, ap, sym, ◌∙◌}
use Rattle.std.specs.List.{list_all}
use Rattle.dci_fields.proofs.PayloadCarriers.{carried, not_allowed, not_padded}
use Rattle.dci_fields.proofs.unpacking.unpack_core.Goals as goal

pub returns-in_err-values : goal.returns-in_err-values
returns-in_err-values c =
    rw c.from_residual.ensures (not_allowed c.args.rows.now c.args.format c.args.payload.now c.in_err-values.ensures)

pub returns-then-is_zero_from : goal.returns-then-is_zero_from
returns-then-is_zero_from c =
    carried c.args.rows.now c.args.format c.args.payload.now c.in_ok-values.values c.requires.room c.in_ok-values.ensures.0
    c.in_ok-values.ensures.1
    (ap (λ (place : ℕ). list_all not (drop place c.args.payload.now)) (sym c.requires.width) ∙ sym c.is_zero_from.ensures
    ∙ c.if-is_zero_from.true)

pub returns-else-is_zero_from : goal.returns-else-is_zero_from
returns-else-is_zero_from c =
    not_padded c.args.rows.now c.args.format c.args.payload.now
    (ap (λ (place : ℕ). list_all not (drop place c.args.payload.now)) (sym c.requires.width) ∙ sym c.is_zero_from.ensures
    ∙ c.if-is_zero_from.false)
