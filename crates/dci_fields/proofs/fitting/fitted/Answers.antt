use Rattle.std.proofs.Common.{◌-◌, ℕ, List, subst, sym, ap, ◌∙◌}
use Rattle.dci_fields.specs.declared.rows.FieldRow.{FieldRow}
use Rattle.dci_fields.specs.FieldLists.{IsFieldList}
use Rattle.dci_fields.proofs.RowLists.{fitted_is_list, cut_list}
use Rattle.dci_fields.proofs.fitting.fitted.Goals as goal

pub of-requires : goal.of-requires
of-requires c =
    let P : List FieldRow → Type 0 = λ rows. IsFieldList rows in
    subst P (sym (c.as_slice.ensures.value ∙
    cut_list c.rows-row-items.result.now c.args.list.now c.loop-row.rows.items c.args.size c.loop-row.row-index
    c.saturating_sub-excess.result c.rows-row-items.ensures.value c.loop-row-test.false
    (c.saturating_sub-excess.ensures ∙ ap (λ (n : ℕ). n - c.args.size) c.width_of.ensures.value) c.loop-row.invariant))
    (fitted_is_list c.args.list.now c.args.size c.rows-row-items.ensures.list c.requires)
