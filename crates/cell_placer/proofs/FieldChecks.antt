-- The fault of packing at a watch is the first fault of the values there.
use Rattle.std.proofs.Common.{◌≡◌, ℕ, Bool, List, Some, None, refl, sym, subst, ◌∙◌}
use Rattle.dci_fields.specs.declared.fault.Given.{Given}
use Rattle.dci_fields.specs.declared.fault.FieldFault.{FieldFault}
use Rattle.dci_fields.specs.declared.formats.Format.{Format}
use Rattle.dci_fields.specs.declared.rows.FieldRow.{FieldRow}
use Rattle.dci_fields.specs.GivenValues.{IsFieldFault, IsPayloadOf}
use Rattle.dci_fields.specs.FirstFieldFault.{field_fault}
use Rattle.dci_fields.proofs.FirstFieldFaults.{finds_field_fault, none_where_packed}

-- values that have a payload are without a fault
pub none_at : {own rows : List FieldRow} {format : Format} {given kept : List Given} {size : ℕ} {payload : List Bool}
    → rows ≡ own → kept ≡ given
    → IsPayloadOf rows format kept size payload → None ≡ field_fault own format given
none_at {own} {rows} {format} {given} {kept} {size} {payload} e f h =
    let P : List FieldRow → Type 0 = λ x. None ≡ field_fault x format given in
    let Q : List Given → Type 0 = λ x. None ≡ field_fault rows format x in
    subst P e (subst Q f (sym (none_where_packed rows format kept size payload h)))

-- a fault that is found in values is the first one
pub fault_at : {own rows : List FieldRow} (format : Format) {given kept : List Given} {fault : FieldFault} → rows ≡ own
    → kept ≡ given
    → IsFieldFault rows format kept fault → Some fault ≡ field_fault own format given
fault_at {own} {rows} format {given} {kept} {fault} e f h =
    let P : List FieldRow → Type 0 = λ x. Some fault ≡ field_fault x format given in
    let Q : List Given → Type 0 = λ x. Some fault ≡ field_fault rows format x in
    subst P e (subst Q f (sym ((finds_field_fault rows format kept fault).1 h)))

-- values without a first fault have none
pub no_fault : (rows : List FieldRow) (format : Format) {given kept : List Given} (fault : FieldFault)
    → field_fault rows format given ≡ None → kept ≡ given
    → IsFieldFault rows format kept fault → ⊥
no_fault rows format {given} {kept} fault e f h =
    let none : Some fault ≡ None = fault_at {own = rows} format refl f h ∙ e in cc
