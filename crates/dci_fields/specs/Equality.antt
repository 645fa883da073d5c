-- `==` of formats, names, rows and values holds exactly of equal values.
use Rattle.std.specs.Prelude.{◌≡◌, Bool, List, Decides}
use Rattle.std.specs.Cmp.Lexicographic.{pointwise}
use Rattle.std.proofs.Common.{rules}
use Rattle.std.proofs.lemmas.Grind.{common_steps}
use Rattle.rrc_settings.specs.Equality.{decides_list, decides_option}
use Rattle.dci_fields.specs.declared.formats.Format.{Format}
use Rattle.dci_fields.specs.declared.names.FieldName.{FieldName}
use Rattle.dci_fields.specs.declared.fault.Given.{Given}
use Rattle.dci_fields.specs.declared.rows.FieldRow.{FieldRow}
use Rattle.dci_fields.specs.declared.values.FieldValue.{FieldValue}
use Rattle.dci_fields.specs.contracts.formats.FormatPartialEq.TheImpl as format
use Rattle.dci_fields.specs.contracts.names.FieldNamePartialEq.TheImpl as field_name
use Rattle.dci_fields.specs.contracts.fault.GivenPartialEq.TheImpl as a_given
use Rattle.dci_fields.specs.contracts.rows.FieldRowPartialEq.TheImpl as field_row
use Rattle.dci_fields.specs.contracts.values.FieldValuePartialEq.TheImpl as field_value

-- formats
pub decides_format : (a b : Format) → Decides (format.ghosts.eq a b) (a ≡ b)
decides_format a b = search (rules, common_steps)

-- names of fields
pub decides_field_name : (a b : FieldName) → Decides (field_name.ghosts.eq a b) (a ≡ b)
decides_field_name a b = search (rules, common_steps)

-- values that are asked for
pub decides_given : (a b : Given) → Decides (a_given.ghosts.eq a b) (a ≡ b)
decides_given a b = let n = decides_option decides_field_name a.name b.name in search (rules, common_steps)

-- rows
pub decides_field_row : (a b : FieldRow) → Decides (field_row.ghosts.eq a b) (a ≡ b)
decides_field_row a b = let n = decides_field_name a.name b.name in search (rules, common_steps)

-- values
pub decides_field_value : (a b : FieldValue) → Decides (field_value.ghosts.eq a b) (a ≡ b)
decides_field_value a b = let n = decides_field_name a.name b.name in search (rules, common_steps)

-- the test of two lists of rows
abbrev pub same_rows : List FieldRow → List FieldRow → Bool
same_rows = pointwise field_row.ghosts.eq

-- lists of rows
pub decides_rows : (a b : List FieldRow) → Decides (same_rows a b) (a ≡ b)
decides_rows = decides_list decides_field_row

-- the test of two lists of values
abbrev pub same_values : List FieldValue → List FieldValue → Bool
same_values = pointwise field_value.ghosts.eq

-- lists of values
pub decides_values : (a b : List FieldValue) → Decides (same_values a b) (a ≡ b)
decides_values = decides_list decides_field_value
