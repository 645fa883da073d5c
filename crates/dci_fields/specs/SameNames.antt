-- Names of fields are compared by their `==`.
use Rattle.std.specs.Prelude.{Bool}
use Rattle.dci_fields.specs.declared.names.FieldName.{FieldName}
use Rattle.dci_fields.specs.contracts.names.FieldNamePartialEq.TheImpl as field_name

-- two names are the same
abbrev pub same_name : FieldName → FieldName → Bool
same_name a b = field_name.ghosts.eq a b
