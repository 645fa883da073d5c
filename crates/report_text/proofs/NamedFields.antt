-- What a fault of field values names.
use Rattle.std.proofs.Common.{◌≡◌, List, length}
use Rattle.std.proofs.lemmas.Option.{slice_get_within}
use Rattle.dci_fields.specs.declared.fault.FieldFault.{FieldFault}
use Rattle.dci_fields.specs.declared.fault.FieldFault.TheVariants.{Unknown, TooLarge, AllOnes}
use Rattle.dci_fields.specs.declared.formats.Format.{Format}
use Rattle.dci_fields.specs.declared.rows.FieldRow.{FieldRow}
use Rattle.dci_fields.specs.GivenValues.{IsFieldFault}
use Rattle.grant_file.specs.declared.grants.Grant.{Grant}
use Rattle.report_text.specs.Refusal.{NamesField}

-- what is wrong first with the values of a grant is named by it, where its words are in the places of its values
pub named_from_fault : (rows : List FieldRow) (format : Format) (grant : Grant) (fault : FieldFault)
    → length grant.given ≡ length grant.words → IsFieldFault rows format grant.given fault → NamesField grant fault
named_from_fault rows format grant (Unknown at) words (fault, before) =
    record { place = slice_get_within grant.given at fault.0 fault.1; in_place = words }
named_from_fault rows format grant (TooLarge at width) words (fault, before) =
    record { place = slice_get_within grant.given at fault.0 fault.1; in_place = words }
named_from_fault rows format grant AllOnes words fault = tt
