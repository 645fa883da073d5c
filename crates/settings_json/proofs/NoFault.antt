-- The settings in which no fault is found are legal.
use Rattle.std.proofs.Common.{◌≡◌, ℕ, List, [], None}
use Rattle.rrc_settings.specs.declared.place.Reason.TheVariants.{NotJson}
use Rattle.rrc_settings.specs.Faults.{fault_at}
use Rattle.rrc_settings.specs.Legal.{first_fault, IsLegal}
use Rattle.rrc_settings.specs.Naming.{whole}
use Rattle.rrc_settings.proofs.NoFault.{two_none}
use Rattle.serde_json.specs.Data.{Data}
use Rattle.json_form.proofs.NoFault.{spelled_where_none}
use Rattle.settings_json.specs.First.{first_fault_of, first_fault_in, raw_in}
use Rattle.settings_json.specs.Shapes.{cell}
use Rattle.settings_json.specs.Values.{raw_value}

-- the settings that a value without a fault spells are legal
value_is_legal : (d : Data) → first_fault_of d ≡ None → IsLegal (raw_value d)
unfolding first_fault_of
value_is_legal d e = (two_none (cell whole d) (first_fault (raw_value d)) e).1

-- and so are those that bytes without one spell
pub legal_read : (bytes : List ℕ) → first_fault_in bytes ≡ None → IsLegal (raw_in bytes)
legal_read bytes e = spelled_where_none (fault_at [] NotJson) first_fault_of raw_value IsLegal value_is_legal bytes e
