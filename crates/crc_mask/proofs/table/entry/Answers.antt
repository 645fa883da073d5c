use Rattle.std.proofs.Common.{◌≡◌, true, refl}
use Rattle.crc_mask.specs.declared.table.TheConstants.{TABLE}
use Rattle.crc_mask.proofs.Entries.{advanced_number, fed_number, matches, entry_below, entry_bits}
use Rattle.crc_mask.proofs.table.entry.Goals as goal

-- all 256 entries, computed
table_matches : matches TABLE 0 ≡ true
unfolding advanced_number fed_number matches
table_matches = refl

pub returns-clause-below : goal.returns-clause-below
returns-clause-below c = entry_below TABLE c.args.byte table_matches c.requires

pub returns-clause-bits : goal.returns-clause-bits
returns-clause-bits c = entry_bits TABLE c.args.byte table_matches c.requires
