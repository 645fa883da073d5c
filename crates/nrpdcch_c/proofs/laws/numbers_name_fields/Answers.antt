use Rattle.nrpdcch_c.proofs.NumberedEntries.{numbers_name_fields}
use Rattle.nrpdcch_c.proofs.laws.numbers_name_fields.Goals as goal

pub returns : goal.returns
returns c = numbers_name_fields
