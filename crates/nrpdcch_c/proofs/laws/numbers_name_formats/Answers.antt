use Rattle.nrpdcch_c.proofs.NumberedEntries.{numbers_name_formats}
use Rattle.nrpdcch_c.proofs.laws.numbers_name_formats.Goals as goal

pub returns : goal.returns
returns c = numbers_name_formats
