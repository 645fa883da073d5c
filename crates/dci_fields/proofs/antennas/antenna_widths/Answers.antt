use Rattle.std.proofs.Common.{arith}
use Rattle.dci_fields.proofs.antennas.antenna_widths.Goals as goal

pub returns-clause-sri_most : goal.returns-clause-sri_most
returns-clause-sri_most c = c.bits_for.ensures.least 1 (omega (arith, c.requires.most))
