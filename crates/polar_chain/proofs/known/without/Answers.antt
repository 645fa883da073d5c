use Rattle.polar_chain.proofs.KnownWords.{has_one-without}
use Rattle.polar_chain.proofs.known.without.Goals as goal

pub returns : goal.returns
returns c i l = has_one-without c.args.known c.args.carrying i c.ranges.carrying.fits l
