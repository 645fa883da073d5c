use Rattle.rate_match.proofs.WrittenWords.{piece_bits}
use Rattle.rate_match.proofs.pieces.piece_at.Goals as goal

pub returns-clause-bits : goal.returns-clause-bits
returns-clause-bits c = piece_bits c.args.words.now c.args.index c.args.width c.requires.width
