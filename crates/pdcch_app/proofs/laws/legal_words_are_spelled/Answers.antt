use Rattle.pdcch_app.proofs.Spellings.{legal_words}
use Rattle.pdcch_app.proofs.laws.legal_words_are_spelled.Goals as goal

pub returns : goal.returns
returns c = legal_words
