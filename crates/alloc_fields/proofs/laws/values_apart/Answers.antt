use Rattle.alloc_fields.proofs.SpanValues as spans
use Rattle.alloc_fields.proofs.laws.values_apart.Goals as goal

pub returns : goal.returns
returns c = λ n start len other_start other_len value least most. spans.values_apart n start len other_start other_len value
