use Rattle.std.proofs.Common.{length}
use Rattle.json_form.proofs.texts.+bits_value.Given as goal

-- each call has one character less
abbrev pub decreases-bits_value : goal.decreases-bits_value
decreases-bits_value l = length l.text.now
