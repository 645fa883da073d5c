use Rattle.std.proofs.Common.{ℕ, ◌^◌, subst, sym}
use Rattle.polar_kernel.specs.PackedStages.{IsPackedWord}
use Rattle.polar_kernel.proofs.StagesOfWords.{packed_row}
use Rattle.polar_kernel.proofs.packed.transform_words.Goals as goal

pub returns-then-n-eq5-clause-first : goal.returns-then-n-eq5-clause-first
returns-then-n-eq5-clause-first g c =
    packed_row (2 ^ c.args.n) c.args.word.now c.transform_half.new.words
    (subst (λ (n : ℕ). IsPackedWord (2 ^ n) c.args.word.now c.transform_half.new.words) (sym c.if-n-eq5.true)
    c.transform_half.ensures)

pub returns-else-n-eq5-clause-first : goal.returns-else-n-eq5-clause-first
returns-else-n-eq5-clause-first g c =
    packed_row (2 ^ c.args.n) c.args.word.now c.transform_whole.new.words c.transform_whole.ensures
