use Rattle.std.proofs.Common.{ℕ, ◌-◌, ◌*◌, ◌%◌, ◌^◌, ◌≤◌, length, subst, sym}
use Rattle.polar_kernel.specs.PackedStages.{IsPackedWord}
use Rattle.polar_kernel.proofs.StagesOfWords.{all_words_done, bits_of_words, each_done, one_more_between, partners_of_words}
use Rattle.polar_kernel.proofs.StagesOfWords.{some_words, word_count, words_fit}
use Rattle.polar_kernel.proofs.packed.transform_whole.Goals as goal

pub transform_each-requires : goal.transform_each-requires
transform_each-requires c = words_fit c.args.n (length c.args.words.now) c.requires.least c.requires.most c.requires.room

pub loop-span-init : goal.loop-span-init
loop-span-init c =
    each_done (1 * 2 ^ (c.args.n - 6) % 2 ^ 64) c.args.words.now c.transform_each.new.words (some_words c.args.n c.requires.most)
    c.transform_each.ensures

pub add_words-requires-clause-room : goal.add_words-requires-clause-room
add_words-requires-clause-room c =
    words_fit c.args.n (length c.loop-span.words) c.requires.least c.requires.most
    (subst (λ (size : ℕ). 2 ^ c.args.n ≤ 64 * size) (sym c.loop-span.invariant.length_is) c.requires.room)

pub add_words-requires-clause-partners : goal.add_words-requires-clause-partners
add_words-requires-clause-partners c =
    partners_of_words (1 * 2 ^ (c.args.n - 6) % 2 ^ 64) c.loop-span.span (c.args.n - 6) c.args.words.now c.loop-span.words
    (word_count c.args.n c.requires.most) c.loop-span.invariant c.loop-span-test.true

pub loop-span-preserved : goal.loop-span-preserved
loop-span-preserved c =
    one_more_between (1 * 2 ^ (c.args.n - 6) % 2 ^ 64) c.loop-span.span (c.args.n - 6) c.args.words.now c.loop-span.words
    c.add_words.new.words (word_count c.args.n c.requires.most) c.loop-span.invariant c.loop-span-test.true c.add_words.ensures

pub returns : goal.returns
returns c =
    subst (λ (size : ℕ). IsPackedWord size c.args.words.now c.loop-span.words)
    (bits_of_words c.args.n c.requires.least c.requires.most)
    (all_words_done (1 * 2 ^ (c.args.n - 6) % 2 ^ 64) c.loop-span.span c.args.words.now c.loop-span.words c.loop-span.invariant
    c.loop-span-test.false)
