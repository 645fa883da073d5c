use Rattle.std.proofs.Common.{◌≡◌, ◌+◌, [], ◌∷◌, ◌++◌, map, subst, sym, ◌∙◌, ap, arith}
use Rattle.std.specs.List.{range_with_len}
use Rattle.std.proofs.lemmas.List.FromFn.{map-range_with_len_more}
use Rattle.signal_tests.proofs.RegsInARow.{reg_of_block, regs_below, ListsBlocks, lists}
use Rattle.signal_tests.proofs.of_dmrs_qpsk.eight_cces.Goals as goal

pub returns : goal.returns
returns c =
    let all : c.loop-block.block ≡ 48 = omega arith in
    let e = c.loop-block.invariant.regs ∙ ap regs_below all in
    let h = subst (ListsBlocks 48) (sym e) (lists 48) in
    record { order = h.order; size = h.size; places = h.places }

pub loop-block-preserved : goal.loop-block-preserved
loop-block-preserved c =
    let l = c.loop-block in
    record {
      size = c.push.ensures.len ∙ ap (λ n. n + 1) l.invariant.size;
      regs =
          c.push.ensures.items
          ∙ ap (λ regs. regs ++ reg_of_block l.block ∷ []) l.invariant.regs
          ∙ sym (map-range_with_len_more reg_of_block 0 l.block l.block (omega arith));
    }
