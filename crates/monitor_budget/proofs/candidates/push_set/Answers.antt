use Rattle.std.proofs.Common.{◌≡◌, arith, sym, ap, ◌∙◌, ◌++◌, length}
use Rattle.std.specs.List.{range_with_len, flat_map, filter}
use Rattle.arrayvec.specs.ArrayVec.{ArrayVec}
use Rattle.monitor_budget.specs.declared.candidates.Candidate.{Candidate}
use Rattle.rrc_settings.specs.BitSets.{has_bit}
use Rattle.monitor_budget.specs.SetCandidates.{symbol_candidates, set_candidates}
use Rattle.list_facts.proofs.Ranges.{pushed_pass, pushed_skip}
use Rattle.monitor_budget.proofs.candidates.push_set.Goals as goal
use Rattle.monitor_budget.proofs.candidates.push_set.Goals.{then-has_bit, else-has_bit}

pub loop-symbol-preserved : goal.loop-symbol-preserved
loop-symbol-preserved c =
    let l = c.loop-symbol in
    let p = has_bit c.args.set.now.symbols in
    let f = symbol_candidates c.args.cces c.args.sizes.now c.args.set.now in
    let bit = ap (λ number. has_bit number l.symbol) (sym c.from.ensures)
    ∙ ap (has_bit c.from.result) (sym c.from-in-loop-symbol.ensures) ∙ sym c.has_bit.ensures in
    elim c.if-has_bit.branch [
      | then-has_bit w ↦ record {
        items = pushed_pass p f c.args.out.now.items l.out.items c.if-has_bit.out.items l.symbol (bit ∙ w.if-has_bit.true)
            l.invariant.items (ap (λ (v : ArrayVec Candidate). v.items) w.out-is ∙ w.push_symbol.ensures.items);
        few =
            let h = l.invariant.few in let k = w.push_symbol.ensures.few in
            let e = ap (λ (v : ArrayVec Candidate). length v.items) w.out-is in
            omega (arith, h, k, e);
      }
      | else-has_bit w ↦ record {
        items = ap (λ (v : ArrayVec Candidate). v.items) w.out-is
            ∙ pushed_skip p f c.args.out.now.items l.out.items l.symbol (bit ∙ w.if-has_bit.false) l.invariant.items;
        few = let h = l.invariant.few in let e = ap (λ (v : ArrayVec Candidate). length v.items) w.out-is in omega (arith, h, e);
      }
    ]

pub returns-clause-items : goal.returns-clause-items
unfolding set_candidates
returns-clause-items c =
    let l = c.loop-symbol in
    let e : l.symbol ≡ 14 = let h = c.loop-symbol-test.false in let k = l.auto.symbol-end in omega (arith, h, k) in
    l.invariant.items
    ∙ ap (λ n. c.args.out.now.items
    ++ flat_map (symbol_candidates c.args.cces c.args.sizes.now c.args.set.now)
    (filter (has_bit c.args.set.now.symbols) (range_with_len 0 n))) e
