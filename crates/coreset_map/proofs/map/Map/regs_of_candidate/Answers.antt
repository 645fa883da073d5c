use Rattle.std.proofs.Common.{◌≡◌, ◌+◌, ◌*◌, ◌≤◌, List, ◌∷◌, ◌++◌, [], refl, length, map, ap, sym, ◌∙◌, subst, IsPermutation, arith}
use Rattle.std.specs.List.{range_with_len}
use Rattle.std.proofs.lemmas.List.FromFn.{map-range_with_len_more}
use Rattle.coreset_map.specs.declared.places.Reg.{Reg}
use Rattle.coreset_map.specs.ControlResources.{cce_count}
use Rattle.coreset_map.specs.Numbers.{number_at, placed_reg}
use Rattle.coreset_map.proofs.Bundles.{begins_at}
use Rattle.coreset_map.proofs.Cces.{placed-from}
use Rattle.coreset_map.proofs.SortedRegs.{sorted_listed}
use Rattle.coreset_map.proofs.map.Map.regs_of_candidate.Goals as goal

pub loop-place-preserved : goal.loop-place-preserved
loop-place-preserved c =
    let l = c.loop-place in
    let n = length l.regs.items in
    let first = 6 * c.args.start in
    let h = placed_reg (6 * cce_count c.args.self.now) c.args.self.now in
    let more : length c.push.new.self.items ≡ n + 1 = c.push.ensures.len in
    record {
      size = let e = l.invariant.size in omega (arith, e, more);
      items =
          c.push.ensures.items
          ∙ ap (λ regs. regs ++ c.reg.result ∷ []) l.invariant.items
          ∙ ap (λ reg. map h (range_with_len first n) ++ reg ∷ [])
          (c.reg.ensures
          ∙ placed-from c.args.self.now c.next_number-number.result l.place c.next_number-number.ensures.value)
          ∙ sym (map-range_with_len_more h first n l.place l.invariant.size)
          ∙ ap (λ k. map h (range_with_len first k)) (sym more);
      number =
          λ _. c.next_number-number.ensures.value
          ∙ ap (number_at (6 * cce_count c.args.self.now) c.args.self.now) (omega arith);
    }

pub loop-place-init : goal.loop-place-init
loop-place-init c = record {
  size = let e = ap length c.new-regs.ensures in omega (arith, e);
  items =
      subst
      (λ (regs : List Reg). regs
      ≡ map (placed_reg (6 * cce_count c.args.self.now) c.args.self.now) (range_with_len (6 * c.args.start) (length regs)))
      (sym c.new-regs.ensures) refl;
  number = λ ne. absurd (ne (begins_at c.args.self.now c.args.start c.cce_count-count.ensures.resources));
}

pub returns : goal.returns
returns c =
    let l = c.loop-place in
    let last : l.place ≤ 6 * (c.args.start + c.from.result) = l.auto.place-end (omega arith) in
    let size : length l.regs.items ≡ 6 * c.args.level =
    let e = l.invariant.size in let f = c.from.ensures in let t = c.loop-place-test.false in omega (arith, e, f, t, last) in
    let q : IsPermutation l.regs.items c.sort_unstable.new.self =
    subst (λ regs. IsPermutation regs c.sort_unstable.new.self) c.deref_mut.ensures.value
    c.sort_unstable.ensures.permutation in
    let h = sorted_listed c.args.self.now c.args.start c.args.level l.regs.items c.sort_unstable.new.self
    c.cce_count-count.ensures.resources c.requires.cces
    size l.invariant.items q c.sort_unstable.ensures.sorted in
    record { regs = h.are; length = h.long; order = h.order; symbols = h.symbols; blocks = h.blocks }
