use Rattle.std.proofs.Common.{◌≡◌, ◌≢◌, ◌+◌, ◌*◌, ◌%◌, ◌<◌, ap, ◌∙◌, arith}
use Rattle.coreset_map.specs.ControlResources.{Resources, bundle_size, cce_count}
use Rattle.coreset_map.specs.Numbers.{number_at}
use Rattle.coreset_map.proofs.Bundles.{next_number}
use Rattle.coreset_map.proofs.Numbered.{number_below}
use Rattle.coreset_map.proofs.map.Map.next_number.Goals as goal

-- the number before is one less
value : (c : goal.Else-rest-eq0)
    → c.args.before + 1 ≡ number_at (6 * cce_count c.args.self.now) c.args.self.now c.args.place
value c =
    let size = c.bundle_size.ensures ∙ ap (λ (r : Resources). bundle_size r.interleaver) c.self.view_is in
    let inside : c.args.place % bundle_size c.args.self.now.interleaver ≢ 0 =
    λ e. c.if-rest-eq0.false (ap (λ n. c.args.place % n) size ∙ e) in
    ap (λ n. n + 1) (c.requires.before inside)
    ∙ next_number c.args.self.now c.args.place c.cce_count-count.ensures.resources inside

below : (c : goal.Else-rest-eq0) → c.args.before + 1 < 6 * cce_count c.args.self.now
below c =
    omega (arith, value c, number_below c.args.self.now c.args.place c.cce_count-count.ensures.resources c.requires.place)

pub overflow_add-result : goal.overflow_add-result
overflow_add-result c =
    omega (arith, below c, c.cce_count-count.ensures.value, c.cce_count-count.ensures.few)

pub returns-clause-value : goal.returns-clause-value
returns-clause-value c = value c

pub returns-clause-below : goal.returns-clause-below
returns-clause-below c = below c
