use Rattle.std.proofs.Common.{◌+◌, ◌*◌, ◌%◌, ◌<◌, ap, arith}
use Rattle.coreset_map.specs.ControlResources.{Resources, cce_count}
use Rattle.coreset_map.proofs.Numbered.{number-from}
use Rattle.coreset_map.proofs.map.Map.number_at.Goals as goal

below : (c : goal.After-bundle_at)
    → c.bundle_at.result * c.bundle_size-size.result + c.args.place % c.bundle_size-size.result < 6 * cce_count c.args.self.now
below c =
    number-from c.args.self.now c.self.inside.interleaver c.cce_count-count.result c.bundle_size-size.result
    c.bundle_at.result c.args.place
    c.cce_count-count.ensures.resources (ap (λ (r : Resources). r.interleaver) c.self.view_is)
    c.cce_count-count.ensures.value c.bundle_size-size.ensures
    c.bundle_at.ensures c.requires

pub overflow_mul-result : goal.overflow_mul-result
overflow_mul-result c =
    let b = below c in let v = c.cce_count-count.ensures.value in let f = c.cce_count-count.ensures.few in omega (arith, b, v, f)

pub overflow_add-result : goal.overflow_add-result
overflow_add-result c =
    let b = below c in let v = c.cce_count-count.ensures.value in let f = c.cce_count-count.ensures.few in omega (arith, b, v, f)

pub returns-clause-below : goal.returns-clause-below
returns-clause-below c = below c
