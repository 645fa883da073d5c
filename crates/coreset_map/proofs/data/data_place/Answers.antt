use Rattle.std.proofs.Common.{◌/◌, ◌%◌, Some, ap, sym, ◌∙◌}
use Rattle.coreset_map.specs.RegOrder.{reg_at}
use Rattle.coreset_map.proofs.Spots.{spot_of, data_place_is}
use Rattle.coreset_map.proofs.data.data_place.Goals as goal

pub returns : goal.returns
returns c symbols blocks w =
    data_place_is symbols blocks c.args.regs.now.items c.args.at c.requires.regs w c.requires.at
    ∙ ap (λ regs. Some (spot_of (reg_at regs (c.args.at / 9)) (c.args.at % 9))) (sym c.deref.ensures.0)
