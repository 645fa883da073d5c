-- `==` of watches holds exactly of equal values.
use Rattle.std.specs.Prelude.{◌≡◌, Decides}
use Rattle.std.proofs.Common.{rules}
use Rattle.std.proofs.lemmas.Grind.{common_steps}
use Rattle.rrc_settings.specs.Equality.{decides_option, decides_array_vec, decides_set_kind}
use Rattle.dci_fields.specs.Equality.{decides_rows}
use Rattle.coreset_map.specs.declared.places.Reg.{Reg}
use Rattle.coreset_map.specs.contracts.places.RegPartialEq.TheImpl as reg
use Rattle.monitor_plan.specs.declared.watch.Watch.{Watch}
use Rattle.monitor_plan.specs.contracts.watch.WatchPartialEq.TheImpl as watch

-- REGs
pub decides_reg : (a b : Reg) → Decides (reg.ghosts.eq a b) (a ≡ b)
decides_reg a b = search (rules, common_steps)

-- watches
pub decides_watch : (a b : Watch) → Decides (watch.ghosts.eq a b) (a ≡ b)
decides_watch a b =
    let k = decides_set_kind a.kind b.kind in
    let u = decides_option decides_rows a.up b.up in
    let d = decides_option decides_rows a.down b.down in
    let r = decides_array_vec decides_reg a.regs b.regs in
    search (rules, common_steps)
