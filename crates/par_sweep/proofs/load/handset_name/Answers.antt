use Rattle.std.proofs.Common.{◌≡◌, true, false, ap, ◌∙◌}
use Rattle.rrc_settings.specs.Name.{is_name}
use Rattle.par_sweep.specs.LoadCell.{handset_name}
use Rattle.par_sweep.proofs.LegalLoad.{named}
use Rattle.par_sweep.proofs.load.handset_name.Goals as goal

pub unreachable-requires : goal.unreachable-requires
unfolding handset_name
unreachable-requires c =
    let text = c.as_bytes.ensures.value ∙ c.in_ok-text.ensures.ok in
    let wrong : false ≡ true = c.in-None.ensures.exact ∙ ap is_name text ∙ named c.args.number c.requires in
    cc

pub returns : goal.returns
unfolding handset_name
returns c = c.in-Some.ensures.value ∙ c.as_bytes.ensures.value ∙ c.in_ok-text.ensures.ok
