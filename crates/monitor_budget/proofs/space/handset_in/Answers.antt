use Rattle.std.proofs.Common.{sym, subst}
use Rattle.rrc_settings.specs.declared.settings.Handset.{Handset}
use Rattle.rrc_settings.specs.LegalCell.{IsLegalHandset}
use Rattle.monitor_budget.proofs.Spaces.{handset-read}
use Rattle.monitor_budget.proofs.space.handset_in.Goals as goal

pub returns-clause-facts : goal.returns-clause-facts
returns-clause-facts c =
    subst (λ (h : Handset). IsLegalHandset c.args.cell.now h)
    (sym (handset-read c.args.cell.now c.raw.result.now c.as_slice.result.now c.args.handset c.index-as_slice-handset.result
    c.raw.ensures.value c.as_slice.ensures c.index-as_slice-handset.is c.requires))
    (c.raw.ensures.facts.handsets c.args.handset c.requires)
