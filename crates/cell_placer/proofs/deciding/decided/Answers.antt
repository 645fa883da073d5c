use Rattle.std.proofs.Common.{◌≡◌, List, ap, sym, ◌∙◌, bytes_eq}
use Rattle.std.specs.Prelude.{position}
use Rattle.cell_placer.specs.declared.member.Member.{Member}
use Rattle.cell_placer.specs.Fate.{by_handset, decided}
use Rattle.cell_placer.proofs.Decisions.{ready_if}
use Rattle.cell_placer.proofs.deciding.decided.Goals as goal

pub returns-in-Some-clause-ready : goal.returns-in-Some-clause-ready
unfolding decided
returns-in-Some-clause-ready c =
    let l = c.args.ledger.now in
    let g = c.args.grant.now in
    let same : c.decided_in.result ≡ decided l g =
    c.decided_in.ensures
    ∙ ap (by_handset l g) (sym c.in-Some.is ∙ c.handset_of.ensures
    ∙ ap (λ (ms : List Member). position (λ (m : Member). bytes_eq m.name g.handset) ms) c.members.ensures.value) in
    ready_if l g c.decided_in.result c.members.ensures.ledger same
