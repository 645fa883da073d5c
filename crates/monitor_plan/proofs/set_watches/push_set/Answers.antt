use Rattle.std.proofs.Common.{ap, ◌∙◌}
use Rattle.rrc_settings.specs.HandsetsOfCell.{handset_at, set_at}
use Rattle.coreset_map.specs.ControlResources.{cce_count}
use Rattle.monitor_budget.specs.declared.candidates.Candidate.{Candidate}
use Rattle.monitor_budget.specs.declared.space.Space.{Space}
use Rattle.monitor_budget.specs.SetCandidates.{set_candidates, sizes_in}
use Rattle.monitor_plan.specs.SetFormats.{formats_of}
use Rattle.monitor_plan.proofs.WatchParts.{space_found, one_watch_more, set-made}
use Rattle.monitor_plan.proofs.set_watches.push_set.Goals as goal

abbrev no_candidate : Candidate
no_candidate = record { symbol = 0; level = 0; candidate = 0; start = 0; size = 0 }

pub loop-candidate-preserved : goal.loop-candidate-preserved
loop-candidate-preserved c =
    let cell = c.args.cell.now in
    let h = handset_at cell c.args.handset in
    let sizes = c.args.sizes.now in
    let found = space_found cell h c.handset_in-owner.result.now c.args.set c.deref.result.now c.of-space.result
    c.handset_in-owner.ensures.handset c.deref.ensures.0 c.of-space.ensures.space in
    one_watch_more cell h sizes (set_at h c.args.set) c.as_slice-candidate-items.result.now c.args.watches.now.items
    c.loop-candidate.watches.items
    c.push.new.self.items c.loop-candidate.candidate-index no_candidate c.of-space.result c.of-formats.result c.watch_of.result
    c.loop-candidate-test.true found (c.of-formats.ensures ∙ ap (λ (x : Space). formats_of cell h sizes x.set.kind) found)
    c.watch_of.ensures c.loop-candidate.invariant c.in_ok-push.ensures.items

pub returns-clause-watches : goal.returns-clause-watches
returns-clause-watches c =
    let cell = c.args.cell.now in
    let h = handset_at cell c.args.handset in
    let sizes = c.args.sizes.now in
    let found = space_found cell h c.handset_in-owner.result.now c.args.set c.deref.result.now c.of-space.result
    c.handset_in-owner.ensures.handset c.deref.ensures.0 c.of-space.ensures.space in
    set-made cell h sizes (set_at h c.args.set) c.as_slice-candidate-items.result.now c.args.watches.now.items
    c.loop-candidate.watches.items
    c.loop-candidate.candidate-index
    (c.as_slice-candidate-items.ensures.value ∙ c.candidates-candidates.ensures.items
    ∙ ap (λ (x : Space). set_candidates (cce_count x.resources) (sizes_in sizes x.set.kind) x.set) found)
    c.loop-candidate-test.false c.loop-candidate.invariant
