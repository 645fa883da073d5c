use Rattle.std.proofs.Common.{◌≡◌}
use Rattle.serde_json.specs.View.{members_view}
use Rattle.json_form.specs.Kinds.{has_only}
use Rattle.json_form.proofs.objects.has_only.Given as goal

-- the members are all good where those left are
abbrev pub invariant-loop-key : goal.invariant-loop-key
invariant-loop-key g l =
    has_only g.P.FaultPlace.names l.keys (members_view l.members.entries)
    ≡ has_only g.P.FaultPlace.names l.keys (members_view l.key-iterator)
