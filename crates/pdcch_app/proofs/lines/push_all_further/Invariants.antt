use Rattle.std.proofs.Common.{◌≡◌, ◌++◌, take}
use Rattle.std.specs.List.{flat_map}
use Rattle.pdcch_app.specs.Lines.{further}
use Rattle.pdcch_app.proofs.lines.push_all_further.Given as goal

-- the texts of the steps so far follow the text
abbrev pub invariant-loop-step : goal.invariant-loop-step
invariant-loop-step l =
    l.text.items ≡ l.initial.text.items ++ flat_map further (take l.step-index l.initial.steps)
