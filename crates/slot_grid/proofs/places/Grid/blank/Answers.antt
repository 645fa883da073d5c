use Rattle.std.proofs.Common.{◌≡◌, ℕ, ◌*◌, List, length, replicate, ap, ◌∙◌}
use Rattle.std.proofs.lemmas.List.{length-replicate}
use Rattle.slot_grid.specs.declared.places.Point.{Point}
use Rattle.slot_grid.specs.Block.{points_in}
use Rattle.slot_grid.specs.Grid.{GridValue}
use Rattle.slot_grid.proofs.BlockWords.{points_in-blank, length-points_in}
use Rattle.slot_grid.proofs.places.Grid.blank.Goals as goal

-- the words are zeros
zeros : (c : goal.In-Ok) → c.in-Ok.words.items ≡ replicate (14 * c.args.blocks) 0
zeros c = c.in-Ok.ensures.items_if_clones_equal (λ y same. same)

pub invariant_of-result : goal.invariant_of-result
invariant_of-result c =
    let a = c.args in
    record {
      grid = record {
        mu_most = c.requires.mu;
        frame_most = c.requires.frame;
        slot_below = c.requires.slot;
        blocks_least = c.requires.blocks_least;
        blocks_most = c.requires.blocks_most;
        size = length-points_in c.in-Ok.words.items a.blocks;
      };
      words = ap (λ (xs : List ℕ). length xs) (zeros c) ∙ length-replicate (14 * a.blocks) 0;
    }

pub returns-in-Ok : goal.returns-in-Ok
returns-in-Ok c =
    let a = c.args in
    let with : List Point → GridValue =
    λ points. record { mu = a.mu; frame = a.frame; slot = a.slot; blocks = a.blocks; points = points }
    in
    ap (λ (xs : List ℕ). with (points_in xs a.blocks)) (zeros c) ∙ ap with (points_in-blank a.blocks)
