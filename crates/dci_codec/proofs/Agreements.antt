-- The test of a grid at the places of a watch tells whether it agrees with what a block writes there: such an image has no other
-- places.
use Rattle.std.proofs.Common.{◌≡◌, ℕ, ◌+◌, ◌*◌, ◌%◌, Bool, true, List, get_or, ap, sym, subst, ◌∙◌, arith}
use Rattle.std.proofs.lemmas.List.Sums.{list_all-from_AllPass}
use Rattle.coreset_map.specs.declared.places.Spot.{Spot}
use Rattle.coreset_map.specs.RegOrder.{reg_at}
use Rattle.dmrs_qpsk.proofs.ImagesOnGrid.{of_reg}
use Rattle.monitor_plan.specs.declared.watch.Watch.{Watch}
use Rattle.slot_grid.specs.Grid.{GridValue}
use Rattle.slot_grid.specs.Image.{Image, Agrees, agrees_at}
use Rattle.slot_grid.proofs.Agreements.{point-agrees_at, agrees_at-each}
use Rattle.table_files.specs.declared.tables.Tables.{Tables}
use Rattle.dci_codec.specs.BlockImage.{block_image}
use Rattle.dci_codec.specs.TheSpelling.{has_image}
use Rattle.dci_codec.specs.WatchPlaces.{places}
use Rattle.dci_codec.proofs.Carriers.{image_is, sent}
use Rattle.dci_codec.proofs.PlacesByNumber.{place_passes}

-- a grid that agrees with an image passes at each place
pub has_image_from : (grid : GridValue) (w : Watch) (image : Image) → Agrees grid image → has_image grid w image ≡ true
unfolding has_image
has_image_from grid w image h =
    list_all-from_AllPass (λ (place : Spot). agrees_at grid image place.symbol place.subcarrier) (places w)
    (λ i d l. agrees_at-each grid image (get_or (places w) i d).symbol (get_or (places w) i d).subcarrier h)

-- a grid that passes at each place of a watch agrees with what a block writes there
pub has_image_to : (tables : Tables) (grid : GridValue) (slot : ℕ) (w : Watch) (block : List Bool)
    → has_image grid w (block_image tables slot w block) ≡ true → Agrees grid (block_image tables slot w block)
unfolding has_image
has_image_to tables grid slot w block h s c p e =
    let image = block_image tables slot w block in
    let at = of_reg slot w.symbol w.dmrs_id w.regs.items (sent tables w block) s c p
    (ap (λ (i : Image). i s c) (sym (image_is tables slot w block)) ∙ e) in
    let reg = reg_at w.regs.items at.reg in
    let test : Spot → Bool = λ place. agrees_at grid image place.symbol place.subcarrier in
    let there = place_passes test w at.reg (c % 12) h at.within (omega arith) in
    let P : ℕ → Type 0 = λ symbol. agrees_at grid image symbol (12 * reg.block + c % 12) ≡ true in
    let Q : ℕ → Type 0 = λ subcarrier. agrees_at grid image s subcarrier ≡ true in
    point-agrees_at grid image s c p (subst Q at.place_is (subst P at.symbol_is there)) e
