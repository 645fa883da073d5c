use Rattle.std.proofs.Common.{◌≡◌, ℕ, ◌<◌, List, length, get_or, subst, sym, ap, ◌∙◌}
use Rattle.std.proofs.lemmas.List.{get_or_default}
use Rattle.rrc_settings.specs.declared.settings.Handset.{Handset}
use Rattle.rrc_settings.specs.declared.settings.RawCell.{RawCell}
use Rattle.rrc_settings.specs.HandsetsOfCell.{no_handset, handset_at}
use Rattle.rrc_settings.specs.LegalCell.{IsLegalHandset}
use Rattle.dci_fields.proofs.raw_lists.raw_list.Goals as goal

-- the handset that indexing finds is the one at that place
handset_indexed : (cell : RawCell) (xs : List Handset) (k : ℕ) (h : Handset) → xs ≡ cell.handsets → k < length cell.handsets
    → h ≡ get_or xs k h → handset_at cell k ≡ h
handset_indexed cell xs k h e within is =
    get_or_default cell.handsets k no_handset h within ∙ ap (λ (ys : List Handset). get_or ys k h) (sym e) ∙ sym is

pub list_of-requires-clause-own : goal.list_of-requires-clause-own
list_of-requires-clause-own c =
    let cell : RawCell = c.args.cell.now in
    let is = c.raw-raw.ensures.value in
    let here = handset_indexed cell c.as_slice.result.now c.args.handset c.index-as_slice-handset.result
    (c.as_slice.ensures ∙ ap (λ (x : RawCell). x.handsets) is) c.requires.place c.index-as_slice-handset.is in
    let own = c.raw-raw.ensures.facts.handsets c.args.handset c.requires.place in
    subst (λ (x : RawCell). IsLegalHandset x c.index-as_slice-handset.result) (sym is)
    (subst (λ (h : Handset). IsLegalHandset cell h) here own)
