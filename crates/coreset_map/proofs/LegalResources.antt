-- The control resource sets of a legal cell.
use Rattle.std.proofs.Common.{◌≡◌, ℕ, ◌*◌, ◌<◌, List, length, get_or, Option, Some, None, IfSome, option_map}
use Rattle.std.proofs.Common.{refl, ◌∙◌, ap, subst, arith}
use Rattle.std.specs.List.{range_with_len}
use Rattle.std.proofs.lemmas.List.{get_or_default}
use Rattle.rrc_settings.specs.declared.settings.RawCell.{RawCell}
use Rattle.rrc_settings.specs.declared.settings.Handset.{Handset}
use Rattle.rrc_settings.specs.declared.settings.Coreset.{Coreset}
use Rattle.rrc_settings.specs.declared.settings.Interleave.{Interleave}
use Rattle.rrc_settings.specs.BitSets.{has_bit}
use Rattle.rrc_settings.specs.ControlGroups.{groups_of, cces_of}
use Rattle.rrc_settings.specs.HandsetsOfCell.{no_handset, handset_at, no_coreset, coreset_at}
use Rattle.rrc_settings.specs.LegalCell.{IsLegalInterleave, IsLegalCoreset, IsLegalHandset, IsLegalCell}
use Rattle.coreset_map.specs.ControlResources.{GoesWith, AreBelow, AreResources}
use Rattle.coreset_map.specs.ResourcesOfCell.{interleaver_in, resources_in, resources_of}
use Rattle.list_facts.proofs.Rising.{Rising, rising-filter, rising-range, rising-at}
use Rattle.coreset_map.proofs.Bits.{groups_below, groups_all}

-- the groups whose bit is one rise
below_rising : (groups n : ℕ) → Rising (λ a b. a < b) (groups_below groups n)
unfolding groups_below
below_rising groups n = rising-filter (λ a b. a < b) (has_bit groups) (range_with_len 0 n) (rising-range 0 n)

groups_rising : (groups : ℕ) → Rising (λ a b. a < b) (groups_of groups)
groups_rising groups = subst (λ gs. Rising (λ a b. a < b) gs) (groups_all groups 64 refl) (below_rising groups 64)

-- the interleaver of a legal CORESET goes with it
goes_with : (cell : ℕ) (c : Coreset) (o : Option Interleave) → IfSome o (IsLegalInterleave c)
    → GoesWith (6 * cces_of c) (option_map (interleaver_in cell) o)
goes_with cell c None h = tt
goes_with cell c (Some i) h = record { bundle = h.bundle; rows = h.rows; filled = h.filled }

-- a legal CORESET of a handset of a legal cell is one whose REGs can be told
pub are_resources : (cell : RawCell) (h : Handset) (c : Coreset) → IsLegalCell cell → IsLegalHandset cell h
    → IsLegalCoreset h.downlink c
    → AreResources (resources_in cell.cell h.downlink.start c)
are_resources cell h c legal there known = record {
  least = known.duration_least;
  most = known.duration_most;
  rising = λ i j d l m. rising-at (λ a b. a < b) (groups_of c.groups) (groups_rising c.groups) i j d l m;
  below =
      λ k d l. let e = known.inside k d l in let i = there.downlink_inside in let m = legal.blocks_most in omega (arith, e, i, m);
  interleaver = goes_with cell.cell c c.interleave known.interleave;
}

-- and lies in the carrier
pub are_below : (cell : RawCell) (h : Handset) (c : Coreset) → IsLegalHandset cell h → IsLegalCoreset h.downlink c
    → AreBelow cell.blocks (resources_in cell.cell h.downlink.start c)
are_below cell h c there known k d l = let e = known.inside k d l in let i = there.downlink_inside in omega (arith, e, i)

-- a CORESET of a handset of a legal cell, by their places
pub record IsLegalSet (raw : RawCell) (handset coreset : ℕ) : Type 0 where
  pub resources : AreResources (resources_of raw handset coreset)
  pub inside : AreBelow raw.blocks (resources_of raw handset coreset)

-- each CORESET of a legal cell is such a one
pub legal_resources : (raw : RawCell) (handset coreset : ℕ) → IsLegalCell raw → handset < length raw.handsets
    → coreset < length (handset_at raw handset).coresets.items → IsLegalSet raw handset coreset
legal_resources raw handset coreset legal l m =
    let h = handset_at raw handset in
    let there = legal.handsets handset l in
    let known = there.coresets coreset m in
    record {
      resources = are_resources raw h (coreset_at h coreset) legal there known;
      inside = are_below raw h (coreset_at h coreset) there known;
    }

-- the set as the code reads it
pub resources_read : (raw cell : RawCell) (h k : ℕ) (hs : Handset) (all : List Handset) (cs : List Coreset) → raw ≡ cell
    → all ≡ raw.handsets
    → hs ≡ get_or all h hs → h < length cell.handsets → cs ≡ hs.coresets.items
    → resources_in raw.cell hs.downlink.start (get_or cs k no_coreset) ≡ resources_of cell h k
resources_read raw cell h k hs all cs e f g l m =
    let here : hs ≡ handset_at cell h =
    g ∙ ap (λ xs. get_or xs h hs) (f ∙ ap (λ (r : RawCell). r.handsets) e) ∙ get_or_default cell.handsets h hs no_handset l in
    ap (λ (r : RawCell). resources_in r.cell hs.downlink.start (get_or cs k no_coreset)) e
    ∙ ap (λ xs. resources_in cell.cell hs.downlink.start (get_or xs k no_coreset)) m
    ∙ ap (λ (x : Handset). resources_in cell.cell x.downlink.start (coreset_at x k)) here
