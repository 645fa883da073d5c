-- What the checks of a cell say of it and of its handsets.
use Rattle.std.proofs.Common.{◌≡◌, ℕ, ◌<◌, ◌≤◌, false, List, [], ◌∷◌, None, length, take, bytes_eq, nat_eq, nat_lt}
use Rattle.std.proofs.Common.{refl, arith}
use Rattle.std.specs.List.{list_any}
use Rattle.std.proofs.lemmas.Bool.{ltb-false}
use Rattle.std.proofs.lemmas.Bool.Decides.{Decides-eqb}
use Rattle.std.proofs.lemmas.Slice.Eq.{bytes_eq-Decides}
use Rattle.rrc_settings.specs.Faults.{Steps, ◌▸◌}
use Rattle.rrc_settings.specs.Table.{coreset_ranges, set_ranges, uplink_ranges, downlink_ranges}
use Rattle.rrc_settings.specs.Numbers.{is_one_of}
use Rattle.rrc_settings.specs.Table.{handset_table, handset_ranges, cell_table, cell_ranges}
use Rattle.rrc_settings.specs.BandwidthParts.{end_of}
use Rattle.rrc_settings.specs.HandsetsOfCell.{no_handset, no_coreset, no_set, handset_at, coreset_at, set_at}
use Rattle.rrc_settings.specs.Conflicts.{coreset_checks, coreset_conflicts, set_checks, set_conflicts}
use Rattle.rrc_settings.specs.Conflicts.{uplink_conflicts, downlink_conflicts, handset_checks, handset_conflicts, cell_conflicts}
use Rattle.rrc_settings.specs.Legal.{first_fault, IsLegal}
use Rattle.rrc_settings.specs.LegalCell.{IsLegalUplink, IsLegalDownlink, IsLegalHandset, IsLegalCell}
use Rattle.rrc_settings.specs.declared.words.Key.TheVariants as keys
use Rattle.rrc_settings.specs.declared.settings.Bwp.{Bwp}
use Rattle.rrc_settings.specs.declared.settings.Coreset.{Coreset}
use Rattle.rrc_settings.specs.declared.settings.SearchSet.{SearchSet}
use Rattle.rrc_settings.specs.declared.settings.Handset.{Handset}
use Rattle.rrc_settings.specs.declared.settings.RawCell.{RawCell}
use Rattle.rrc_settings.proofs.NoFault.{two_none}
use Rattle.rrc_settings.proofs.ByKey.{range_by_key, check_by_key, range_from_to, range_if_given, conflict_none, both_given}
use Rattle.rrc_settings.proofs.ByPlace.{first_in_at, each_at, list_parts, one_place}
use Rattle.rrc_settings.proofs.LegalFields.{legal_bwp, legal_uplink, legal_downlink}
use Rattle.rrc_settings.proofs.LegalCoresets.{legal_coreset}
use Rattle.rrc_settings.proofs.LegalSets.{legal_set}

-- a CORESET has a number that no earlier one has
coreset_is_new : (downlink : Bwp) (earlier : List Coreset) (there : Steps) (c : Coreset)
    → coreset_conflicts downlink earlier there c ≡ None
    → list_any (λ (e : Coreset). nat_eq e.number c.number) earlier ≡ false
unfolding coreset_conflicts
coreset_is_new downlink earlier there c g =
    conflict_none there keys.Number (list_any (λ (e : Coreset). nat_eq e.number c.number) earlier)
    (check_by_key (coreset_checks downlink earlier there c) keys.Number g)

-- a set has a number that no earlier one has
set_is_new : (h : Handset) (earlier : List SearchSet) (there : Steps) (s : SearchSet) → set_conflicts h earlier there s ≡ None
    → list_any (λ (e : SearchSet). nat_eq e.number s.number) earlier ≡ false
unfolding set_conflicts
set_is_new h earlier there s g =
    conflict_none there keys.Number (list_any (λ (e : SearchSet). nat_eq e.number s.number) earlier)
    (check_by_key (set_checks h earlier there s) keys.Number g)

-- a handset
legal_handset : (cell : RawCell) (earlier : List Handset) (at there : Steps) (h : Handset) → handset_ranges at h ≡ None
    → handset_conflicts cell earlier there h ≡ None → IsLegalHandset cell h
unfolding handset_ranges handset_conflicts
legal_handset cell earlier at there h e g =
    let checks = handset_checks cell earlier there h in
    let cs = h.coresets.items in
    let ss = h.sets.items in
    let rnti = range_from_to at keys.Rnti 1 65519 h.rnti (range_by_key handset_table keys.Rnti at h e) in
    let (coreset_count, coreset_ranges_none) = list_parts keys.Coresets 1 3 coreset_ranges at cs
    (range_by_key handset_table keys.Coresets at h e) in
    let (set_count, set_ranges_none) = list_parts keys.Sets 1 10 set_ranges at ss (range_by_key handset_table keys.Sets at h e) in
    let coreset_conflicts_none = check_by_key checks keys.Coresets g in
    let set_conflicts_none = check_by_key checks keys.Sets g in
    record {
      rnti_least = rnti.0;
      rnti_most = rnti.1;
      downlink = legal_bwp (at ▸ keys.Downlink) h.downlink (range_by_key handset_table keys.Downlink at h e);
      uplink = legal_bwp (at ▸ keys.Uplink) h.uplink (range_by_key handset_table keys.Uplink at h e);
      downlink_inside = ltb-false cell.blocks (end_of h.downlink)
          (conflict_none there keys.Downlink (nat_lt cell.blocks (end_of h.downlink)) (check_by_key checks keys.Downlink g));
      uplink_inside = ltb-false 275 (end_of h.uplink)
          (conflict_none there keys.Uplink (nat_lt 275 (end_of h.uplink)) (check_by_key checks keys.Uplink g));
      coresets_least = coreset_count.0;
      coresets_most = coreset_count.1;
      sets_least = set_count.0;
      sets_most = set_count.1;
      coresets = λ k l.
          let (ranges, passed) = each_at coreset_ranges (at ▸ keys.Coresets) cs coreset_ranges_none k no_coreset l in
          let (conflicts, apart) =
          first_in_at (coreset_conflicts h.downlink) (there ▸ keys.Coresets) [] cs coreset_conflicts_none k no_coreset l in
          legal_coreset h.downlink (take k cs) ranges conflicts (coreset_at h k) passed apart;
      sets = λ k l.
          let (ranges, passed) = each_at set_ranges (at ▸ keys.Sets) ss set_ranges_none k no_set l in
          let (conflicts, apart) = first_in_at (set_conflicts h) (there ▸ keys.Sets) [] ss set_conflicts_none k no_set l in
          legal_set h (take k ss) ranges conflicts (set_at h k) passed apart;
      coreset_numbers = one_place (λ (c : Coreset). c.number) nat_eq (λ n. (Decides-eqb n n).1 refl) cs no_coreset
          (λ k l.
          let (conflicts, apart) =
          first_in_at (coreset_conflicts h.downlink) (there ▸ keys.Coresets) [] cs coreset_conflicts_none k no_coreset l in
          coreset_is_new h.downlink (take k cs) conflicts (coreset_at h k) apart);
      set_numbers = one_place (λ (s : SearchSet). s.number) nat_eq (λ n. (Decides-eqb n n).1 refl) ss no_set
          (λ k l.
          let (conflicts, apart) = first_in_at (set_conflicts h) (there ▸ keys.Sets) [] ss set_conflicts_none k no_set l in
          set_is_new h (take k ss) conflicts (set_at h k) apart);
      uplink_fields = both_given (IsLegalUplink h.codebook) uplink_ranges (uplink_conflicts h.codebook) (at ▸ keys.UplinkFields)
          (there ▸ keys.UplinkFields) h.uplink_fields
          (λ f. legal_uplink h.codebook (at ▸ keys.UplinkFields) (there ▸ keys.UplinkFields) f)
          (range_by_key handset_table keys.UplinkFields at h e) (check_by_key checks keys.UplinkFields g);
      downlink_fields = both_given IsLegalDownlink downlink_ranges downlink_conflicts (at ▸ keys.DownlinkFields)
          (there ▸ keys.DownlinkFields) h.downlink_fields
          (λ f. legal_downlink (at ▸ keys.DownlinkFields) (there ▸ keys.DownlinkFields) f)
          (range_by_key handset_table keys.DownlinkFields at h e) (check_by_key checks keys.DownlinkFields g);
    }

-- a handset has a name and an identity that no earlier one has
handset_is_new : (cell : RawCell) (earlier : List Handset) (there : Steps) (h : Handset)
    → handset_conflicts cell earlier there h ≡ None
    → (list_any (λ (e : Handset). bytes_eq e.name h.name) earlier ≡ false)
    × (list_any (λ (e : Handset). nat_eq e.rnti h.rnti) earlier ≡ false)
unfolding handset_conflicts
handset_is_new cell earlier there h g =
    let checks = handset_checks cell earlier there h in (
      conflict_none there keys.Name (list_any (λ (e : Handset). bytes_eq e.name h.name) earlier)
          (check_by_key checks keys.Name g),
      conflict_none there keys.Rnti (list_any (λ (e : Handset). nat_eq e.rnti h.rnti) earlier) (check_by_key checks keys.Rnti g),
    )

-- the handsets of a cell, each judged with those before it
record Judged (cell : RawCell) (k : ℕ) : Type 0 where
  legal : IsLegalHandset cell (handset_at cell k)
  name : list_any (λ (e : Handset). bytes_eq e.name (handset_at cell k).name) (take k cell.handsets) ≡ false
  rnti : list_any (λ (e : Handset). nat_eq e.rnti (handset_at cell k).rnti) (take k cell.handsets) ≡ false

-- a number of a range of one is that one
only_one : (n : ℕ) → 1 ≤ n → n ≤ 1 → n ≡ 1
only_one n least most = omega (arith, least, most)

-- what a legal cell says
pub legal_cell : (cell : RawCell) → IsLegal cell → IsLegalCell cell
unfolding first_fault cell_ranges cell_conflicts
legal_cell cell legal =
    let (e, g) = two_none (cell_ranges cell) (cell_conflicts cell) legal in
    let xs = cell.handsets in
    let version = range_from_to [] keys.Version 1 1 cell.version (range_by_key cell_table keys.Version [] cell e) in
    let number = range_from_to [] keys.Cell 0 1007 cell.cell (range_by_key cell_table keys.Cell [] cell e) in
    let mu = range_from_to [] keys.Mu 0 3 cell.mu (range_by_key cell_table keys.Mu [] cell e) in
    let blocks = range_from_to [] keys.Blocks 6 275 cell.blocks (range_by_key cell_table keys.Blocks [] cell e) in
    let down = range_from_to [] keys.InitialDownlink 6 275 cell.initial_downlink
    (range_by_key cell_table keys.InitialDownlink [] cell e) in
    let up = range_from_to [] keys.InitialUplink 6 275 cell.initial_uplink
    (range_by_key cell_table keys.InitialUplink [] cell e) in
    let (count, ranges_none) = list_parts keys.Handsets 1 64 handset_ranges [] xs
    (range_by_key cell_table keys.Handsets [] cell e) in
    let judged : (k : ℕ) → k < length xs → Judged cell k = λ k l.
    let (ranges, passed) = each_at handset_ranges ([] ▸ keys.Handsets) xs ranges_none k no_handset l in
    let (conflicts, apart) = first_in_at (handset_conflicts cell) ([] ▸ keys.Handsets) [] xs g k no_handset l in
    let (name, rnti) = handset_is_new cell (take k xs) conflicts (handset_at cell k) apart in
    record {
      legal = legal_handset cell (take k xs) ranges conflicts (handset_at cell k) passed apart;
      name = name;
      rnti = rnti;
    } in
    record {
      version = only_one cell.version version.0 version.1;
      cell = number.1;
      mu_most = mu.1;
      blocks_least = blocks.0;
      blocks_most = blocks.1;
      initial_downlink_least = down.0;
      initial_downlink_most = down.1;
      initial_uplink_least = up.0;
      initial_uplink_most = up.1;
      coreset0 =
          range_if_given [] keys.Coreset0 (is_one_of (24 ∷ 48 ∷ 96 ∷ [])) cell.coreset0
          (range_by_key cell_table keys.Coreset0 [] cell e);
      handsets_least = count.0;
      handsets_most = count.1;
      handsets = λ k l. (judged k l).legal;
      names =
          one_place (λ (h : Handset). h.name) bytes_eq (λ n. (bytes_eq-Decides n n).1 refl) xs no_handset
          (λ k l. (judged k l).name);
      rntis = one_place (λ (h : Handset). h.rnti) nat_eq (λ n. (Decides-eqb n n).1 refl) xs no_handset (λ k l. (judged k l).rnti);
    }
