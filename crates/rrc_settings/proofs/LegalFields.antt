-- What the checks of a bandwidth part and of what decides the fields of formats 0_1 and 1_1 say.
use Rattle.std.proofs.Common.{◌≡◌, ℕ, ◌<◌, ◌≤◌, true, false, ◌&&◌, List, [], ◌∷◌, None, inl, inr, nat_eq, nat_le, refl, arith}
use Rattle.std.specs.List.{list_all}
use Rattle.std.proofs.lemmas.Bool.{and_parts, or_cases, eqb-true, eqb-false, leb-true}
use Rattle.rrc_settings.specs.Faults.{Steps}
use Rattle.rrc_settings.specs.Table.{is_group_limit, bwp_table, bwp_ranges, uplink_table, uplink_ranges}
use Rattle.rrc_settings.specs.Numbers.{is_one_of}
use Rattle.rrc_settings.specs.Table.{downlink_table, downlink_ranges}
use Rattle.rrc_settings.specs.Conflicts.{is_semi_static, uplink_checks, uplink_conflicts, downlink_checks, downlink_conflicts}
use Rattle.rrc_settings.specs.LegalCell.{IsLegalBwp, IsLegalUplink, IsLegalDownlink}
use Rattle.rrc_settings.specs.declared.words.Key.TheVariants as keys
use Rattle.rrc_settings.specs.declared.settings.Bwp.{Bwp}
use Rattle.rrc_settings.specs.declared.settings.Codebook.{Codebook}
use Rattle.rrc_settings.specs.declared.settings.UplinkFields.{UplinkFields}
use Rattle.rrc_settings.specs.declared.settings.DownlinkFields.{DownlinkFields}
use Rattle.rrc_settings.proofs.ByKey.{range_by_key, check_by_key, range_passes, range_from_to, conflict_none}

-- one of some numbers, none of which is above a limit
pub one_of_most : (limit n : ℕ) (choices : List ℕ) → list_all (λ choice. nat_le choice limit) choices ≡ true
    → is_one_of choices n ≡ true → n ≤ limit
one_of_most limit n [] few is = cc
one_of_most limit n (choice ∷ choices) few is =
    let (here, later) = and_parts (nat_le choice limit) (list_all (λ c. nat_le c limit) choices) few in
    elim (or_cases (nat_eq n choice) (is_one_of choices n) is) [
      | inl same ↦ omega (arith, eqb-true n choice same, leb-true choice limit here)
      | inr other ↦ one_of_most limit n choices later other
    ]

-- a bandwidth part
pub legal_bwp : (at : Steps) (b : Bwp) → bwp_ranges at b ≡ None → IsLegalBwp b
unfolding bwp_ranges
legal_bwp at b e =
    let size = range_from_to at keys.Size 6 275 b.size (range_by_key bwp_table keys.Size at b e) in
    record {
      start_most = (range_from_to at keys.Start 0 269 b.start (range_by_key bwp_table keys.Start at b e)).1;
      size_least = size.0;
      size_most = size.1;
    }

-- a number of a range that is not the second of two is the first
first_of_two : (n : ℕ) → 1 ≤ n → n ≤ 2 → nat_eq n 2 ≡ false → n ≡ 1
first_of_two n least most other = let h = eqb-false n 2 other in omega (arith, least, most, h)

-- what decides the fields of format 0_1
pub legal_uplink : (codebook : Codebook) (at there : Steps) (f : UplinkFields) → uplink_ranges at f ≡ None
    → uplink_conflicts codebook there f ≡ None → IsLegalUplink codebook f
unfolding uplink_ranges uplink_conflicts
legal_uplink codebook at there f e g =
    let rbg = range_from_to at keys.RbgConfig 1 2 f.rbg_config (range_by_key uplink_table keys.RbgConfig at f e) in
    let type = range_from_to at keys.DmrsType 1 2 f.dmrs_type (range_by_key uplink_table keys.DmrsType at f e) in
    let symbols = range_from_to at keys.DmrsLength 1 2 f.dmrs_length (range_by_key uplink_table keys.DmrsLength at f e) in
    let srs = range_from_to at keys.SrsResources 1 2 f.srs_resources (range_by_key uplink_table keys.SrsResources at f e) in
    let cbg = range_passes at keys.Cbg is_group_limit f.cbg (range_by_key uplink_table keys.Cbg at f e) in
    let checks = uplink_checks codebook there f in
    let dai = conflict_none there keys.SecondDai (f.second_dai && is_semi_static codebook)
    (check_by_key checks keys.SecondDai g) in
    let mixed = conflict_none there keys.DmrsType (f.transform && nat_eq f.dmrs_type 2) (check_by_key checks keys.DmrsType g) in
    record {
      bwps = (range_from_to at keys.Bwps 0 4 f.bwps (range_by_key uplink_table keys.Bwps at f e)).1;
      rbg_config_least = rbg.0;
      rbg_config_most = rbg.1;
      tdra = (range_from_to at keys.Tdra 0 4 f.tdra (range_by_key uplink_table keys.Tdra at f e)).1;
      dmrs_type_least = type.0;
      dmrs_type_most = type.1;
      dmrs_length_least = symbols.0;
      dmrs_length_most = symbols.1;
      srs_resources_least = srs.0;
      srs_resources_most = srs.1;
      csi_request = (range_from_to at keys.CsiRequest 0 6 f.csi_request (range_by_key uplink_table keys.CsiRequest at f e)).1;
      cbg = cbg;
      cbg_most = one_of_most 8 f.cbg (0 ∷ 2 ∷ 4 ∷ 6 ∷ 8 ∷ []) refl cbg;
      second_dai = λ on. rw on at dai;
      transform = λ on. first_of_two f.dmrs_type type.0 type.1 (rw on at mixed);
    }

-- a number that is not 0 is above it
pub above_zero : (n : ℕ) → nat_eq n 0 ≡ false → 0 < n
above_zero n other = let h = eqb-false n 0 other in omega (arith, h)

-- what decides the fields of format 1_1
pub legal_downlink : (at there : Steps) (f : DownlinkFields) → downlink_ranges at f ≡ None
    → downlink_conflicts there f ≡ None → IsLegalDownlink f
unfolding downlink_ranges downlink_conflicts
legal_downlink at there f e g =
    let rbg = range_from_to at keys.RbgConfig 1 2 f.rbg_config (range_by_key downlink_table keys.RbgConfig at f e) in
    let codewords = range_from_to at keys.Codewords 1 2 f.codewords (range_by_key downlink_table keys.Codewords at f e) in
    let type = range_from_to at keys.DmrsType 1 2 f.dmrs_type (range_by_key downlink_table keys.DmrsType at f e) in
    let symbols = range_from_to at keys.DmrsLength 1 2 f.dmrs_length (range_by_key downlink_table keys.DmrsLength at f e) in
    let cbg = range_passes at keys.Cbg is_group_limit f.cbg (range_by_key downlink_table keys.Cbg at f e) in
    let flush = conflict_none there keys.Flush (f.flush && nat_eq f.cbg 0)
    (check_by_key (downlink_checks there f) keys.Flush g) in
    record {
      bwps = (range_from_to at keys.Bwps 0 4 f.bwps (range_by_key downlink_table keys.Bwps at f e)).1;
      rbg_config_least = rbg.0;
      rbg_config_most = rbg.1;
      tdra = (range_from_to at keys.Tdra 0 4 f.tdra (range_by_key downlink_table keys.Tdra at f e)).1;
      rate_match = (range_from_to at keys.RateMatch 0 2 f.rate_match (range_by_key downlink_table keys.RateMatch at f e)).1;
      zp_sets = (range_from_to at keys.ZpSets 0 3 f.zp_sets (range_by_key downlink_table keys.ZpSets at f e)).1;
      codewords_least = codewords.0;
      codewords_most = codewords.1;
      timing = (range_from_to at keys.Timing 0 3 f.timing (range_by_key downlink_table keys.Timing at f e)).1;
      dmrs_type_least = type.0;
      dmrs_type_most = type.1;
      dmrs_length_least = symbols.0;
      dmrs_length_most = symbols.1;
      cbg = cbg;
      cbg_most = one_of_most 8 f.cbg (0 ∷ 2 ∷ 4 ∷ 6 ∷ 8 ∷ []) refl cbg;
      flush = λ on. above_zero f.cbg (rw on at flush);
    }
