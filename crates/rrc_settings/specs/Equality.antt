-- `==` of the settings holds exactly of equal values.
use Rattle.std.specs.Prelude.{◌≡◌, Bool, List, [], ◌∷◌, Option, Some, None, Decides, refl}
use Rattle.std.specs.Option.{option_eq}
use Rattle.std.specs.Cmp.Lexicographic.{pointwise}
use Rattle.std.specs.Cmp.{IsPartialEquivalence, IsEquivalence, unsigned_Decides, booleans_Decides}
use Rattle.std.proofs.Common.{ap, sym, ◌∙◌, rules}
use Rattle.std.proofs.lemmas.Grind.{common_steps}
use Rattle.std.proofs.lemmas.Slice.Eq.{slice_eq-Decides, bytes_eq-Decides}
use Rattle.std.proofs.lemmas.Bool.Decides.{same_from_decides}
use Rattle.rrc_settings.specs.DecidedFields.{Field, field, decides_fields}
use Rattle.arrayvec.specs.ArrayVec.{ArrayVec}
use Rattle.rrc_settings.specs.declared.settings.SetKind.{SetKind}
use Rattle.rrc_settings.specs.declared.settings.Codebook.{Codebook}
use Rattle.rrc_settings.specs.declared.settings.Allocation.{Allocation}
use Rattle.rrc_settings.specs.declared.settings.Bwp.{Bwp}
use Rattle.rrc_settings.specs.declared.settings.Interleave.{Interleave}
use Rattle.rrc_settings.specs.declared.settings.Coreset.{Coreset}
use Rattle.rrc_settings.specs.declared.settings.SearchSet.{SearchSet}
use Rattle.rrc_settings.specs.declared.settings.UplinkFields.{UplinkFields}
use Rattle.rrc_settings.specs.declared.settings.DownlinkFields.{DownlinkFields}
use Rattle.rrc_settings.specs.declared.settings.Handset.{Handset}
use Rattle.rrc_settings.specs.declared.settings.RawCell.{RawCell}
use Rattle.rrc_settings.specs.contracts.settings.SetKindPartialEq.TheImpl as set_kind
use Rattle.rrc_settings.specs.contracts.settings.CodebookPartialEq.TheImpl as codebook
use Rattle.rrc_settings.specs.contracts.settings.AllocationPartialEq.TheImpl as allocation
use Rattle.rrc_settings.specs.contracts.settings.BwpPartialEq.TheImpl as bwp
use Rattle.rrc_settings.specs.contracts.settings.InterleavePartialEq.TheImpl as interleave
use Rattle.rrc_settings.specs.contracts.settings.CoresetPartialEq.TheImpl as coreset
use Rattle.rrc_settings.specs.contracts.settings.SearchSetPartialEq.TheImpl as search_set
use Rattle.rrc_settings.specs.contracts.settings.UplinkFieldsPartialEq.TheImpl as uplink_fields
use Rattle.rrc_settings.specs.contracts.settings.DownlinkFieldsPartialEq.TheImpl as downlink_fields
use Rattle.rrc_settings.specs.contracts.settings.HandsetPartialEq.TheImpl as handset
use Rattle.rrc_settings.specs.contracts.settings.RawCellPartialEq.TheImpl as raw_cell

-- lists, where `==` of their elements is exact
pub decides_list : {T : Type 0} {E : T → T → Bool} → ((a b : T) → Decides (E a b) (a ≡ b)) → (xs ys : List T)
    → Decides (pointwise E xs ys) (xs ≡ ys)
decides_list {E = E} decides xs ys = slice_eq-Decides decides xs ys (pointwise E xs ys) refl

-- lists of limited length
pub decides_array_vec : {T : Type 0} {E : T → T → Bool} → ((a b : T) → Decides (E a b) (a ≡ b)) → (v w : ArrayVec T)
    → Decides (pointwise E v.items w.items) (v ≡ w)
decides_array_vec decides v w = let e = decides_list decides v.items w.items in search (rules, common_steps)

-- values that may be absent
pub decides_option : {T : Type 0} {E : T → T → Bool} → ((a b : T) → Decides (E a b) (a ≡ b)) → (a b : Option T)
    → Decides (option_eq E a b) (a ≡ b)
decides_option decides None None = search (rules, common_steps)
decides_option decides None (Some b) = search (rules, common_steps)
decides_option decides (Some a) None = search (rules, common_steps)
decides_option decides (Some a) (Some b) = let e = decides a b in search (rules, common_steps)

-- kinds of set
pub decides_set_kind : (a b : SetKind) → Decides (set_kind.ghosts.eq a b) (a ≡ b)
decides_set_kind a b =
    search (rules, common_steps)

-- layouts of acknowledgements
pub decides_codebook : (a b : Codebook) → Decides (codebook.ghosts.eq a b) (a ≡ b)
decides_codebook a b =
    search (rules, common_steps)

-- ways to grant blocks
pub decides_allocation : (a b : Allocation) → Decides (allocation.ghosts.eq a b) (a ≡ b)
decides_allocation a b =
    search (rules, common_steps)

-- bandwidth parts
pub decides_bwp : (a b : Bwp) → Decides (bwp.ghosts.eq a b) (a ≡ b)
decides_bwp a b =
    search (rules, common_steps)

-- interleavers
pub decides_interleave : (a b : Interleave) → Decides (interleave.ghosts.eq a b) (a ≡ b)
decides_interleave a b =
    search (rules, common_steps)

-- CORESETs
pub decides_coreset : (a b : Coreset) → Decides (coreset.ghosts.eq a b) (a ≡ b)
decides_coreset a b =
    search (rules, common_steps)

-- search space sets
pub decides_search_set : (a b : SearchSet) → Decides (search_set.ghosts.eq a b) (a ≡ b)
decides_search_set a b =
    let k = decides_set_kind a.kind b.kind in
    let c = slice_eq-Decides unsigned_Decides a.candidates b.candidates _ refl in
    search (rules, common_steps)

-- the fields of what decides the fields of format 0_1
abbrev uplink_fields_list : List (Field UplinkFields)
uplink_fields_list
    = field unsigned_Decides (λ (x : UplinkFields). x.bwps)
    ∷ field decides_allocation (λ (x : UplinkFields). x.allocation)
    ∷ field unsigned_Decides (λ (x : UplinkFields). x.rbg_config)
    ∷ field unsigned_Decides (λ (x : UplinkFields). x.tdra)
    ∷ field booleans_Decides (λ (x : UplinkFields). x.hopping)
    ∷ field booleans_Decides (λ (x : UplinkFields). x.second_dai)
    ∷ field booleans_Decides (λ (x : UplinkFields). x.transform)
    ∷ field unsigned_Decides (λ (x : UplinkFields). x.dmrs_type)
    ∷ field unsigned_Decides (λ (x : UplinkFields). x.dmrs_length)
    ∷ field unsigned_Decides (λ (x : UplinkFields). x.srs_resources)
    ∷ field unsigned_Decides (λ (x : UplinkFields). x.csi_request)
    ∷ field unsigned_Decides (λ (x : UplinkFields). x.cbg)
    ∷ field booleans_Decides (λ (x : UplinkFields). x.ptrs)
    ∷ field booleans_Decides (λ (x : UplinkFields). x.beta)
    ∷ []

-- what decides the fields of format 0_1
pub decides_uplink_fields : (a b : UplinkFields) → Decides (uplink_fields.ghosts.eq a b) (a ≡ b)
decides_uplink_fields = decides_fields uplink_fields_list (λ bwps allocation rbg_config tdra hopping second_dai transform
    dmrs_type dmrs_length srs_resources csi_request cbg ptrs beta. record {
      bwps = bwps;
      allocation = allocation;
      rbg_config = rbg_config;
      tdra = tdra;
      hopping = hopping;
      second_dai = second_dai;
      transform = transform;
      dmrs_type = dmrs_type;
      dmrs_length = dmrs_length;
      srs_resources = srs_resources;
      csi_request = csi_request;
      cbg = cbg;
      ptrs = ptrs;
      beta = beta;
    }) (λ x. refl)

-- the fields of what decides the fields of format 1_1
abbrev downlink_fields_list : List (Field DownlinkFields)
downlink_fields_list
    = field unsigned_Decides (λ (x : DownlinkFields). x.bwps)
    ∷ field decides_allocation (λ (x : DownlinkFields). x.allocation)
    ∷ field unsigned_Decides (λ (x : DownlinkFields). x.rbg_config)
    ∷ field unsigned_Decides (λ (x : DownlinkFields). x.tdra)
    ∷ field booleans_Decides (λ (x : DownlinkFields). x.interleaved)
    ∷ field booleans_Decides (λ (x : DownlinkFields). x.bundling)
    ∷ field unsigned_Decides (λ (x : DownlinkFields). x.rate_match)
    ∷ field unsigned_Decides (λ (x : DownlinkFields). x.zp_sets)
    ∷ field unsigned_Decides (λ (x : DownlinkFields). x.codewords)
    ∷ field unsigned_Decides (λ (x : DownlinkFields). x.timing)
    ∷ field unsigned_Decides (λ (x : DownlinkFields). x.dmrs_type)
    ∷ field unsigned_Decides (λ (x : DownlinkFields). x.dmrs_length)
    ∷ field booleans_Decides (λ (x : DownlinkFields). x.tci)
    ∷ field unsigned_Decides (λ (x : DownlinkFields). x.cbg)
    ∷ field booleans_Decides (λ (x : DownlinkFields). x.flush)
    ∷ []

-- what decides the fields of format 1_1
pub decides_downlink_fields : (a b : DownlinkFields) → Decides (downlink_fields.ghosts.eq a b) (a ≡ b)
decides_downlink_fields = decides_fields downlink_fields_list (λ bwps allocation rbg_config tdra interleaved bundling
    rate_match zp_sets codewords timing dmrs_type dmrs_length tci cbg flush. record {
      bwps = bwps;
      allocation = allocation;
      rbg_config = rbg_config;
      tdra = tdra;
      interleaved = interleaved;
      bundling = bundling;
      rate_match = rate_match;
      zp_sets = zp_sets;
      codewords = codewords;
      timing = timing;
      dmrs_type = dmrs_type;
      dmrs_length = dmrs_length;
      tci = tci;
      cbg = cbg;
      flush = flush;
    }) (λ x. refl)

-- the fields of a handset
abbrev handset_list : List (Field Handset)
handset_list
    = field bytes_eq-Decides (λ (x : Handset). x.name)
    ∷ field unsigned_Decides (λ (x : Handset). x.rnti)
    ∷ field decides_bwp (λ (x : Handset). x.downlink)
    ∷ field decides_bwp (λ (x : Handset). x.uplink)
    ∷ field decides_codebook (λ (x : Handset). x.codebook)
    ∷ field (decides_array_vec decides_coreset) (λ (x : Handset). x.coresets)
    ∷ field (decides_array_vec decides_search_set) (λ (x : Handset). x.sets)
    ∷ field (decides_option decides_uplink_fields) (λ (x : Handset). x.uplink_fields)
    ∷ field (decides_option decides_downlink_fields) (λ (x : Handset). x.downlink_fields)
    ∷ []

-- a handset
pub decides_handset : (a b : Handset) → Decides (handset.ghosts.eq a b) (a ≡ b)
decides_handset = decides_fields handset_list (λ name rnti downlink uplink codebook coresets sets uplink_fields
    downlink_fields. record {
      name = name;
      rnti = rnti;
      downlink = downlink;
      uplink = uplink;
      codebook = codebook;
      coresets = coresets;
      sets = sets;
      uplink_fields = uplink_fields;
      downlink_fields = downlink_fields;
    }) (λ x. refl)

-- the fields of the settings of a cell
abbrev raw_cell_list : List (Field RawCell)
raw_cell_list
    = field unsigned_Decides (λ (x : RawCell). x.version)
    ∷ field unsigned_Decides (λ (x : RawCell). x.cell)
    ∷ field unsigned_Decides (λ (x : RawCell). x.mu)
    ∷ field unsigned_Decides (λ (x : RawCell). x.blocks)
    ∷ field unsigned_Decides (λ (x : RawCell). x.initial_downlink)
    ∷ field unsigned_Decides (λ (x : RawCell). x.initial_uplink)
    ∷ field (decides_option unsigned_Decides) (λ (x : RawCell). x.coreset0)
    ∷ field (decides_list decides_handset) (λ (x : RawCell). x.handsets)
    ∷ []

-- the settings of a cell
pub decides_raw_cell : (a b : RawCell) → Decides (raw_cell.ghosts.eq a b) (a ≡ b)
decides_raw_cell =
    decides_fields raw_cell_list (λ version cell mu blocks initial_downlink initial_uplink coreset0 handsets. record {
      version = version;
      cell = cell;
      mu = mu;
      blocks = blocks;
      initial_downlink = initial_downlink;
      initial_uplink = initial_uplink;
      coreset0 = coreset0;
      handsets = handsets;
    }) (λ x. refl)

-- a test of being equal holds both ways round, and along a chain
pub partial_equivalence_from_decides : {T : Type 0} {E : T → T → Bool} → ((a b : T) → Decides (E a b) (a ≡ b))
    → IsPartialEquivalence E
partial_equivalence_from_decides decides = record {
  symm = λ x y. same_from_decides _ _ (decides x y) ((λ e. sym ((decides y x).0 e), λ e. (decides y x).1 (sym e)));
  trans = λ x y z h k. (decides x z).1 ((decides x y).0 h ∙ (decides y z).0 k);
}

-- and of each value with itself
pub equivalence_from_decides : {T : Type 0} {E : T → T → Bool} → ((a b : T) → Decides (E a b) (a ≡ b)) → IsEquivalence E
equivalence_from_decides {E = E} decides = record {
  refl = λ x. (decides x x).1 refl;
  symm = λ x y. same_from_decides _ _ (decides x y) ((λ e. sym ((decides y x).0 e), λ e. (decides y x).1 (sym e)));
  congr = λ x y z h. ap (λ w. E w z) ((decides x y).0 h);
}
