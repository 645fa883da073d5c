-- The keys of each object of the settings, in order, each with its kind and the range of its numbers (3GPP TS 38.331, 6.3.2).
use Rattle.std.specs.Prelude.{ℕ, Bool, List, [], ◌∷◌, length, map, Option, Some, None, nat_eq, true, false, ◌&&◌}
use Rattle.std.specs.List.{list_all}
use Rattle.rrc_settings.specs.declared.words.Key.{Key}
use Rattle.rrc_settings.specs.declared.words.Key.TheVariants as keys
use Rattle.rrc_settings.specs.declared.place.Reason.TheVariants.{OutOfRange}
use Rattle.rrc_settings.specs.declared.settings.Bwp.{Bwp}
use Rattle.rrc_settings.specs.declared.settings.Interleave.{Interleave}
use Rattle.rrc_settings.specs.declared.settings.Coreset.{Coreset}
use Rattle.rrc_settings.specs.declared.settings.SearchSet.{SearchSet}
use Rattle.rrc_settings.specs.declared.settings.UplinkFields.{UplinkFields}
use Rattle.rrc_settings.specs.declared.settings.DownlinkFields.{DownlinkFields}
use Rattle.rrc_settings.specs.declared.settings.Handset.{Handset}
use Rattle.rrc_settings.specs.declared.settings.RawCell.{RawCell}
use Rattle.rrc_settings.specs.Name.{is_name}
use Rattle.rrc_settings.specs.Faults.{Steps, Finding, ◌▸◌, fault_at, unless, first_of, each, if_given}
use Rattle.rrc_settings.specs.Numbers.{is_from_to, is_one_of}
use Rattle.rrc_settings.specs.NamedValues.{is_named, set_kind_words, codebook_words, allocation_words}

-- the kinds of a value: a whole number, a text of a form, true or false, so many numbers, an object, a list of
-- objects of a least and a most length
pub data Kind : Type 0 where
  whole : Kind
  text : (List ℕ → Bool) → Kind
  truth : Kind
  numbers : ℕ → Kind
  object : Kind
  objects : ℕ → ℕ → Kind

-- one key of an object: whether it must be there, its kind, and the first number at it that is out of its range
pub record Row (T : Type 0) : Type 0 where
  pub key : Key
  pub must_be : Bool
  pub kind : Kind
  pub range : Steps → T → Finding

-- no number to be out of range
abbrev pub no_range : {T : Type 0} → Steps → T → Finding
no_range at x = None

-- a number in its range
unfoldable pub in_range : Steps → Key → (ℕ → Bool) → ℕ → Finding
in_range at key range n = unless (fault_at (at ▸ key) OutOfRange) (range n)

-- a number in its range, where there is one
abbrev pub in_range_if_given : Steps → Key → (ℕ → Bool) → Option ℕ → Finding
in_range_if_given at key range None = None
in_range_if_given at key range (Some n) = in_range at key range n

-- a list's length, and then its elements
abbrev pub list_ranges : {T : Type 0} → Key → ℕ → ℕ → (Steps → T → Finding) → Steps → List T → Finding
list_ranges key low high judge at xs =
    first_of (in_range at key (is_from_to low high) (length xs) ∷ each judge (at ▸ key) xs ∷ [])

-- a key with a number
abbrev pub number : {T : Type 0} → Key → (ℕ → Bool) → (T → ℕ) → Row T
number key range field =
    record { key = key; must_be = true; kind = whole; range = λ at x. in_range at key range (field x) }

-- a key that may be absent, with a number where it is there
abbrev pub optional_number : {T : Type 0} → Key → (ℕ → Bool) → (T → Option ℕ) → Row T
optional_number key range field =
    record { key = key; must_be = false; kind = whole; range = λ at x. in_range_if_given at key range (field x) }

-- a key that may be absent, with a number that stands for a default where it is absent
abbrev pub number_or_default : {T : Type 0} → Key → (ℕ → Bool) → (T → ℕ) → Row T
number_or_default key range field =
    record { key = key; must_be = false; kind = whole; range = λ at x. in_range at key range (field x) }

-- a key with a text of a form
abbrev pub text_of_form : {T : Type 0} → Key → (List ℕ → Bool) → Row T
text_of_form key form = record { key = key; must_be = true; kind = text form; range = no_range }

-- a key with true or false
abbrev pub true_or_false : {T : Type 0} → Key → Row T
true_or_false key = record { key = key; must_be = true; kind = truth; range = no_range }

-- a key with a list of so many numbers, each in the range
abbrev pub number_list : {T : Type 0} → Key → ℕ → (ℕ → Bool) → (T → List ℕ) → Row T
number_list key count range field = record {
  key = key;
  must_be = true;
  kind = numbers count;
  range = λ at x. unless (fault_at (at ▸ key) OutOfRange) (list_all range (field x));
}

-- a key with an object
abbrev pub inner : {T U : Type 0} → Key → (Steps → U → Finding) → (T → U) → Row T
inner key judge field =
    record { key = key; must_be = true; kind = object; range = λ at x. judge (at ▸ key) (field x) }

-- a key that may be absent, with an object where it is there
abbrev pub optional_inner : {T U : Type 0} → Key → (Steps → U → Finding) → (T → Option U) → Row T
optional_inner key judge field =
    record { key = key; must_be = false; kind = object; range = λ at x. if_given judge (at ▸ key) (field x) }

-- a key with a list of objects, of a least and a most length
abbrev pub inner_list : {T U : Type 0} → Key → ℕ → ℕ → (Steps → U → Finding) → (T → List U) → Row T
inner_list key low high judge field = record {
  key = key;
  must_be = true;
  kind = objects low high;
  range = λ at x. list_ranges key low high judge at (field x);
}

-- the first number of an object that is out of its range
abbrev pub ranges_by : {T : Type 0} → List (Row T) → Steps → T → Finding
ranges_by rows at x = first_of (map (λ r. r.range at x) rows)

-- a text of so many characters `0` or `1`
abbrev pub is_bits : ℕ → List ℕ → Bool
is_bits count word = nat_eq (length word) count && list_all (is_from_to 48 49) word

-- the ways to grant blocks
abbrev pub is_allocation : List ℕ → Bool
is_allocation = is_named allocation_words

-- how many code block groups there may be
abbrev pub is_group_limit : ℕ → Bool
is_group_limit = is_one_of (0 ∷ 2 ∷ 4 ∷ 6 ∷ 8 ∷ [])

-- how many slots a period may have
abbrev pub is_period : ℕ → Bool
is_period = is_one_of (1 ∷ 2 ∷ 4 ∷ 5 ∷ 8 ∷ 10 ∷ 16 ∷ 20 ∷ 40 ∷ 80 ∷ 160 ∷ 320 ∷ 640 ∷ 1280 ∷ 2560 ∷ [])

-- how many candidates there may be at a level
abbrev pub is_candidate_count : ℕ → Bool
is_candidate_count = is_one_of (0 ∷ 1 ∷ 2 ∷ 3 ∷ 4 ∷ 5 ∷ 6 ∷ 8 ∷ [])

-- the keys of a bandwidth part
abbrev pub bwp_table : List (Row Bwp)
bwp_table
    = number keys.Start (is_from_to 0 269) (λ (b : Bwp). b.start)
    ∷ number keys.Size (is_from_to 6 275) (λ (b : Bwp). b.size)
    ∷ []

-- the first number of a bandwidth part that is out of its range
unfoldable pub bwp_ranges : Steps → Bwp → Finding
bwp_ranges = ranges_by bwp_table

-- the keys of an interleaver
abbrev pub interleave_table : List (Row Interleave)
interleave_table
    = number keys.Bundle (is_one_of (2 ∷ 3 ∷ 6 ∷ [])) (λ (i : Interleave). i.bundle)
    ∷ number keys.Rows (is_one_of (2 ∷ 3 ∷ 6 ∷ [])) (λ (i : Interleave). i.rows)
    ∷ optional_number keys.Shift (is_from_to 0 274) (λ (i : Interleave). i.shift)
    ∷ []

-- the first number of an interleaver that is out of its range
unfoldable pub interleave_ranges : Steps → Interleave → Finding
interleave_ranges = ranges_by interleave_table

-- the keys of a CORESET
abbrev pub coreset_table : List (Row Coreset)
coreset_table
    = number keys.Number (is_from_to 1 11) (λ (c : Coreset). c.number)
    ∷ text_of_form keys.Groups (is_bits 45)
    ∷ number keys.Duration (is_from_to 1 3) (λ (c : Coreset). c.duration)
    ∷ optional_inner keys.Interleave interleave_ranges (λ (c : Coreset). c.interleave)
    ∷ optional_number keys.DmrsId (is_from_to 0 65535) (λ (c : Coreset). c.dmrs_id)
    ∷ []

-- the first number of a CORESET that is out of its range
unfoldable pub coreset_ranges : Steps → Coreset → Finding
coreset_ranges = ranges_by coreset_table

-- the keys of a search space set
abbrev pub set_table : List (Row SearchSet)
set_table
    = number keys.Number (is_from_to 1 39) (λ (s : SearchSet). s.number)
    ∷ number keys.Coreset (is_from_to 1 11) (λ (s : SearchSet). s.coreset)
    ∷ text_of_form keys.Kind (is_named set_kind_words)
    ∷ number keys.Period is_period (λ (s : SearchSet). s.period)
    ∷ number keys.Offset (is_from_to 0 2559) (λ (s : SearchSet). s.offset)
    ∷ number_or_default keys.Duration (is_from_to 1 2559) (λ (s : SearchSet). s.duration)
    ∷ text_of_form keys.Symbols (is_bits 14)
    ∷ number_list keys.Candidates 5 is_candidate_count (λ (s : SearchSet). s.candidates)
    ∷ number_or_default keys.Base (is_from_to 0 65535) (λ (s : SearchSet). s.base)
    ∷ []

-- the first number of a search space set that is out of its range
unfoldable pub set_ranges : Steps → SearchSet → Finding
set_ranges = ranges_by set_table

-- the keys of what decides the fields of format 0_1
abbrev pub uplink_table : List (Row UplinkFields)
uplink_table
    = number keys.Bwps (is_from_to 0 4) (λ (f : UplinkFields). f.bwps)
    ∷ text_of_form keys.Allocation is_allocation
    ∷ number keys.RbgConfig (is_from_to 1 2) (λ (f : UplinkFields). f.rbg_config)
    ∷ number keys.Tdra (is_from_to 0 4) (λ (f : UplinkFields). f.tdra)
    ∷ true_or_false keys.Hopping
    ∷ true_or_false keys.SecondDai
    ∷ true_or_false keys.Transform
    ∷ number keys.DmrsType (is_from_to 1 2) (λ (f : UplinkFields). f.dmrs_type)
    ∷ number keys.DmrsLength (is_from_to 1 2) (λ (f : UplinkFields). f.dmrs_length)
    ∷ number keys.SrsResources (is_from_to 1 2) (λ (f : UplinkFields). f.srs_resources)
    ∷ number keys.CsiRequest (is_from_to 0 6) (λ (f : UplinkFields). f.csi_request)
    ∷ number keys.Cbg is_group_limit (λ (f : UplinkFields). f.cbg)
    ∷ true_or_false keys.Ptrs
    ∷ true_or_false keys.Beta
    ∷ []

-- the first number of what decides the fields of format 0_1 that is out of its range
unfoldable pub uplink_ranges : Steps → UplinkFields → Finding
uplink_ranges = ranges_by uplink_table

-- the keys of what decides the fields of format 1_1
abbrev pub downlink_table : List (Row DownlinkFields)
downlink_table
    = number keys.Bwps (is_from_to 0 4) (λ (f : DownlinkFields). f.bwps)
    ∷ text_of_form keys.Allocation is_allocation
    ∷ number keys.RbgConfig (is_from_to 1 2) (λ (f : DownlinkFields). f.rbg_config)
    ∷ number keys.Tdra (is_from_to 0 4) (λ (f : DownlinkFields). f.tdra)
    ∷ true_or_false keys.Interleaved
    ∷ true_or_false keys.Bundling
    ∷ number keys.RateMatch (is_from_to 0 2) (λ (f : DownlinkFields). f.rate_match)
    ∷ number keys.ZpSets (is_from_to 0 3) (λ (f : DownlinkFields). f.zp_sets)
    ∷ number keys.Codewords (is_from_to 1 2) (λ (f : DownlinkFields). f.codewords)
    ∷ number keys.Timing (is_from_to 0 3) (λ (f : DownlinkFields). f.timing)
    ∷ number keys.DmrsType (is_from_to 1 2) (λ (f : DownlinkFields). f.dmrs_type)
    ∷ number keys.DmrsLength (is_from_to 1 2) (λ (f : DownlinkFields). f.dmrs_length)
    ∷ true_or_false keys.Tci
    ∷ number keys.Cbg is_group_limit (λ (f : DownlinkFields). f.cbg)
    ∷ true_or_false keys.Flush
    ∷ []

-- the first number of what decides the fields of format 1_1 that is out of its range
unfoldable pub downlink_ranges : Steps → DownlinkFields → Finding
downlink_ranges = ranges_by downlink_table

-- the keys of a handset
abbrev pub handset_table : List (Row Handset)
handset_table
    = text_of_form keys.Name is_name
    ∷ number keys.Rnti (is_from_to 1 65519) (λ (h : Handset). h.rnti)
    ∷ inner keys.Downlink bwp_ranges (λ (h : Handset). h.downlink)
    ∷ inner keys.Uplink bwp_ranges (λ (h : Handset). h.uplink)
    ∷ text_of_form keys.Codebook (is_named codebook_words)
    ∷ inner_list keys.Coresets 1 3 coreset_ranges (λ (h : Handset). h.coresets.items)
    ∷ inner_list keys.Sets 1 10 set_ranges (λ (h : Handset). h.sets.items)
    ∷ optional_inner keys.UplinkFields uplink_ranges (λ (h : Handset). h.uplink_fields)
    ∷ optional_inner keys.DownlinkFields downlink_ranges (λ (h : Handset). h.downlink_fields)
    ∷ []

-- the first number of a handset that is out of its range
unfoldable pub handset_ranges : Steps → Handset → Finding
handset_ranges = ranges_by handset_table

-- the keys of the whole
abbrev pub cell_table : List (Row RawCell)
cell_table
    = number keys.Version (is_from_to 1 1) (λ (c : RawCell). c.version)
    ∷ number keys.Cell (is_from_to 0 1007) (λ (c : RawCell). c.cell)
    ∷ number keys.Mu (is_from_to 0 3) (λ (c : RawCell). c.mu)
    ∷ number keys.Blocks (is_from_to 6 275) (λ (c : RawCell). c.blocks)
    ∷ number keys.InitialDownlink (is_from_to 6 275) (λ (c : RawCell). c.initial_downlink)
    ∷ number keys.InitialUplink (is_from_to 6 275) (λ (c : RawCell). c.initial_uplink)
    ∷ optional_number keys.Coreset0 (is_one_of (24 ∷ 48 ∷ 96 ∷ [])) (λ (c : RawCell). c.coreset0)
    ∷ inner_list keys.Handsets 1 64 handset_ranges (λ (c : RawCell). c.handsets)
    ∷ []

-- the first number of a cell that is out of its range
unfoldable pub cell_ranges : RawCell → Finding
cell_ranges = ranges_by cell_table []
