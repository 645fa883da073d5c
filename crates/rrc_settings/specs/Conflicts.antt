-- What the settings of a handset may not say together (3GPP TS 38.211, 7.3.2.2; TS 38.213, 10.1; TS 38.331, 6.3.2).
use Rattle.std.specs.Prelude.{ℕ, ◌+◌, ◌*◌, ◌%◌, Bool, true, false, not, ◌&&◌, ◌||◌, List, [], ◌∷◌, length, map}
use Rattle.std.specs.Prelude.{Option, is_none, option_map, unwrap_or, nat_eq, nat_lt, nat_le, bytes_eq, slice_index}
use Rattle.std.specs.List.{list_any, range_with_len}
use Rattle.rrc_settings.specs.declared.words.Key.{Key}
use Rattle.rrc_settings.specs.declared.words.Key.TheVariants as keys
use Rattle.rrc_settings.specs.declared.place.Reason.TheVariants as reasons
use Rattle.rrc_settings.specs.declared.settings.Bwp.{Bwp}
use Rattle.rrc_settings.specs.declared.settings.Interleave.{Interleave}
use Rattle.rrc_settings.specs.declared.settings.Coreset.{Coreset}
use Rattle.rrc_settings.specs.declared.settings.SearchSet.{SearchSet}
use Rattle.rrc_settings.specs.declared.settings.Codebook.{Codebook}
use Rattle.rrc_settings.specs.declared.settings.Codebook.TheVariants as codebooks
use Rattle.rrc_settings.specs.declared.settings.UplinkFields.{UplinkFields}
use Rattle.rrc_settings.specs.declared.settings.DownlinkFields.{DownlinkFields}
use Rattle.rrc_settings.specs.declared.settings.Handset.{Handset}
use Rattle.rrc_settings.specs.declared.settings.RawCell.{RawCell}
use Rattle.rrc_settings.specs.Faults.{Steps, Finding, ◌▸◌, fault_at, unless, first_of, each_after, if_given}
use Rattle.rrc_settings.specs.AggregationLevels.{level_at}
use Rattle.rrc_settings.specs.BitSets.{has_bit}
use Rattle.rrc_settings.specs.BandwidthParts.{end_of}
use Rattle.rrc_settings.specs.SetKinds.{is_common, is_specific}
use Rattle.rrc_settings.specs.ControlGroups.{groups_of, group_block, cces_of}
use Rattle.rrc_settings.specs.HandsetsOfCell.{coreset_numbered}

-- one key of an object and what is found there
pub record Check : Type 0 where
  pub key : Key
  pub finding : Finding

-- the first fault of an object's checks, in order
abbrev pub first_found : List Check → Finding
first_found checks = first_of (map (λ (c : Check). c.finding) checks)

-- a conflict at a key where the test holds
unfoldable pub conflict : Steps → Key → Bool → Finding
conflict at key test = unless (fault_at (at ▸ key) reasons.Conflict) (not test)

-- the check that a test does not hold at a key
abbrev pub no_conflict : Steps → Key → Bool → Check
no_conflict at key test = record { key = key; finding = conflict at key test }

-- what is found at a key in the value that stands there, where there is one
abbrev pub inside_if_given : {T : Type 0} → (Steps → T → Finding) → Steps → Key → Option T → Check
inside_if_given judge at key x = record { key = key; finding = if_given judge (at ▸ key) x }

-- what is found at a key in the list that stands there, each element judged with those before it
abbrev pub inside_each : {T : Type 0} → (List T → Steps → T → Finding) → Steps → Key → List T → Check
inside_each judge at key xs = record { key = key; finding = each_after judge (at ▸ key) xs }

-- whether a group reaches outside the bandwidth part
unfoldable pub reaches_outside : Bwp → ℕ → Bool
reaches_outside bwp groups = list_any (λ g. nat_lt (end_of bwp) (group_block bwp.start g + 6)) (groups_of groups)

-- whether a CORESET of this duration that begins at one of the symbols ends after the slot
unfoldable pub ends_after_slot : ℕ → ℕ → Bool
ends_after_slot duration symbols =
    list_any (λ y. has_bit symbols y && nat_lt 14 (y + duration)) (range_with_len 0 16)

-- whether there are candidates at a level above so many CCEs
unfoldable pub asks_above : ℕ → List ℕ → Bool
asks_above cces candidates =
    list_any (λ i. nat_lt 0 (slice_index candidates i) && nat_lt cces (level_at i)) (range_with_len 0 5)

-- whether a bundle does not go with a duration: three REGs go with three symbols alone, and two do not
abbrev pub bundle_differs : ℕ → ℕ → Bool
bundle_differs bundle duration = nat_eq bundle 3 && nat_lt duration 3 || nat_eq bundle 2 && nat_eq duration 3

-- whether the REGs do not fill the interleaver's rows
abbrev pub rows_differ : Coreset → Interleave → Bool
rows_differ c i = not (nat_eq (6 * cces_of c % (i.bundle * i.rows)) 0)

-- whether a test holds of a value, where there is one
abbrev pub holds_if_given : {T : Type 0} → (T → Bool) → Option T → Bool
holds_if_given test x = unwrap_or (option_map test x) false

-- whether the layout of acknowledgements is fixed
abbrev pub is_semi_static : Codebook → Bool
is_semi_static codebooks.SemiStatic = true
is_semi_static codebooks.Dynamic = false

-- what an interleaver may not say with its CORESET
abbrev pub interleave_checks : Coreset → Steps → Interleave → List Check
interleave_checks c at i
    = no_conflict at keys.Bundle (bundle_differs i.bundle c.duration)
    ∷ no_conflict at keys.Rows (rows_differ c i)
    ∷ []

-- the conflicts of an interleaver with its CORESET
unfoldable pub interleave_conflicts : Coreset → Steps → Interleave → Finding
interleave_conflicts c at i = first_found (interleave_checks c at i)

-- what a CORESET may not say with the earlier ones and with its bandwidth part
abbrev pub coreset_checks : Bwp → List Coreset → Steps → Coreset → List Check
coreset_checks downlink earlier at c
    = no_conflict at keys.Number (list_any (λ (e : Coreset). nat_eq e.number c.number) earlier)
    ∷ no_conflict at keys.Groups (nat_eq (length (groups_of c.groups)) 0 || reaches_outside downlink c.groups)
    ∷ inside_if_given (interleave_conflicts c) at keys.Interleave c.interleave
    ∷ []

-- the conflicts of a CORESET with the earlier ones and with its bandwidth part
unfoldable pub coreset_conflicts : Bwp → List Coreset → Steps → Coreset → Finding
coreset_conflicts downlink earlier at c = first_found (coreset_checks downlink earlier at c)

-- what a set may not say with its CORESET, where it has one, and within itself
abbrev pub timing_checks : Option Coreset → Steps → SearchSet → List Check
timing_checks coreset at s
    = no_conflict at keys.Offset (nat_le s.period s.offset)
    ∷ no_conflict at keys.Duration (nat_lt 1 s.duration && nat_le s.period s.duration)
    ∷ no_conflict at keys.Symbols
    (nat_eq s.symbols 0 || holds_if_given (λ (c : Coreset). ends_after_slot c.duration s.symbols) coreset)
    ∷ no_conflict at keys.Candidates (holds_if_given (λ (c : Coreset). asks_above (cces_of c) s.candidates) coreset)
    ∷ no_conflict at keys.Base (is_common s.kind && not (nat_eq s.base 0))
    ∷ []

-- the conflicts of a set with its CORESET, where it has one, and within itself
unfoldable pub timing_conflicts : Option Coreset → Steps → SearchSet → Finding
timing_conflicts coreset at s = first_found (timing_checks coreset at s)

-- what a set may not say with the earlier ones, with its handset, with its CORESET and within itself
abbrev pub set_checks : Handset → List SearchSet → Steps → SearchSet → List Check
set_checks h earlier at s
    = no_conflict at keys.Number (list_any (λ (e : SearchSet). nat_eq e.number s.number) earlier)
    ∷ no_conflict at keys.Coreset (is_none (coreset_numbered s.coreset h.coresets.items))
    ∷ no_conflict at keys.Kind (is_specific s.kind && (is_none h.uplink_fields || is_none h.downlink_fields))
    ∷ timing_checks (coreset_numbered s.coreset h.coresets.items) at s

-- the conflicts of a set with the earlier ones and with its handset
unfoldable pub set_conflicts : Handset → List SearchSet → Steps → SearchSet → Finding
set_conflicts h earlier at s = first_found (set_checks h earlier at s)

-- what the values that decide the fields of format 0_1 may not say together
abbrev pub uplink_checks : Codebook → Steps → UplinkFields → List Check
uplink_checks codebook at f
    = no_conflict at keys.SecondDai (f.second_dai && is_semi_static codebook)
    ∷ no_conflict at keys.DmrsType (f.transform && nat_eq f.dmrs_type 2)
    ∷ []

-- the conflicts of what decides the fields of format 0_1
unfoldable pub uplink_conflicts : Codebook → Steps → UplinkFields → Finding
uplink_conflicts codebook at f = first_found (uplink_checks codebook at f)

-- what the values that decide the fields of format 1_1 may not say together
abbrev pub downlink_checks : Steps → DownlinkFields → List Check
downlink_checks at f = no_conflict at keys.Flush (f.flush && nat_eq f.cbg 0) ∷ []

-- the conflicts of what decides the fields of format 1_1
unfoldable pub downlink_conflicts : Steps → DownlinkFields → Finding
downlink_conflicts at f = first_found (downlink_checks at f)

-- what a handset may not say with the earlier ones, with its cell and within itself
abbrev pub handset_checks : RawCell → List Handset → Steps → Handset → List Check
handset_checks cell earlier at h
    = no_conflict at keys.Name (list_any (λ (e : Handset). bytes_eq e.name h.name) earlier)
    ∷ no_conflict at keys.Rnti (list_any (λ (e : Handset). nat_eq e.rnti h.rnti) earlier)
    ∷ no_conflict at keys.Downlink (nat_lt cell.blocks (end_of h.downlink))
    ∷ no_conflict at keys.Uplink (nat_lt 275 (end_of h.uplink))
    ∷ inside_each (coreset_conflicts h.downlink) at keys.Coresets h.coresets.items
    ∷ inside_each (set_conflicts h) at keys.Sets h.sets.items
    ∷ inside_if_given (uplink_conflicts h.codebook) at keys.UplinkFields h.uplink_fields
    ∷ inside_if_given downlink_conflicts at keys.DownlinkFields h.downlink_fields
    ∷ []

-- the conflicts of a handset with the earlier ones, with its cell and within itself
unfoldable pub handset_conflicts : RawCell → List Handset → Steps → Handset → Finding
handset_conflicts cell earlier at h = first_found (handset_checks cell earlier at h)

-- the conflicts of the handsets, in order
unfoldable pub cell_conflicts : RawCell → Finding
cell_conflicts raw = each_after (handset_conflicts raw) ([] ▸ keys.Handsets) raw.handsets
