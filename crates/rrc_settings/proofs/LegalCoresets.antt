-- What the checks of a CORESET say.
use Rattle.std.proofs.Common.{◌≡◌, ℕ, ◌+◌, ◌*◌, ◌%◌, ◌≤◌, false, ◌||◌, List, [], ◌∷◌, None, length, get_or, All}
use Rattle.std.proofs.Common.{nat_eq, nat_lt, arith}
use Rattle.std.proofs.lemmas.Bool.{or_parts, eqb-true, eqb-false, ltb-false, not-false}
use Rattle.rrc_settings.specs.Faults.{Steps, ◌▸◌}
use Rattle.rrc_settings.specs.Table.{interleave_table, interleave_ranges, coreset_table, coreset_ranges}
use Rattle.rrc_settings.specs.Numbers.{is_one_of}
use Rattle.rrc_settings.specs.BandwidthParts.{end_of}
use Rattle.rrc_settings.specs.ControlGroups.{groups_of, group_block, cces_of}
use Rattle.rrc_settings.specs.Conflicts.{bundle_differs, rows_differ, reaches_outside, interleave_checks, interleave_conflicts}
use Rattle.rrc_settings.specs.Conflicts.{coreset_checks, coreset_conflicts}
use Rattle.rrc_settings.specs.LegalCell.{IsLegalInterleave, IsLegalCoreset}
use Rattle.rrc_settings.specs.declared.words.Key.TheVariants as keys
use Rattle.rrc_settings.specs.declared.settings.Bwp.{Bwp}
use Rattle.rrc_settings.specs.declared.settings.Interleave.{Interleave}
use Rattle.rrc_settings.specs.declared.settings.Coreset.{Coreset}
use Rattle.rrc_settings.proofs.ByKey.{range_by_key, check_by_key, range_passes, range_from_to, most_if_given}
use Rattle.rrc_settings.proofs.ByKey.{conflict_none, both_given}
use Rattle.rrc_settings.proofs.GroupTests.{none_passes_at}

-- an interleaver
pub legal_interleave : (c : Coreset) (at there : Steps) (i : Interleave) → interleave_ranges at i ≡ None
    → interleave_conflicts c there i ≡ None → IsLegalInterleave c i
unfolding interleave_ranges interleave_conflicts
legal_interleave c at there i e g =
    let choices = 2 ∷ 3 ∷ 6 ∷ [] in
    let checks = interleave_checks c there i in
    let regs = 6 * cces_of c % (i.bundle * i.rows) in
    record {
      bundle = range_passes at keys.Bundle (is_one_of choices) i.bundle (range_by_key interleave_table keys.Bundle at i e);
      rows = range_passes at keys.Rows (is_one_of choices) i.rows (range_by_key interleave_table keys.Rows at i e);
      shift = most_if_given at keys.Shift 0 274 i.shift (range_by_key interleave_table keys.Shift at i e);
      bundle_goes = conflict_none there keys.Bundle (bundle_differs i.bundle c.duration) (check_by_key checks keys.Bundle g);
      filled = eqb-true regs 0
          (not-false (nat_eq regs 0) (conflict_none there keys.Rows (rows_differ c i) (check_by_key checks keys.Rows g)));
    }

-- groups of which none reaches outside lie in the bandwidth part
groups_inside : (downlink : Bwp) (groups : ℕ) → reaches_outside downlink groups ≡ false
    → All (λ g. group_block downlink.start g + 6 ≤ end_of downlink) (groups_of groups)
unfolding reaches_outside
groups_inside downlink groups none k d l =
    let g = get_or (groups_of groups) k d in
    let test = λ (n : ℕ). nat_lt (end_of downlink) (group_block downlink.start n + 6) in
    ltb-false (end_of downlink) (group_block downlink.start g + 6) (none_passes_at test (groups_of groups) none k d l)

-- a CORESET
pub legal_coreset : (downlink : Bwp) (earlier : List Coreset) (at there : Steps) (c : Coreset) → coreset_ranges at c ≡ None
    → coreset_conflicts downlink earlier there c ≡ None → IsLegalCoreset downlink c
unfolding coreset_ranges coreset_conflicts
legal_coreset downlink earlier at there c e g =
    let number = range_from_to at keys.Number 1 11 c.number (range_by_key coreset_table keys.Number at c e) in
    let duration = range_from_to at keys.Duration 1 3 c.duration (range_by_key coreset_table keys.Duration at c e) in
    let checks = coreset_checks downlink earlier there c in
    let count = length (groups_of c.groups) in
    let (some, inside) = or_parts (nat_eq count 0) (reaches_outside downlink c.groups)
    (conflict_none there keys.Groups (nat_eq count 0 || reaches_outside downlink c.groups) (check_by_key checks keys.Groups g)) in
    record {
      number_least = number.0;
      number_most = number.1;
      duration_least = duration.0;
      duration_most = duration.1;
      dmrs_id = most_if_given at keys.DmrsId 0 65535 c.dmrs_id (range_by_key coreset_table keys.DmrsId at c e);
      some_groups = let h = eqb-false count 0 some in omega (arith, h);
      inside = groups_inside downlink c.groups inside;
      interleave = both_given (IsLegalInterleave c) interleave_ranges (interleave_conflicts c) (at ▸ keys.Interleave)
          (there ▸ keys.Interleave) c.interleave (λ i. legal_interleave c (at ▸ keys.Interleave) (there ▸ keys.Interleave) i)
          (range_by_key coreset_table keys.Interleave at c e) (check_by_key checks keys.Interleave g);
    }
