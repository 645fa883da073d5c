-- How many blocks count in a legal cell, and how they are grouped.
use Rattle.std.proofs.Common.{◌≡◌, ℕ, ◌≤◌, true, inl, inr, Option, Some, None, unwrap_or, IfSome, [], ◌∷◌, arith}
use Rattle.std.proofs.lemmas.Bool.{or_cases, eqb-true, cases_eq}
use Rattle.rrc_settings.specs.declared.settings.Bwp.{Bwp}
use Rattle.rrc_settings.specs.declared.settings.Handset.{Handset}
use Rattle.rrc_settings.specs.declared.settings.RawCell.{RawCell}
use Rattle.rrc_settings.specs.Numbers.{is_one_of}
use Rattle.rrc_settings.specs.LegalCell.{IsLegalBwp, IsLegalHandset, IsLegalCell}
use Rattle.dci_fields.specs.declared.formats.Widths.{Widths}
use Rattle.dci_fields.specs.declared.formats.Widths.TheVariants.{Common, Own}
use Rattle.dci_fields.specs.Assignments.{IsBlockCount, IsGroupConfig, downlink_blocks, uplink_blocks}

-- a configuration from 1 to 2 is one of the two
pub group_config : (n : ℕ) → 1 ≤ n → n ≤ 2 → IsGroupConfig n
group_config n least most =
    elim (cases_eq n 1) [
      | inl one ↦ inl one
      | inr other ↦ inr (omega arith)
    ]

-- the blocks of a bandwidth part
pub bwp_blocks : (bwp : Bwp) → IsLegalBwp bwp → IsBlockCount bwp.size
bwp_blocks bwp h = record { least = h.size_least; most = h.size_most }

-- the sizes that CORESET 0 may have
coreset0_blocks : (n : ℕ) → is_one_of (24 ∷ 48 ∷ 96 ∷ []) n ≡ true → IsBlockCount n
coreset0_blocks n e =
    elim (or_cases _ _ e) [
      | inl is ↦ let h = eqb-true n 24 is in record { least = omega arith; most = omega arith }
      | inr more ↦ elim (or_cases _ _ more) [
        | inl is ↦ let h = eqb-true n 48 is in record { least = omega arith; most = omega arith }
        | inr last ↦ elim (or_cases _ _ last) [
          | inl is ↦ let h = eqb-true n 96 is in record { least = omega arith; most = omega arith }
          | inr none ↦ cc
        ]
      ]
    ]

-- the size of CORESET 0, or another number where there is none
given_blocks : (o : Option ℕ) (n : ℕ) → IfSome o (λ m. is_one_of (24 ∷ 48 ∷ 96 ∷ []) m ≡ true) → IsBlockCount n
    → IsBlockCount (unwrap_or o n)
given_blocks None n h k = k
given_blocks (Some m) n h k = coreset0_blocks m h

-- the blocks that count for format 1_0
pub downlink_count : (cell : RawCell) (h : Handset) (widths : Widths) → IsLegalCell cell → IsLegalHandset cell h
    → IsBlockCount (downlink_blocks cell h widths)
downlink_count cell h Common a b =
    let initial : IsBlockCount cell.initial_downlink =
    record { least = a.initial_downlink_least; most = a.initial_downlink_most } in
    given_blocks cell.coreset0 cell.initial_downlink a.coreset0 initial
downlink_count cell h Own a b = bwp_blocks h.downlink b.downlink

-- the blocks that count for format 0_0
pub uplink_count : (cell : RawCell) (h : Handset) (widths : Widths) → IsLegalCell cell → IsLegalHandset cell h
    → IsBlockCount (uplink_blocks cell h widths)
uplink_count cell h Common a b = record { least = a.initial_uplink_least; most = a.initial_uplink_most }
uplink_count cell h Own a b = bwp_blocks h.uplink b.uplink
