-- What holds of every list of grants that is read.
use Rattle.std.specs.Prelude.{◌≡◌, ◌<◌, ◌≤◌, ℕ, List, All, length, map, true}
use Rattle.std.specs.Cmp.Lexicographic.{slice_cmp}
use Rattle.std.specs.List.Sorted.{IsStrictlySortedBy}
use Rattle.std.specs.Ordering.{nat_cmp}
use Rattle.dci_fields.specs.declared.fault.Given.{Given}
use Rattle.grant_file.specs.declared.grants.Grant.{Grant}
use Rattle.grant_file.specs.declared.grants.GrantList.{GrantList}
use Rattle.dci_fields.specs.Words.{field_named}
use Rattle.rrc_settings.specs.AggregationLevels.{is_level}
use Rattle.grant_file.specs.Shapes.{slots_of_frame}

-- words in ascending order of their bytes, each once
abbrev pub IsAscending : List (List ℕ) → Type 0
IsAscending words = IsStrictlySortedBy (slice_cmp nat_cmp) words

-- the values of fields and their words: the words ascend, and the field at each place is the one that the word there names
pub record IsReadFields (given : List Given) (words : List (List ℕ)) : Type 0 where
  pub ascending : IsAscending words
  pub in_place : length given ≡ length words
  pub named : map (λ (g : Given). g.name) given ≡ map field_named words

-- a grant: its level is one, and so are its fields
pub record IsReadGrant (grant : Grant) : Type 0 where
  pub level : is_level grant.level ≡ true
  pub fields : IsReadFields grant.given grant.words

-- a list of grants: it is of a slot that a frame has where it has as many as the numerology says, and each grant is so
pub record IsReadList (mu : ℕ) (list : GrantList) : Type 0 where
  pub frame : list.frame < 1024
  pub slot : list.slot < slots_of_frame mu
  pub few : length list.grants ≤ 4096
  pub grants : All IsReadGrant list.grants
