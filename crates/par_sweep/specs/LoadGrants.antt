-- The grants of the generated load: in each slot one of format 1_0 for each handset, then one of format 0_0 for each.
use Rattle.std.specs.Prelude.{ℕ, ◌+◌, ◌*◌, ◌/◌, ◌%◌, List, [], ◌∷◌, ◌++◌, Some, None, map}
use Rattle.std.specs.List.{range_with_len}
use Rattle.dci_fields.specs.declared.fault.Given.{Given}
use Rattle.dci_fields.specs.declared.formats.Format.{Format}
use Rattle.dci_fields.specs.declared.formats.Format.TheVariants.{F00, F10}
use Rattle.dci_fields.specs.declared.names.FieldName.TheVariants.{Fdra, Tdra, Mcs, Harq}
use Rattle.dci_fields.specs.Words.{word_of}
use Rattle.grant_file.specs.declared.grants.Grant.{Grant}
use Rattle.grant_file.specs.declared.grants.GrantList.{GrantList}
use Rattle.par_sweep.specs.LoadCell.{handset_name}

-- the values that the grants of slot t give to a handset, in the order of the format's fields; their words need not ascend
abbrev pub load_given : ℕ → ℕ → List Given
load_given t h =
    record { name = Some Fdra; value = 1911 + 8 * h } ∷ record { name = Some Tdra; value = t % 16 }
    ∷ record { name = Some Mcs; value = h % 28 } ∷ record { name = Some Harq; value = (h + t) % 16 } ∷ []

-- the words of these fields
abbrev pub load_words : List (List ℕ)
load_words = word_of Fdra ∷ word_of Tdra ∷ word_of Mcs ∷ word_of Harq ∷ []

-- the grant of a format in slot t for a handset: in its set, at level 2
abbrev pub load_grant : ℕ → Format → ℕ → Grant
load_grant t format h = record {
  handset = handset_name h;
  set = 1;
  level = 2;
  candidate = None;
  symbol = None;
  format = format;
  given = load_given t h;
  words = load_words;
}

-- the grants of slot t; a frame has ten slots
unfoldable pub load_grants : ℕ → GrantList
load_grants t = record {
  frame = t / 10;
  slot = t % 10;
  grants = map (load_grant t F10) (range_with_len 0 32) ++ map (load_grant t F00) (range_with_len 0 32);
}
