-- Searches of which some could not be prepared: each plan has its entry, and each entry that is ready is searched in its turn.
use Rattle.std.proofs.Common.{◌≡◌, ℕ, ◌+◌, ◌<◌, List, [], ◌∷◌, ◌++◌, map, take, drop, length, get_or, ap, sym, ◌∙◌, slice_set}
use Rattle.std.specs.List.{AllZip}
use Rattle.std.proofs.lemmas.List.Edits.{map_over_more}
use Rattle.slot_grid.specs.Grid.{GridValue}
use Rattle.table_files.specs.declared.tables.Tables.{Tables}
use Rattle.dci_codec.specs.declared.codes.Codes.{Codes}
use Rattle.dci_codec.specs.KnownCodes.{AreOf}
use Rattle.par_sweep.specs.declared.prepared.Prepared.{Prepared}
use Rattle.par_sweep.specs.Prepared.{prepared_searched}

-- a relation that holds of two lists place by place, and of two values more, holds of the lists with these at their ends
pub all_zip_more : {A B : Type 0} (R : A → B → Type 0) (xs : List A) (ys : List B) (x : A) (y : B)
    → AllZip R xs ys → R x y → AllZip R (xs ++ x ∷ []) (ys ++ y ∷ [])
all_zip_more R [] [] x y all here = (here, tt)
all_zip_more R (x1 ∷ xs) (y1 ∷ ys) x y all here = (all.0, all_zip_more R xs ys x y all.1 here)
all_zip_more R [] (y1 ∷ ys) x y all here = elim all [ ]
all_zip_more R (x1 ∷ xs) [] x y all here = elim all [ ]

-- the first entries of a list are searched and the others as they were, and the codes that are kept are those of the tables
pub record EntriesSearchedBelow (tables : Tables) (grids : List GridValue) (first : List Prepared) (place : ℕ)
    (entries : List Prepared) (codes : Codes) : Type 0 where
  pub searched : entries ≡ map (prepared_searched tables grids) (take place first) ++ drop place first
  pub kept : AreOf tables codes

-- one entry more is searched
pub entry_more : (tables : Tables) (grids : List GridValue) (first : List Prepared) (place : ℕ) {now : List Prepared}
    {entry searched : Prepared}
    → place < length first
    → now ≡ map (prepared_searched tables grids) (take place first) ++ drop place first → entry ≡ get_or now place entry
    → searched ≡ prepared_searched tables grids (get_or now place entry)
    → slice_set now place searched ≡ map (prepared_searched tables grids) (take (place + 1) first) ++ drop (place + 1) first
entry_more tables grids first place {now} {entry} {searched} within so_far there is =
    ap (λ (e : Prepared). slice_set now place e) (is ∙ ap (prepared_searched tables grids) (sym there))
    ∙ map_over_more (prepared_searched tables grids) first now place entry within so_far there
