-- What the reading finds is the grid whose text the bytes are; where there is none, the place is where they leave every grid's
-- text.
use Rattle.std.proofs.Common.{◌≡◌, ℕ, ◌≤◌, ◌==◌, Bool, Option, Some}
use Rattle.std.proofs.Common.{None, Result, Ok, Err, List, ◌++◌, map, length, take, drop}
use Rattle.std.proofs.Common.{refl, sym, ◌∙◌, ap, subst, arith}
use Rattle.std.specs.List.{common_prefix_len}
use Rattle.std.specs.Option.{ok_or}
use Rattle.std.specs.Result.{IfOk, IfErr}
use Rattle.std.specs.Str.{bytes_eq}
use Rattle.std.proofs.lemmas.List.{take-append-drop}
use Rattle.std.proofs.lemmas.List.Sums.{common_prefix_len-le}
use Rattle.std.proofs.lemmas.Slice.Eq.{bytes_eq-Decides}
use Rattle.list_facts.proofs.Lists.{member_le, greatest_has, found_passes, only_found, shared_same}
use Rattle.list_facts.proofs.Members.{IsIn, in_map, map_in}
use Rattle.slot_grid.specs.Grid.{GridValue, IsGrid}
use Rattle.slot_grid.specs.Image.{blank_grid}
use Rattle.grid_file.specs.declared.fault.GridError.{GridError}
use Rattle.grid_file.specs.declared.fault.GridError.TheVariants.{Fault, NoMemory}
use Rattle.grid_file.specs.FoundGrid.{blank_grids, placed, placed_grids, grid_found}
use Rattle.grid_file.specs.FoundGrid.{leaving_place, reading_of, IsReading, ReadsExactly}
use Rattle.grid_file.specs.GridText.{grid_text, IsTextOf, IsGridText}
use Rattle.grid_file.specs.LeavingPlace.{Begins, LeavesAt}
use Rattle.grid_file.specs.Outcome.{IsWhy}
use Rattle.grid_file.proofs.BlankGrids.{blank_is, blank_of, every_blank, blanks_are}
use Rattle.grid_file.proofs.OneText.{one_text, one_place}
use Rattle.grid_file.proofs.SharedTexts.{placed_of_text, placed_is_grid, shares_as_far}

placed_among : (bytes : List ℕ) (grid : GridValue) → IsGrid grid → IsIn (placed bytes (blank_of grid)) (placed_grids bytes)
unfolding placed_grids
placed_among bytes grid legal = map_in (placed bytes) (blank_of grid) blank_grids (every_blank grid legal)

placed_are : (bytes : List ℕ) (grid : GridValue) → IsIn grid (placed_grids bytes) → IsGrid grid
unfolding placed_grids
placed_are bytes grid h =
    let (blank, within, is) = in_map (placed bytes) grid blank_grids h in
    subst IsGrid (sym is) (placed_is_grid bytes blank (blanks_are blank within))

-- the test by which a grid is found
abbrev has_text : List ℕ → GridValue → Bool
has_text bytes grid = bytes_eq (grid_text grid) bytes

-- what is found is the grid whose text the bytes are
pub found_text : (bytes : List ℕ) (grid : GridValue) → grid_found bytes ≡ Some grid → IsTextOf grid bytes
unfolding grid_found
found_text bytes grid e =
    let (within, passes) = found_passes (has_text bytes) (placed_grids bytes) grid e in
    record { legal = placed_are bytes grid within; text = (bytes_eq-Decides (grid_text grid) bytes).0 passes }

-- the grid whose text the bytes are is found
pub found_grid : (bytes : List ℕ) (grid : GridValue) → IsTextOf grid bytes → grid_found bytes ≡ Some grid
unfolding grid_found
found_grid bytes grid is =
    let own : grid ≡ placed bytes (blank_of grid) = placed_of_text grid is.legal ∙ ap (λ b. placed b (blank_of grid)) is.text in
    only_found (has_text bytes) (placed_grids bytes) grid
    (subst (λ g. IsIn g (placed_grids bytes)) (sym own) (placed_among bytes grid is.legal))
    ((bytes_eq-Decides (grid_text grid) bytes).1 is.text)
    (λ other within passes.
    one_text other grid (placed_are bytes other within) is.legal
    ((bytes_eq-Decides (grid_text other) bytes).0 passes ∙ sym is.text))

-- the first n bytes are there, and some grid's text begins with them
abbrev IsBeginning : List ℕ → ℕ → Type 0
IsBeginning bytes n = (n ≤ length bytes) × Begins IsGridText (take n bytes)

no_byte : (bytes : List ℕ) → IsBeginning bytes 0
no_byte bytes =
    let blank = blank_grid 0 0 0 6 in (
      omega arith,
      (
        grid_text blank,
        (
          blank,
          record {
            legal = blank_is 0 0 0 6 (omega arith) (omega arith) (omega arith) (omega arith) (omega arith);
            text = refl;
          },
        ),
      ),
    )

-- how many first bytes a text shares with the bytes
abbrev share : List ℕ → GridValue → ℕ
share bytes grid = common_prefix_len ◌==◌ (grid_text grid) bytes

shared_bytes : (bytes : List ℕ) (grid : GridValue) → IsIn grid (placed_grids bytes) → IsBeginning bytes (share bytes grid)
shared_bytes bytes grid within =
    let text = grid_text grid in
    let n = share bytes grid in
    let joined : text ≡ take n bytes ++ drop n text =
    sym (take-append-drop n text) ∙ ap (λ front. front ++ drop n text) (shared_same text bytes) in (
      (common_prefix_len-le ◌==◌ text bytes).1,
      (drop n text, (grid, record { legal = placed_are bytes grid within; text = joined })),
    )

each_share : (bytes : List ℕ) (n : ℕ) → IsIn n (map (share bytes) (placed_grids bytes)) → IsBeginning bytes n
each_share bytes n h =
    let (grid, within, is) = in_map (share bytes) n (placed_grids bytes) h in
    subst (IsBeginning bytes) (sym is) (shared_bytes bytes grid within)

-- bytes that are no grid's text leave them at the place
pub leaves_there : (bytes : List ℕ) → (IsGridText bytes → ⊥) → LeavesAt IsGridText bytes (leaving_place bytes)
unfolding leaving_place
leaves_there bytes none =
    let shares = map (share bytes) (placed_grids bytes) in
    let (within, begins) = greatest_has (IsBeginning bytes) 0 shares (no_byte bytes) (each_share bytes) in
    record {
      no_text = none;
      within = within;
      begins = begins;
      longest = λ n most some.
          let (rest, (grid, is)) = some in
          let own = placed bytes (blank_of grid) in
          omega (
            arith,
            shares_as_far bytes rest n grid most is.text,
            member_le 0 (share bytes own) shares
                (map_in (share bytes) own (placed_grids bytes) (placed_among bytes grid is.legal)),
          );
    }

none_case : (o : Option GridValue) → ((grid : GridValue) → o ≡ Some grid → ⊥) → o ≡ None
none_case None none = refl
none_case (Some grid) none = absurd (none grid refl)

none_found : (bytes : List ℕ) → (IsGridText bytes → ⊥) → grid_found bytes ≡ None
none_found bytes none = none_case (grid_found bytes) (λ grid e. none (grid, found_text bytes grid e))

no_text_found : (bytes : List ℕ) → grid_found bytes ≡ None → IsGridText bytes → ⊥
no_text_found bytes e (grid, is) =
    let found = found_grid bytes grid is in cc

reading_found : (bytes : List ℕ) (grid : GridValue) → IsTextOf grid bytes → reading_of bytes ≡ Ok grid
unfolding reading_of
reading_found bytes grid is = ap (λ o. ok_or o (leaving_place bytes)) (found_grid bytes grid is)

-- what is written of a grid is read as that grid
pub reads_written : (grid : GridValue) → IsGrid grid → reading_of (grid_text grid) ≡ Ok grid
reads_written grid legal = reading_found (grid_text grid) grid (record { legal = legal; text = refl })

reading_left : (bytes : List ℕ) (at : ℕ) → LeavesAt IsGridText bytes at → reading_of bytes ≡ Err at
unfolding reading_of
reading_left bytes at leaves =
    ap (λ o. ok_or o (leaving_place bytes)) (none_found bytes leaves.no_text)
    ∙ ap (λ n. Err n) (one_place IsGridText bytes (leaving_place bytes) at (leaves_there bytes leaves.no_text) leaves)

ok_of : (o : Option GridValue) (e : ℕ) (grid : GridValue) → ok_or o e ≡ Ok grid → o ≡ Some grid
ok_of None e grid is = cc
ok_of (Some found) e grid is = cc

none_of : (o : Option GridValue) (e at : ℕ) → ok_or o e ≡ Err at → o ≡ None
none_of None e at is = refl
none_of (Some found) e at is = cc

place_of_none : (o : Option GridValue) (e at : ℕ) → ok_or o e ≡ Err at → e ≡ at
place_of_none None e at is = cc
place_of_none (Some found) e at is = cc

text_of_reading : (bytes : List ℕ) (grid : GridValue) → reading_of bytes ≡ Ok grid → IsTextOf grid bytes
unfolding reading_of
text_of_reading bytes grid e = found_text bytes grid (ok_of (grid_found bytes) (leaving_place bytes) grid e)

place_of_reading : (bytes : List ℕ) (at : ℕ) → reading_of bytes ≡ Err at → LeavesAt IsGridText bytes at
unfolding reading_of
place_of_reading bytes at e =
    subst (λ n. LeavesAt IsGridText bytes n) (place_of_none (grid_found bytes) (leaving_place bytes) at e)
    (leaves_there bytes (no_text_found bytes (none_of (grid_found bytes) (leaving_place bytes) at e)))

-- the reading is the grid of the text, or the place where the bytes leave every grid's text
pub reads_exactly : ReadsExactly
reads_exactly = record {
  text = λ bytes grid. (text_of_reading bytes grid, reading_found bytes grid);
  no_text = λ bytes at. (place_of_reading bytes at, reading_left bytes at);
}

-- the answer is what the reading gives
pub is_reading : (bytes : List ℕ) (r : Result GridValue GridError) → IfOk r (λ grid. IsTextOf grid bytes)
    → IfErr r (λ error. IsWhy bytes error)
    → IsReading (reading_of bytes) r
is_reading bytes (Ok grid) read why = reading_found bytes grid read
is_reading bytes (Err NoMemory) read why = tt
is_reading bytes (Err (Fault fault)) read why = reading_left bytes fault.at why
