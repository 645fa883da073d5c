-- A watch from its parts.
use Rattle.std.proofs.Common.{◌≡◌, ℕ, ◌+◌, ◌*◌, ◌<◌, ◌≤◌, Bool, true, false, cond, ◌==◌, List, ◌++◌, ◌∷◌, [], Option, Some, None}
use Rattle.std.proofs.Common.{map, take, length, get_or, refl, sym, ◌∙◌, ap, arith}
use Rattle.std.proofs.lemmas.Bool.{eqb-true}
use Rattle.std.specs.List.{flat_map}
use Rattle.std.proofs.lemmas.List.{take_all, take_more, append-nil, append_assoc, map-append}
use Rattle.std.proofs.lemmas.Grind.{flat_map-append}
use Rattle.rrc_settings.specs.declared.settings.RawCell.{RawCell}
use Rattle.rrc_settings.specs.declared.settings.Handset.{Handset}
use Rattle.rrc_settings.specs.declared.settings.SearchSet.{SearchSet}
use Rattle.dci_fields.specs.declared.rows.FieldRow.{FieldRow}
use Rattle.dci_fields.specs.declared.sizes.Sizes.{Sizes}
use Rattle.dci_fields.specs.FormatRows.{rows_of}
use Rattle.dci_fields.specs.FittedRows.{fitted}
use Rattle.monitor_budget.specs.declared.candidates.Candidate.{Candidate}
use Rattle.monitor_budget.specs.declared.space.Space.{Space}
use Rattle.monitor_budget.specs.Counts.{candidates_of}
use Rattle.rrc_settings.specs.HandsetsOfCell.{no_set, set_at}
use Rattle.monitor_budget.specs.Spaces.{space_of}
use Rattle.monitor_plan.specs.declared.set_formats.SetFormats.{SetFormats}
use Rattle.monitor_plan.specs.declared.watch.Watch.{Watch}
use Rattle.monitor_plan.specs.SetFormats.{fields_at, formats_of, sized_list, watch_in}
use Rattle.monitor_plan.specs.Watches.{list_at, up_list}
use Rattle.dci_fields.specs.FormatsOfSets.{up_format, down_format, up_size, down_size, widths_in}
use Rattle.monitor_plan.specs.Watches.{watch_of, set_watches, watches_of}

-- a list that is fitted once is the list at each size
fields_are_at : (own : Option ℕ) (rows : List FieldRow) (size : ℕ) → fields_at (sized_list own rows) size ≡ list_at own rows size
fields_are_at None rows size = refl
fields_are_at (Some own) rows size = by (own == size) refl
  where
    by : (b : Bool) → (own == size) ≡ b → cond b (Some (fitted rows own)) None ≡ cond b (Some (fitted rows size)) None
    by true e = ap (λ (n : ℕ). there (fitted rows n)) (eqb-true own size e)
      where
        there : List FieldRow → Option (List FieldRow)
        there xs = Some xs
    by false e = refl

-- the code's watch of a candidate is the watch
pub watch_is_in : (cell : RawCell) (h : Handset) (sizes : Sizes) (s : SearchSet) (c : Candidate)
    → watch_in (space_of cell h s) (formats_of cell h sizes s.kind) c ≡ watch_of cell h sizes s c
unfolding watch_of
watch_is_in cell h sizes s c =
    let with_lists : Option (List FieldRow) → Option (List FieldRow) → Watch =
    λ up down. record (watch_in (space_of cell h s) (formats_of cell h sizes s.kind) c) { up = up; down = down } in
    let up = fields_are_at (up_size sizes s.kind) (rows_of cell h (up_format s.kind) (widths_in sizes s.kind)) c.size in
    let down = fields_are_at (down_size sizes s.kind) (rows_of cell h (down_format s.kind) (widths_in sizes s.kind)) c.size in
    ap (λ (x : Option (List FieldRow)). with_lists x (fields_at (formats_of cell h sizes s.kind).down c.size)) up
    ∙ ap (λ (x : Option (List FieldRow)). with_lists (up_list cell h sizes s.kind c.size) x) down

-- the set with all that its search needs, as the code finds it
pub space_found : (cell : RawCell) (h owner : Handset) (place : ℕ) (sets : List SearchSet) (space : Space) → owner ≡ h
    → sets ≡ owner.sets.items
    → space ≡ space_of cell owner (get_or sets place no_set) → space ≡ space_of cell h (set_at h place)
space_found cell h owner place sets space e f g =
    g ∙ ap (λ (xs : List SearchSet). space_of cell owner (get_or xs place no_set)) f
    ∙ ap (λ (x : Handset). space_of cell x (set_at x place)) e

-- and so is one that the code makes of what it found
watch-made : (cell : RawCell) (h : Handset) (sizes : Sizes) (s : SearchSet) (c : Candidate) (space : Space)
    (formats : SetFormats) (w : Watch)
    → space ≡ space_of cell h s → formats ≡ formats_of cell h sizes s.kind → w ≡ watch_in space formats c
    → w ≡ watch_of cell h sizes s c
watch-made cell h sizes s c space formats w e f g =
    g ∙ ap (λ (x : Space). watch_in x formats c) e ∙ ap (λ (x : SetFormats). watch_in (space_of cell h s) x c) f
    ∙ watch_is_in cell h sizes s c

-- one watch of a set more
pub one_watch_more : (cell : RawCell) (h : Handset) (sizes : Sizes) (s : SearchSet) (candidates : List Candidate)
    (before now next : List Watch)
    (i : ℕ) (c : Candidate) (space : Space) (formats : SetFormats) (w : Watch) → i < length candidates
    → space ≡ space_of cell h s → formats ≡ formats_of cell h sizes s.kind → w ≡ watch_in space formats (get_or candidates i c)
    → now ≡ before ++ map (watch_of cell h sizes s) (take i candidates) → next ≡ now ++ w ∷ []
    → next ≡ before ++ map (watch_of cell h sizes s) (take (i + 1) candidates)
one_watch_more cell h sizes s candidates before now next i c space formats w l e f g k n =
    let each = watch_of cell h sizes s in
    let here = watch-made cell h sizes s (get_or candidates i c) space formats w e f g in
    n ∙ ap (λ ws. ws ++ w ∷ []) k ∙ append_assoc before (map each (take i candidates)) (w ∷ [])
    ∙ ap (λ x. before ++ (map each (take i candidates) ++ x ∷ [])) here
    ∙ ap (λ ws. before ++ ws) (sym (map-append each (take i candidates) (get_or candidates i c ∷ [])))
    ∙ ap (λ cs. before ++ map each cs) (sym (take_more candidates i c l))

-- all watches of a set
pub set-made : (cell : RawCell) (h : Handset) (sizes : Sizes) (s : SearchSet) (candidates : List Candidate)
    (before now : List Watch) (i : ℕ)
    → candidates ≡ candidates_of cell h sizes s → length candidates ≤ i
    → now ≡ before ++ map (watch_of cell h sizes s) (take i candidates)
    → now ≡ before ++ set_watches cell h sizes s
unfolding set_watches
set-made cell h sizes s candidates before now i e l h' =
    h' ∙ ap (λ cs. before ++ map (watch_of cell h sizes s) cs) (take_all i candidates l ∙ e)

-- the watches of sets at some places, of which there are few
pub record ArePushed (cell : RawCell) (h : Handset) (sizes : Sizes) (places : List ℕ) (n : ℕ) (now : List Watch) : Type 0 where
  pub watches : now ≡ watches_of cell h sizes places
  pub few : length now ≤ 1120 * n

-- no watches of no sets
pub watches-none : (cell : RawCell) (h : Handset) (sizes : Sizes) (now : List Watch) → now ≡ [] → ArePushed cell h sizes [] 0 now
unfolding watches_of
watches-none cell h sizes now e = record { watches = e; few = omega (arith, ap length e) }

-- the watches of one set more
pub watches_more : (cell : RawCell) (h : Handset) (sizes : Sizes) (places : List ℕ) (i : ℕ) (now next : List Watch)
    → i < length places
    → ArePushed cell h sizes (take i places) i now → next ≡ now ++ set_watches cell h sizes (set_at h (get_or places i 0))
    → length next ≤ length now + 1120 → ArePushed cell h sizes (take (i + 1) places) (i + 1) next
unfolding watches_of
watches_more cell h sizes places i now next l e f short =
    let each : ℕ → List Watch = λ p. set_watches cell h sizes (set_at h p) in
    record {
      watches =
          f ∙ ap (λ xs. xs ++ each (get_or places i 0)) e.watches
          ∙ sym (ap (flat_map each) (take_more places i 0 l) ∙ flat_map-append each (take i places) (get_or places i 0 ∷ [])
          ∙ ap (λ xs. flat_map each (take i places) ++ xs) (append-nil (each (get_or places i 0))));
      few = omega (arith, e.few, short);
    }
