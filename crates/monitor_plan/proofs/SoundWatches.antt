-- Each watch of the sets of a legal cell is sound and inside the slot and the carrier, and those of one set are alike.
use Rattle.std.proofs.Common.{◌≡◌, ℕ, zero, suc, ◌+◌, ◌*◌, ◌^◌, ◌<◌, ◌≤◌, ◌⊎◌, inl, inr, Bool, true, false, ◌==◌}
use Rattle.std.proofs.Common.{cond, min, max, Option, Some, None, is_some, unwrap_or, IfSome, List, [], ◌∷◌, length}
use Rattle.std.proofs.Common.{All, get_or, refl, sym, ◌∙◌, ap, subst, arith}
use Rattle.std.specs.Option.{option_to_list}
use Rattle.std.proofs.Math.Nat.{mod-lt}
use Rattle.std.proofs.lemmas.Bool.{eqb-true, cases_order, and_parts}
use Rattle.rrc_settings.specs.declared.settings.RawCell.{RawCell}
use Rattle.rrc_settings.specs.declared.settings.Handset.{Handset}
use Rattle.rrc_settings.specs.declared.settings.SearchSet.{SearchSet}
use Rattle.rrc_settings.specs.declared.settings.SetKind.{SetKind}
use Rattle.rrc_settings.specs.declared.settings.SetKind.TheVariants as kinds
use Rattle.rrc_settings.specs.SetKinds.{is_specific}
use Rattle.dci_fields.specs.declared.formats.Format.{Format}
use Rattle.dci_fields.specs.declared.formats.Format.TheVariants.{F00, F10, Order, F01, F11}
use Rattle.dci_fields.specs.declared.rows.FieldRow.{FieldRow}
use Rattle.dci_fields.specs.declared.sizes.Sizes.{Sizes}
use Rattle.dci_fields.specs.FieldLists.{width_of, IsFieldList}
use Rattle.dci_fields.specs.FormatRows.{rows_of}
use Rattle.dci_fields.specs.FittedRows.{fitted, order_of, HasRoomForOrder}
use Rattle.dci_fields.specs.Alignment.{sizes_of}
use Rattle.rrc_settings.specs.HandsetsOfCell.{set_at, coreset_of}
use Rattle.rrc_settings.specs.LegalCell.{IsLegalCell, IsLegalHandset, IsLegalSearchSet}
use Rattle.coreset_map.specs.ResourcesOfCell.{resources_in}
use Rattle.list_facts.proofs.Members.{IsIn, in_map, in_flat_map, at_in}
use Rattle.coreset_map.proofs.CandidateRegs.{length-candidate, candidate_order, candidate_within}
use Rattle.monitor_budget.specs.declared.candidates.Candidate.{Candidate}
use Rattle.monitor_budget.specs.SetCandidates.{IsPlaced, sizes_in, rising, rising_sizes}
use Rattle.monitor_budget.specs.Scrambling.{sequence_start, own_start, scrambling_start}
use Rattle.monitor_budget.specs.Counts.{cces_under, candidates_of}
use Rattle.monitor_budget.proofs.Spaces.{set_resources, set_below, set_asks}
use Rattle.monitor_budget.proofs.Placed.{in_set, is_placed}
use Rattle.monitor_plan.specs.declared.watch.Watch.{Watch}
use Rattle.rrc_settings.specs.AggregationLevels.{is_level}
use Rattle.dci_fields.specs.FormatsOfSets.{is_for_fallback, up_format, down_format, up_size, down_size, widths_in}
use Rattle.monitor_plan.specs.Watch.{fits, list_of, IsSound, IsInside, watch_at, no_watch, AreAlike}
use Rattle.monitor_plan.specs.Watches.{list_at, watch_of, set_watches, watches_of}
use Rattle.monitor_plan.proofs.SetFits.{legal_fit}

-- a size that a set monitors is that of one of its formats
size_in_option : (o : Option ℕ) (size : ℕ) → IsIn size (option_to_list o) → o ≡ Some size
size_in_option None size i = absurd i
size_in_option (Some n) size (inl e) = ap (λ (k : ℕ). Some k) (sym e)
size_in_option (Some n) size (inr i) = absurd i

in_rising : (up down size : ℕ) → IsIn size (rising up down) → (up ≡ size) ⊎ (down ≡ size)
in_rising up down size i = by (up == down) i
  where
    smaller : size ≡ min up down → (up ≡ size) ⊎ (down ≡ size)
    smaller e = elim (cases_order up down) [
      | inl same ↦ inl (omega arith)
      | inr (inl less) ↦ inl (omega arith)
      | inr (inr more) ↦ inr (omega arith)
    ]

    larger : size ≡ max up down → (up ≡ size) ⊎ (down ≡ size)
    larger e = elim (cases_order up down) [
      | inl same ↦ inl (omega arith)
      | inr (inl less) ↦ inr (omega arith)
      | inr (inr more) ↦ inl (omega arith)
    ]

    by : (b : Bool) → IsIn size (cond b (up ∷ []) (min up down ∷ max up down ∷ [])) → (up ≡ size) ⊎ (down ≡ size)
    by true (inl e) = inl (sym e)
    by true (inr j) = absurd j
    by false (inl e) = smaller e
    by false (inr (inl e)) = larger e
    by false (inr (inr j)) = absurd j

size_in_rising : (up down : Option ℕ) (size : ℕ) → IsIn size (rising_sizes up down) → (up ≡ Some size) ⊎ (down ≡ Some size)
size_in_rising None None size i = absurd i
size_in_rising (Some u) None size (inl e) = inl (ap (λ (k : ℕ). Some k) (sym e))
size_in_rising (Some u) None size (inr i) = absurd i
size_in_rising None (Some d) size (inl e) = inr (ap (λ (k : ℕ). Some k) (sym e))
size_in_rising None (Some d) size (inr i) = absurd i
size_in_rising (Some u) (Some d) size i =
    elim (in_rising u d size i) as (λ _. (◌≡◌ {A = Option ℕ} (Some u) (Some size)) ⊎ (◌≡◌ {A = Option ℕ} (Some d) (Some size))) [
      | inl e ↦ inl (ap (λ (k : ℕ). Some k) e)
      | inr e ↦ inr (ap (λ (k : ℕ). Some k) e)
    ]

size_known : (sizes : Sizes) (kind : SetKind) (size : ℕ) → IsIn size (sizes_in sizes kind)
    → (up_size sizes kind ≡ Some size) ⊎ (down_size sizes kind ≡ Some size)
size_known sizes kinds.Common size i = inl (size_in_option sizes.common size i)
size_known sizes kinds.Fallback size i = inl (size_in_option sizes.fallback size i)
size_known sizes kinds.Specific size i = size_in_rising sizes.up sizes.down size i

-- what holds of a list that is fitted to a size holds of the list at the size
fitted_holds : (P : List FieldRow → Type 0) (own : Option ℕ) (rows : List FieldRow) (size : ℕ)
    → (own ≡ Some size → P (fitted rows size))
    → IfSome (list_at own rows size) P
fitted_holds P None rows size f = tt
fitted_holds P (Some n) rows size f = by (n == size) refl
  where
    by : (b : Bool) → (n == size) ≡ b → IfSome (cond b (Some (fitted rows size)) None) P
    by true e = f (ap (λ (k : ℕ). Some k) (eqb-true n size e))
    by false e = tt

-- scrambling starts are below 2^31
start_below : (r i : ℕ) → sequence_start r i < 2 ^ 31
start_below r i = mod-lt (r * 2 ^ 16 + i) (omega arith)

own_below : (cell rnti : ℕ) (id : Option ℕ) → own_start cell rnti id < 2 ^ 31
own_below cell rnti None = start_below 0 cell
own_below cell rnti (Some id) = start_below rnti id

scrambling_below : (kind : SetKind) (cell rnti : ℕ) (id : Option ℕ) → scrambling_start kind cell rnti id < 2 ^ 31
scrambling_below kinds.Common cell rnti id = start_below 0 cell
scrambling_below kinds.Fallback cell rnti id = own_below cell rnti id
scrambling_below kinds.Specific cell rnti id = own_below cell rnti id

-- a candidate of a set stands in its CORESET
candidate-placed : (cell : RawCell) (h : Handset) (s : SearchSet) (sizes : Sizes) (c : Candidate) → IsLegalSearchSet h s
    → IsIn c (candidates_of cell h sizes s) → IsPlaced (cces_under cell h s) s c
candidate-placed cell h s sizes c known i =
    let asks = set_asks cell h s (resources_in cell.cell h.downlink.start (coreset_of h s)) known refl in
    is_placed (cces_under cell h s) (sizes_in sizes s.kind) s c asks i

level_least : (n : ℕ) → is_level n ≡ true → 1 ≤ n
level_least zero h = cc
level_least (suc n) h = omega arith

-- the watch of a candidate is sound
sound_watch : (cell : RawCell) (h : Handset) (s : SearchSet) (c : Candidate) → IsLegalCell cell → IsLegalHandset cell h
    → IsLegalSearchSet h s
    → IsIn c (candidates_of cell h (sizes_of cell h) s) → IsSound (watch_of cell h (sizes_of cell h) s c)
unfolding watch_of
sound_watch cell h s c legal there known i =
    let sizes = sizes_of cell h in
    let r = resources_in cell.cell h.downlink.start (coreset_of h s) in
    let a = set_resources cell h s legal there known in
    let p = candidate-placed cell h s sizes c known i in
    let f = legal_fit cell h s legal there known in
    let up = rows_of cell h (up_format s.kind) (widths_in sizes s.kind) in
    let down = rows_of cell h (down_format s.kind) (widths_in sizes s.kind) in
    let o = in_set (cces_under cell h s) (sizes_in sizes s.kind) s c i in
    let sized : IsIn c.size (sizes_in sizes s.kind) =
    subst (λ n. IsIn n (sizes_in sizes s.kind)) (sym (ap (λ (x : Candidate). x.size) o.is)) o.sized in
    let bounds : (23 ≤ c.size) × (c.size ≤ 84) =
    elim (size_known sizes s.kind c.size sized) as (λ _. (23 ≤ c.size) × (c.size ≤ 84)) [
      | inl e ↦ let x = f.up c.size e in (x.least, x.most)
      | inr e ↦ let x = f.down c.size e in (x.least, x.most)
    ] in
    record {
      carrying = record {
        level = p.level;
        count = length-candidate r c.start c.level a p.within;
        order = candidate_order r c.start c.level a;
        scramble = scrambling_below s.kind cell.cell h.rnti (coreset_of h s).dmrs_id;
        shortest = omega (arith, bounds.0);
        longest = omega (arith, bounds.1);
        room = omega (arith, bounds.1, level_least c.level p.level);
      };
      least = bounds.0;
      most = bounds.1;
      up = fitted_holds (λ xs. width_of xs ≤ c.size) (up_size sizes s.kind) up c.size (λ e. (f.up c.size e).within);
      down = fitted_holds (λ xs. width_of xs ≤ c.size) (down_size sizes s.kind) down c.size (λ e. (f.down c.size e).within);
      up_list = fitted_holds IsFieldList (up_size sizes s.kind) up c.size (λ e. (f.up c.size e).list);
      down_list = fitted_holds IsFieldList (down_size sizes s.kind) down c.size (λ e. (f.down c.size e).list);
      fallback = λ t. fitted_holds (HasRoomForOrder c.size) (down_size sizes s.kind) down c.size (f.room t c.size);
    }

-- and its REGs are inside the slot and the carrier
inside_watch : (cell : RawCell) (h : Handset) (s : SearchSet) (sizes : Sizes) (c : Candidate) → IsLegalHandset cell h
    → IsLegalSearchSet h s
    → IsIn c (candidates_of cell h sizes s) → IsInside cell.blocks (watch_of cell h sizes s c)
unfolding watch_of
inside_watch cell h s sizes c there known i j k =
    let r = resources_in cell.cell h.downlink.start (coreset_of h s) in
    let p = candidate-placed cell h s sizes c known i in
    let w = candidate_within r c.start c.level cell.blocks (set_below cell h s there known) j k in
    let e = known.ends c.symbol (let n = p.symbol in omega (arith, n)) p.begins in
    (let x = w.0 in omega (arith, e, x), w.1)

-- the watches of some sets of the handset
pub record IsWatch (cell : RawCell) (h : Handset) (sizes : Sizes) (w : Watch) : Type 0 where
  pub place : ℕ
  pub candidate : Candidate
  pub within : place < length h.sets.items
  pub listed : IsIn candidate (candidates_of cell h sizes (set_at h place))
  pub is : w ≡ watch_of cell h sizes (set_at h place) candidate

-- each watch of some sets is that of a candidate of one of them
pub in_watches : (cell : RawCell) (h : Handset) (sizes : Sizes) (places : List ℕ) (w : Watch)
    → ((place : ℕ) → IsIn place places → place < length h.sets.items)
    → IsIn w (watches_of cell h sizes places) → IsWatch cell h sizes w
unfolding watches_of set_watches
in_watches cell h sizes places w below i =
    let (place, j, k) = in_flat_map (λ p. set_watches cell h sizes (set_at h p)) w places i in
    let (c, l, e) = in_map (watch_of cell h sizes (set_at h place)) w (candidates_of cell h sizes (set_at h place)) k in
    record { place = place; candidate = c; within = below place j; listed = l; is = e }

-- two lists of one format that are there
list_there : (own : Option ℕ) (rows : List FieldRow) (size : ℕ) → is_some (list_at own rows size) ≡ true
    → (own ≡ Some size) × (list_at own rows size ≡ Some (fitted rows size))
list_there None rows size e = absurd (cc)
list_there (Some n) rows size e = by (n == size) refl e
  where
    by : (b : Bool) → (n == size) ≡ b → is_some (cond b (Some (fitted rows size)) None) ≡ true
        → (◌≡◌ {A = Option ℕ} (Some n) (Some size)) × (cond b (Some (fitted rows size)) None ≡ Some (fitted rows size))
    by true f g = (ap (λ (k : ℕ). Some k) (eqb-true n size f), refl)
    by false f g = absurd (cc)

list_same : (own : Option ℕ) (rows : List FieldRow) (m n : ℕ) → is_some (list_at own rows m) ≡ true
    → is_some (list_at own rows n) ≡ true
    → (list_at own rows m ≡ list_at own rows n) × (m ≡ n)
list_same own rows m n h k =
    let (a, b) = list_there own rows m h in
    let (c, d) = list_there own rows n k in
    let same : m ≡ n = some-once m n (sym a ∙ c) in
    (ap (λ (x : ℕ). list_at own rows x) same, same)
  where
    some-once : (m n : ℕ) → ◌≡◌ {A = Option ℕ} (Some m) (Some n) → m ≡ n
    some-once m n e = cc

-- two watches of one set that a format fits
alike_watches : (cell : RawCell) (h : Handset) (sizes : Sizes) (s : SearchSet) (c d : Candidate) (format : Format)
    → fits (watch_of cell h sizes s c) format ≡ true → fits (watch_of cell h sizes s d) format ≡ true
    → (list_of (watch_of cell h sizes s c) format ≡ list_of (watch_of cell h sizes s d) format)
    × ((watch_of cell h sizes s c).size ≡ (watch_of cell h sizes s d).size)
unfolding watch_of
alike_watches cell h sizes s c d F00 f g =
    let (a, b) = list_same (up_size sizes s.kind) (rows_of cell h (up_format s.kind) (widths_in sizes s.kind)) c.size d.size
    (and_parts (is_for_fallback s.kind) _ f).1 (and_parts (is_for_fallback s.kind) _ g).1 in
    (ap (λ (o : Option (List FieldRow)). unwrap_or o []) a, b)
alike_watches cell h sizes s c d F10 f g =
    let (a, b) = list_same (down_size sizes s.kind) (rows_of cell h (down_format s.kind) (widths_in sizes s.kind)) c.size
    d.size (and_parts (is_for_fallback s.kind) _ f).1 (and_parts (is_for_fallback s.kind) _ g).1 in
    (ap (λ (o : Option (List FieldRow)). unwrap_or o []) a, b)
alike_watches cell h sizes s c d Order f g =
    let (a, b) = list_same (down_size sizes s.kind) (rows_of cell h (down_format s.kind) (widths_in sizes s.kind)) c.size
    d.size (and_parts (is_for_fallback s.kind) _ f).1 (and_parts (is_for_fallback s.kind) _ g).1 in
    (ap (λ (o : Option (List FieldRow)). order_of (unwrap_or o [])) a, b)
alike_watches cell h sizes s c d F01 f g =
    let (a, b) = list_same (up_size sizes s.kind) (rows_of cell h (up_format s.kind) (widths_in sizes s.kind)) c.size d.size
    (and_parts (is_specific s.kind) _ f).1 (and_parts (is_specific s.kind) _ g).1 in
    (ap (λ (o : Option (List FieldRow)). unwrap_or o []) a, b)
alike_watches cell h sizes s c d F11 f g =
    let (a, b) = list_same (down_size sizes s.kind) (rows_of cell h (down_format s.kind) (widths_in sizes s.kind)) c.size
    d.size (and_parts (is_specific s.kind) _ f).1 (and_parts (is_specific s.kind) _ g).1 in
    (ap (λ (o : Option (List FieldRow)). unwrap_or o []) a, b)

-- what holds of the watches of some sets of a handset of a legal cell
pub all_sound : (cell : RawCell) (h : Handset) (places : List ℕ) → IsLegalCell cell → IsLegalHandset cell h
    → ((place : ℕ) → IsIn place places → place < length h.sets.items) → All IsSound (watches_of cell h (sizes_of cell h) places)
all_sound cell h places legal there below k d n =
    let watches = watches_of cell h (sizes_of cell h) places in
    let w = in_watches cell h (sizes_of cell h) places (get_or watches k d) below (at_in watches k d n) in
    subst IsSound (sym w.is)
    (sound_watch cell h (set_at h w.place) w.candidate legal there (there.sets w.place w.within) w.listed)

-- they are inside the slot and the carrier
pub all_inside : (cell : RawCell) (h : Handset) (places : List ℕ) → IsLegalHandset cell h
    → ((place : ℕ) → IsIn place places → place < length h.sets.items)
    → All (IsInside cell.blocks) (watches_of cell h (sizes_of cell h) places)
all_inside cell h places there below k d n =
    let watches = watches_of cell h (sizes_of cell h) places in
    let w = in_watches cell h (sizes_of cell h) places (get_or watches k d) below (at_in watches k d n) in
    subst (IsInside cell.blocks) (sym w.is)
    (inside_watch cell h (set_at h w.place) (sizes_of cell h) w.candidate there (there.sets w.place w.within) w.listed)

watch-number : (cell : RawCell) (h : Handset) (sizes : Sizes) (s : SearchSet) (c : Candidate)
    → (watch_of cell h sizes s c).set ≡ s.number
unfolding watch_of
watch-number cell h sizes s c = refl

-- and those of one set are alike
pub all_alike : (cell : RawCell) (h : Handset) (sizes : Sizes) (places : List ℕ) → IsLegalHandset cell h
    → ((place : ℕ) → IsIn place places → place < length h.sets.items) → AreAlike (watches_of cell h sizes places)
all_alike cell h sizes places there below i j format m n same f g =
    let watches = watches_of cell h sizes places in
    let w = in_watches cell h sizes places (watch_at watches i) below (at_in watches i no_watch m) in
    let v = in_watches cell h sizes places (watch_at watches j) below (at_in watches j no_watch n) in
    let number : (set_at h w.place).number ≡ (set_at h v.place).number =
    sym (ap (λ (x : Watch). x.set) w.is ∙ watch-number cell h sizes (set_at h w.place) w.candidate)
    ∙ same ∙ (ap (λ (x : Watch). x.set) v.is ∙ watch-number cell h sizes (set_at h v.place) v.candidate) in
    let place = there.set_numbers w.place v.place w.within v.within number in
    let vis : watch_at watches j ≡ watch_of cell h sizes (set_at h w.place) v.candidate =
    v.is ∙ ap (λ (p : ℕ). watch_of cell h sizes (set_at h p) v.candidate) (sym place) in
    let (a, b) = alike_watches cell h sizes (set_at h w.place) w.candidate v.candidate format
    (subst (λ (x : Watch). fits x format ≡ true) w.is f) (subst (λ (x : Watch). fits x format ≡ true) vis g) in (
      ap (λ (x : Watch). list_of x format) w.is ∙ a ∙ sym (ap (λ (x : Watch). list_of x format) vis),
      ap (λ (x : Watch). x.size) w.is ∙ b ∙ sym (ap (λ (x : Watch). x.size) vis),
    )
