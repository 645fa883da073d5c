-- The formats of each kind of set fit their sizes.
use Rattle.std.proofs.Common.{◌≡◌, ℕ, ◌+◌, ◌-◌, ◌<◌, ◌≤◌, Bool, true, false, ◌&&◌, cond, nat_eq, Option, Some, None}
use Rattle.std.proofs.Common.{is_some, IfSome, List, [], ◌∷◌, map, refl, sym, ◌∙◌, ap, subst, arith}
use Rattle.std.proofs.lemmas.Bool.{eqb-true, cond_both}
use Rattle.rrc_settings.specs.declared.settings.RawCell.{RawCell}
use Rattle.rrc_settings.specs.declared.settings.Handset.{Handset}
use Rattle.rrc_settings.specs.declared.settings.UplinkFields.{UplinkFields}
use Rattle.rrc_settings.specs.declared.settings.DownlinkFields.{DownlinkFields}
use Rattle.rrc_settings.specs.declared.settings.SetKind.{SetKind}
use Rattle.rrc_settings.specs.declared.settings.SetKind.TheVariants as kinds
use Rattle.rrc_settings.specs.SetKinds.{is_specific}
use Rattle.dci_fields.specs.declared.formats.Format.TheVariants.{F00, F10}
use Rattle.dci_fields.specs.declared.formats.Widths.{Widths}
use Rattle.dci_fields.specs.declared.formats.Widths.TheVariants.{Common, Own}
use Rattle.dci_fields.specs.declared.names.FieldName.TheVariants as names
use Rattle.dci_fields.specs.declared.rows.FieldRow.{FieldRow}
use Rattle.dci_fields.specs.declared.sizes.Sizes.{Sizes}
use Rattle.rrc_settings.specs.LegalCell.{IsLegalBwp, IsLegalUplink, IsLegalDownlink, IsLegalHandset, IsLegalCell}
use Rattle.dci_fields.specs.SameNames.{same_name}
use Rattle.dci_fields.specs.FieldLists.{width_of, IsFieldList}
use Rattle.dci_fields.specs.Assignments.{span_bits, downlink_blocks, uplink_blocks}
use Rattle.dci_fields.specs.FormatRows.{row, rows_00, rows_10, rows_of, uplink_rows, downlink_rows}
use Rattle.dci_fields.specs.FittedRows.{excess, fdra_of, cut_row, fitted, HasRoomForOrder}
use Rattle.dci_fields.specs.Alignment.{has_set, raw_size, where_monitored, common_size, fallback_size, told_apart}
use Rattle.dci_fields.specs.Alignment.{are_few, sizes_apart, sizes_joined, sizes_of}
use Rattle.dci_fields.proofs.RowLists.{fitted_is_list}
use Rattle.dci_fields.specs.FormatsOfSets.{is_for_fallback, up_format, down_format, up_size, down_size, widths_in}
use Rattle.dci_fields.proofs.SpanWidths.{IsSpanWidth, span_width}
use Rattle.dci_fields.proofs.BlockCounts.{downlink_count, uplink_count}
use Rattle.dci_fields.proofs.FormatWidths.{width_00, width_10}
use Rattle.dci_fields.proofs.FormatLists.{list_00, list_10, IsFormat, format_01, format_11}

-- rows that fit a size
pub record Fit (rows : List FieldRow) (size : ℕ) : Type 0 where
  pub cut : excess rows size < fdra_of rows
  pub within : width_of (fitted rows size) ≤ size
  pub list : IsFieldList (fitted rows size)
  pub least : 23 ≤ size
  pub most : size ≤ 84

-- rows that need no cut
same_rows : (rows : List FieldRow) → map (cut_row 0) rows ≡ rows
same_rows [] = refl
same_rows (r ∷ rs) =
    ap (λ (x : FieldRow). x ∷ map (cut_row 0) rs) (same_row (same_name r.name names.Fdra) r) ∙ ap (λ xs. r ∷ xs) (same_rows rs)
  where
    same_row : (b : Bool) (r : FieldRow) → cond b (row r.name (r.width - 0)) r ≡ r
    same_row true r = ap (λ (n : ℕ). row r.name n) (let z : r.width - 0 ≡ r.width = omega arith in z)
    same_row false r = refl

no_cut : (rows : List FieldRow) (size : ℕ) → IsFieldList rows → width_of rows ≤ size → 0 < fdra_of rows → 23 ≤ size
    → size ≤ 84 → Fit rows size
no_cut rows size list h some least most =
    let none : excess rows size ≡ 0 = omega (arith, h) in
    let same : fitted rows size ≡ rows = ap (λ n. map (cut_row n) rows) none ∙ same_rows rows in
    record {
      cut = subst (λ n. n < fdra_of rows) (sym none) some;
      within = subst (λ xs. width_of xs ≤ size) (sym same) h;
      list = subst IsFieldList (sym same) list;
      least = least;
      most = most;
    }

-- format 0_0 at a size of its own or of format 1_0
fit_00 : (f g size : ℕ) → IsSpanWidth f → IsSpanWidth g → 28 + g ≤ size → size ≤ 84 → Fit (rows_00 f) size
fit_00 f g size h k l m =
    let a = h.least in let b = h.most in let c = k.least in
    let w = width_00 f in
    let cut : excess (rows_00 f) size < fdra_of (rows_00 f) = omega (arith, w, a, b, c, l) in
    record {
      cut = cut;
      within = omega (arith, a, b, c, l);
      list = fitted_is_list (rows_00 f) size (list_00 f h) cut;
      least = omega (arith, c, l);
      most = m;
    }

-- format 1_0
fit_10 : (g size : ℕ) → IsSpanWidth g → 28 + g ≤ size → size ≤ 84 → Fit (rows_10 g) size
fit_10 g size k l m =
    let c = k.least in
    no_cut (rows_10 g) size (list_10 g k) (let w = width_10 g in omega (arith, w, l)) (omega (arith, c)) (omega (arith, c, l)) m

-- rows fit where a size is theirs
abbrev pub Fits : Option ℕ → List FieldRow → Type 0
Fits own rows = (size : ℕ) → own ≡ Some size → Fit rows size

monitored : (b : Bool) (n size : ℕ) → where_monitored b n ≡ Some size → n ≡ size
monitored true n size e = cc
monitored false n size e = absurd (cc)

none-fits : (rows : List FieldRow) (b : Bool) (n : ℕ) → Fit rows n → Fits (where_monitored b n) rows
none-fits rows b n f size e = subst (λ k. Fit rows k) (monitored b n size e) f

-- the widths of the fallback formats
down_span : (cell : RawCell) (h : Handset) (widths : Widths) → IsLegalCell cell → IsLegalHandset cell h
    → IsSpanWidth (span_bits (downlink_blocks cell h widths))
down_span cell h widths a b = span_width (downlink_blocks cell h widths) (downlink_count cell h widths a b)

up_span : (cell : RawCell) (h : Handset) (widths : Widths) → IsLegalCell cell → IsLegalHandset cell h
    → IsSpanWidth (span_bits (uplink_blocks cell h widths))
up_span cell h widths a b = span_width (uplink_blocks cell h widths) (uplink_count cell h widths a b)

-- both fallback formats at a size that is at least that of format 1_0
pub record FallbackFit (cell : RawCell) (h : Handset) (widths : Widths) (size : ℕ) : Type 0 where
  pub up : Fit (rows_of cell h F00 widths) size
  pub down : Fit (rows_of cell h F10 widths) size
  pub room : HasRoomForOrder size (fitted (rows_of cell h F10 widths) size)

fallback_fit : (cell : RawCell) (h : Handset) (widths : Widths) (size : ℕ) → IsLegalCell cell → IsLegalHandset cell h
    → raw_size cell h F10 widths ≤ size → size ≤ 84 → FallbackFit cell h widths size
fallback_fit cell h widths size a b l m =
    let f = span_bits (uplink_blocks cell h widths) in
    let g = span_bits (downlink_blocks cell h widths) in
    let w = width_10 g in
    let least : 28 + g ≤ size = omega (arith, w, l) in
    record {
      up = fit_00 f g size (up_span cell h widths a b) (down_span cell h widths a b) least m;
      down = fit_10 g size (down_span cell h widths a b) least m;
      room = (refl, refl, omega (arith, least));
    }

common_fit : (cell : RawCell) (h : Handset) → IsLegalCell cell → IsLegalHandset cell h
    → FallbackFit cell h Common (common_size cell h)
common_fit cell h a b =
    let g = down_span cell h Common a b in
    let w = width_10 (span_bits (downlink_blocks cell h Common)) in
    fallback_fit cell h Common (common_size cell h) a b (omega arith) (let m = g.most in omega (arith, w, m))

-- the size of sets of fallback
fallback_most : (cell : RawCell) (h : Handset) → IsLegalCell cell → IsLegalHandset cell h → fallback_size cell h ≤ 44
fallback_most cell h a b =
    let u = up_span cell h Own a b in
    let d = down_span cell h Own a b in
    let v = width_00 (span_bits (uplink_blocks cell h Own)) in
    let w = width_10 (span_bits (downlink_blocks cell h Own)) in
    let m = u.most in let n = d.most in
    omega (arith, v, w, m, n)

own_fit : (cell : RawCell) (h : Handset) → IsLegalCell cell → IsLegalHandset cell h
    → FallbackFit cell h Own (fallback_size cell h)
own_fit cell h a b =
    fallback_fit cell h Own (fallback_size cell h) a b (omega arith) (let m = fallback_most cell h a b in omega (arith, m))

-- the other formats, told apart from those of fallback or not
told_within : (m : Bool) (fallback size : ℕ) → fallback ≤ 44 → size ≤ 84
    → (size ≤ told_apart m fallback size) × (told_apart m fallback size ≤ 84)
told_within m fallback size h k = by (m && nat_eq size fallback) refl
  where
    by : (b : Bool) → (m && nat_eq size fallback) ≡ b → (size ≤ cond b (size + 1) size) × (cond b (size + 1) size ≤ 84)
    by true e = (omega arith, let s = same m e in omega (arith, s, h))
      where
        same : (m : Bool) → (m && nat_eq size fallback) ≡ true → size ≡ fallback
        same true e = eqb-true size fallback e
        same false e = absurd (cc)
    by false e = (omega arith, omega (arith, k))

-- the rows of formats 0_1 and 1_1
up_other : (h : Handset) (o : Option UplinkFields) → IsLegalBwp h.uplink → IfSome o (IsLegalUplink h.codebook)
    → is_some o ≡ true → IsFormat 74 (uplink_rows h o)
up_other h None b s e = absurd (cc)
up_other h (Some f) b s e = format_01 h.codebook h.uplink f b s

down_other : (h : Handset) (o : Option DownlinkFields) → IsLegalBwp h.downlink → IfSome o IsLegalDownlink → is_some o ≡ true
    → IsFormat 84 (downlink_rows h o)
down_other h None b s e = absurd (cc)
down_other h (Some f) b s e = format_11 h.codebook h.downlink f b s

-- a size from theirs on
other_fit : (rows : List FieldRow) (n size : ℕ) → IsFormat n rows → width_of rows ≤ size → size ≤ 84 → Fit rows size
other_fit rows n size o l m = no_cut rows size o.list l o.some (let a = o.least in omega (arith, a, l)) m

told_fit : (rows : List FieldRow) (n : ℕ) (m : Bool) (fallback : ℕ) → n ≤ 84 → fallback ≤ 44 → IsFormat n rows
    → Fit rows (told_apart m fallback (width_of rows))
told_fit rows n m fallback l f o =
    let t = told_within m fallback (width_of rows) f (let k = o.most in omega (arith, k, l)) in
    other_fit rows n (told_apart m fallback (width_of rows)) o t.0 t.1

raw_fit : (rows : List FieldRow) (n : ℕ) → n ≤ 84 → IsFormat n rows → Fit rows (width_of rows)
raw_fit rows n l o = other_fit rows n (width_of rows) o (omega arith) (let k = o.most in omega (arith, k, l))

-- what holds of two formats with their sizes, where these are monitored, and of the second where it is one of fallback
pub record FormatsFit (up_size down_size : Option ℕ) (up_rows down_rows : List FieldRow) (fallback : Bool) : Type 0 where
  pub up : Fits up_size up_rows
  pub down : Fits down_size down_rows
  pub room : fallback ≡ true → (size : ℕ) → down_size ≡ Some size → HasRoomForOrder size (fitted down_rows size)

-- what holds of the formats of a kind of set
abbrev pub SetFit : RawCell → Handset → Sizes → SetKind → Type 0
SetFit cell h sizes kind =
    FormatsFit (up_size sizes kind) (down_size sizes kind) (rows_of cell h (up_format kind) (widths_in sizes kind))
    (rows_of cell h (down_format kind) (widths_in sizes kind)) (is_for_fallback kind)

-- a kind of set has the fields that its formats ask for
pub record HasFields (h : Handset) (kind : SetKind) : Type 0 where
  pub up : is_specific kind ≡ true → is_some h.uplink_fields ≡ true
  pub down : is_specific kind ≡ true → is_some h.downlink_fields ≡ true

room-at : (b : Bool) (n : ℕ) (rows : List FieldRow) → HasRoomForOrder n (fitted rows n) → (size : ℕ)
    → where_monitored b n ≡ Some size → HasRoomForOrder size (fitted rows size)
room-at b n rows h size e = subst (λ k. HasRoomForOrder k (fitted rows k)) (monitored b n size e) h

-- both fallback formats, where their size is monitored
fallback_set : (cell : RawCell) (h : Handset) (widths : Widths) (b : Bool) (n : ℕ) → FallbackFit cell h widths n
    → FormatsFit (where_monitored b n) (where_monitored b n) (rows_of cell h F00 widths) (rows_of cell h F10 widths) true
fallback_set cell h widths b n f = record {
  up = none-fits (rows_of cell h F00 widths) b n f.up;
  down = none-fits (rows_of cell h F10 widths) b n f.down;
  room = λ t. room-at b n (rows_of cell h F10 widths) f.room;
}

-- both specific formats, where their sizes are monitored
specific_set : (up down : List FieldRow) (b : Bool) (m n : ℕ) → Fit up m → Fit down n
    → FormatsFit (where_monitored b m) (where_monitored b n) up down false
specific_set up down b m n f g = record {
  up = none-fits up b m f;
  down = none-fits down b n g;
  room = λ t. absurd (cc);
}

apart_fit : (cell : RawCell) (h : Handset) (kind : SetKind) → IsLegalCell cell → IsLegalHandset cell h → HasFields h kind
    → SetFit cell h (sizes_apart cell h) kind
apart_fit cell h kinds.Common a b f =
    fallback_set cell h Common (has_set h kinds.Common) (common_size cell h) (common_fit cell h a b)
apart_fit cell h kinds.Fallback a b f =
    fallback_set cell h Own (has_set h kinds.Fallback) (fallback_size cell h) (own_fit cell h a b)
apart_fit cell h kinds.Specific a b f =
    let m = has_set h kinds.Fallback in
    let fallback = fallback_size cell h in
    let up = uplink_rows h h.uplink_fields in
    let down = downlink_rows h h.downlink_fields in
    let most = fallback_most cell h a b in
    specific_set up down (has_set h kinds.Specific) (told_apart m fallback (width_of up)) (told_apart m fallback (width_of down))
    (told_fit up 74 m fallback (omega arith) most (up_other h h.uplink_fields b.uplink b.uplink_fields (f.up refl)))
    (told_fit down 84 m fallback (omega arith) most (down_other h h.downlink_fields b.downlink b.downlink_fields (f.down refl)))

joined_fit : (cell : RawCell) (h : Handset) (kind : SetKind) → IsLegalCell cell → IsLegalHandset cell h → HasFields h kind
    → SetFit cell h (sizes_joined cell h) kind
joined_fit cell h kinds.Common a b f =
    fallback_set cell h Common (has_set h kinds.Common) (common_size cell h) (common_fit cell h a b)
joined_fit cell h kinds.Fallback a b f =
    fallback_set cell h Common (has_set h kinds.Fallback) (common_size cell h) (common_fit cell h a b)
joined_fit cell h kinds.Specific a b f =
    let up = uplink_rows h h.uplink_fields in
    let down = downlink_rows h h.downlink_fields in
    specific_set up down (has_set h kinds.Specific) (width_of up) (width_of down)
    (raw_fit up 74 (omega arith) (up_other h h.uplink_fields b.uplink b.uplink_fields (f.up refl)))
    (raw_fit down 84 (omega arith) (down_other h h.downlink_fields b.downlink b.downlink_fields (f.down refl)))

-- each format of each kind of set fits its size
pub set_fit : (cell : RawCell) (h : Handset) (kind : SetKind) → IsLegalCell cell → IsLegalHandset cell h → HasFields h kind
    → SetFit cell h (sizes_of cell h) kind
unfolding sizes_of
set_fit cell h kind a b f =
    cond_both (are_few (sizes_apart cell h)) (sizes_apart cell h) (sizes_joined cell h) (λ sizes. SetFit cell h sizes kind)
    (λ _. apart_fit cell h kind a b f) (λ _. joined_fit cell h kind a b f)
