-- What a grid spells at a watch: it is found among all spellings, and there is one at most.
use Rattle.std.proofs.Common.{◌≡◌, ℕ, Bool, true, false, cond, List, [], ◌∷◌, Option, Some, None, map, refl, ap, sym, subst, ◌∙◌}
use Rattle.std.specs.List.{flat_map, find, Contains}
use Rattle.std.proofs.lemmas.Bool.{and_from, and_parts}
use Rattle.std.proofs.lemmas.List.Elements.{Contains-append_left, Contains-append_right}
use Rattle.crc_mask.specs.Parity.{masked}
use Rattle.dci_fields.specs.declared.formats.Format.{Format}
use Rattle.dci_fields.specs.declared.formats.Format.TheVariants.{F00, F10, Order, F01, F11}
use Rattle.dci_fields.specs.Payloads.{payload_of}
use Rattle.dci_fields.proofs.PayloadsOfRows.{length-payload_of, values_once}
use Rattle.monitor_plan.specs.declared.watch.Watch.{Watch}
use Rattle.monitor_plan.specs.Watch.{fits, list_of, IsSound}
use Rattle.slot_grid.specs.Grid.{GridValue}
use Rattle.table_files.specs.declared.tables.Tables.{Tables}
use Rattle.dci_codec.specs.AllValues.{all_values}
use Rattle.dci_codec.specs.BlockImage.{block_image}
use Rattle.dci_codec.specs.Hearing.{AreTables, IsCarried, Spells}
use Rattle.dci_codec.specs.Spelling.{Spelling}
use Rattle.dci_codec.specs.TheSpelling.{FindsWhatIsSpelled, TestsWhatIsSpelled, all_spellings, has_image, has_payload}
use Rattle.dci_codec.specs.TheSpelling.{is_the_spelling, the_spelling}
use Rattle.dci_codec.proofs.Agreements.{has_image_to, has_image_from}
use Rattle.dci_codec.proofs.Carriers.{carried_once}
use Rattle.dci_codec.proofs.FieldValues.{payload_among, find_only, mapped}
use Rattle.dci_codec.proofs.WatchLists.{list_width, one_format}
use Rattle.list_facts.proofs.Tests.{found_passes}

-- a payload that a grid carries, by the test
record CarriesOne (tables : Tables) (grid : GridValue) (watch : Watch) (found : Option (List Bool)) : Type 0 where
  payload : List Bool
  is : found ≡ Some payload
  agree : has_image grid watch (block_image tables grid.slot watch (masked payload watch.rnti)) ≡ true

carries_one : (tables : Tables) (grid : GridValue) (watch : Watch) (found : Option (List Bool))
    → has_payload tables grid watch found ≡ true → CarriesOne tables grid watch found
carries_one tables grid watch None h = absurd (let f : ⊥ = cc in f)
carries_one tables grid watch (Some payload) h = record { payload = payload; is = refl; agree = h }

-- what passes the test of spelling is spelled
pub spells_to : (tables : Tables) (grid : GridValue) (w : Watch) (s : Spelling)
    → is_the_spelling tables grid w s ≡ true → Spells tables grid w s
spells_to tables grid w s e =
    let parts =
    and_parts (fits w s.format) (has_payload tables grid w (payload_of (list_of w s.format) s.format s.values w.size)) e
    in
    let one = carries_one tables grid w (payload_of (list_of w s.format) s.format s.values w.size) parts.1 in
    record {
      fitting = parts.0;
      payload = one.payload;
      packs = one.is;
      agrees = has_image_to tables grid grid.slot w (masked one.payload w.rnti) one.agree;
    }

-- and what is spelled passes
pub spells_from : (tables : Tables) (grid : GridValue) (w : Watch) (s : Spelling) → Spells tables grid w s
    → is_the_spelling tables grid w s ≡ true
spells_from tables grid w s h =
    and_from (fits w s.format) (has_payload tables grid w (payload_of (list_of w s.format) s.format s.values w.size)) h.fitting
    (ap (has_payload tables grid w) h.packs
    ∙ has_image_from grid w (block_image tables grid.slot w (masked h.payload w.rnti)) h.agrees)

-- at every watch
pub tests_what_is_spelled : TestsWhatIsSpelled
tests_what_is_spelled tables grid w s = (spells_to tables grid w s, spells_from tables grid w s)

-- the payload of what is spelled is carried
pub carried_of : (tables : Tables) (grid : GridValue) (w : Watch) (s : Spelling) → IsSound w → (h : Spells tables grid w s)
    → IsCarried tables grid w h.payload
carried_of tables grid w s keeps h = (
  length-payload_of (list_of w s.format) s.format s.values w.size h.payload (list_width w s.format keeps h.fitting)
      h.packs,
  h.agrees,
)

-- a format with values
abbrev pub spelling_of : Format → List ℕ → Spelling
spelling_of format values = record { format = format; values = values }

-- a grid spells one thing at most
pub spells_once : (tables : Tables) (grid : GridValue) (w : Watch) (s other : Spelling) → AreTables tables → IsSound w
    → Spells tables grid w s
    → Spells tables grid w other → s ≡ other
spells_once tables grid w s other legal keeps h g =
    let same : g.payload ≡ h.payload = carried_once tables grid w g.payload h.payload legal keeps.carrying
    (carried_of tables grid w other keeps g) (carried_of tables grid w s keeps h) in
    let packs : payload_of (list_of w other.format) other.format other.values w.size ≡ Some h.payload =
    g.packs ∙ ap (λ (p : List Bool). Some p) same in
    let one : s.format ≡ other.format = one_format w s.format other.format s.values other.values h.payload keeps h.fitting
    g.fitting h.packs packs in
    ap (λ (f : Format). spelling_of f s.values) one
    ∙ ap (spelling_of other.format)
    (values_once (list_of w s.format) s.format other.format s.values other.values w.size w.size h.payload h.packs
    (let P : Format → Type 0 = λ f. payload_of (list_of w f) other.format other.values w.size ≡ Some h.payload in subst P
    (sym one) packs))

abbrev spellings_in : Watch → Format → List Spelling
spellings_in w format = map (spelling_of format) (all_values (list_of w format))

among_own : (w : Watch) (format : Format) (values : List ℕ) → Contains (all_values (list_of w format)) values
    → Contains (spellings_in w format) (spelling_of format values)
among_own w format values h = mapped (spelling_of format) (all_values (list_of w format)) values h

-- values that fit a format's rows, with it, are among all spellings
spelling_among : (w : Watch) (format : Format) (values : List ℕ) → Contains (all_values (list_of w format)) values
    → Contains (all_spellings w) (spelling_of format values)
unfolding all_spellings
spelling_among w F00 values h =
    Contains-append_left (spellings_in w F00) (flat_map (spellings_in w) (F10 ∷ Order ∷ F01 ∷ F11 ∷ []))
    (spelling_of F00 values) (among_own w F00 values h)
spelling_among w F10 values h =
    Contains-append_right (spellings_in w F00) (flat_map (spellings_in w) (F10 ∷ Order ∷ F01 ∷ F11 ∷ [])) (spelling_of F10 values)
    (Contains-append_left (spellings_in w F10) (flat_map (spellings_in w) (Order ∷ F01 ∷ F11 ∷ [])) (spelling_of F10 values)
    (among_own w F10 values h))
spelling_among w Order values h =
    Contains-append_right (spellings_in w F00) (flat_map (spellings_in w) (F10 ∷ Order ∷ F01 ∷ F11 ∷ []))
    (spelling_of Order values)
    (Contains-append_right (spellings_in w F10) (flat_map (spellings_in w) (Order ∷ F01 ∷ F11 ∷ [])) (spelling_of Order values)
    (Contains-append_left (spellings_in w Order) (flat_map (spellings_in w) (F01 ∷ F11 ∷ [])) (spelling_of Order values)
    (among_own w Order values h)))
spelling_among w F01 values h =
    Contains-append_right (spellings_in w F00) (flat_map (spellings_in w) (F10 ∷ Order ∷ F01 ∷ F11 ∷ [])) (spelling_of F01 values)
    (Contains-append_right (spellings_in w F10) (flat_map (spellings_in w) (Order ∷ F01 ∷ F11 ∷ [])) (spelling_of F01 values)
    (Contains-append_right (spellings_in w Order) (flat_map (spellings_in w) (F01 ∷ F11 ∷ [])) (spelling_of F01 values)
    (Contains-append_left (spellings_in w F01) (flat_map (spellings_in w) (F11 ∷ [])) (spelling_of F01 values)
    (among_own w F01 values h))))
spelling_among w F11 values h =
    Contains-append_right (spellings_in w F00) (flat_map (spellings_in w) (F10 ∷ Order ∷ F01 ∷ F11 ∷ [])) (spelling_of F11 values)
    (Contains-append_right (spellings_in w F10) (flat_map (spellings_in w) (Order ∷ F01 ∷ F11 ∷ [])) (spelling_of F11 values)
    (Contains-append_right (spellings_in w Order) (flat_map (spellings_in w) (F01 ∷ F11 ∷ [])) (spelling_of F11 values)
    (Contains-append_right (spellings_in w F01) (flat_map (spellings_in w) (F11 ∷ [])) (spelling_of F11 values)
    (Contains-append_left (spellings_in w F11) [] (spelling_of F11 values) (among_own w F11 values h)))))

left_out : {X : Type 0} (b : Bool) (y : X) (rest : Option X) → (b ≡ true → ⊥) → rest ≡ None → cond b (Some y) rest ≡ None
left_out true y rest f e = absurd (f refl)
left_out false y rest f e = e

-- a search finds nothing where nothing passes
pub finds_none : {X : Type 0} (test : X → Bool) (xs : List X) → ((x : X) → test x ≡ true → ⊥) → find test xs ≡ None
finds_none test [] f = refl
finds_none test (y ∷ ys) f = left_out (test y) y (find test ys) (f y) (finds_none test ys f)

-- what the grid spells is found
pub spelled_some : (tables : Tables) (grid : GridValue) (w : Watch) (s : Spelling) → AreTables tables → IsSound w
    → Spells tables grid w s → the_spelling tables grid w ≡ Some s
unfolding the_spelling
spelled_some tables grid w s legal keeps g =
    find_only (is_the_spelling tables grid w) (all_spellings w) s
    (spelling_among w s.format s.values (payload_among (list_of w s.format) s.format s.values w.size g.payload g.packs))
    (spells_from tables grid w s g)
    (λ other e. spells_once tables grid w other s legal keeps (spells_to tables grid w other e) g)

-- and what is found is spelled
pub spelled_passes : (tables : Tables) (grid : GridValue) (w : Watch) (s : Spelling)
    → the_spelling tables grid w ≡ Some s → Spells tables grid w s
unfolding the_spelling
spelled_passes tables grid w s e = spells_to tables grid w s (found_passes (is_the_spelling tables grid w) (all_spellings w) s e)

-- where the grid spells nothing, nothing is found
pub spelled_none : (tables : Tables) (grid : GridValue) (w : Watch) → ((s : Spelling) → Spells tables grid w s → ⊥)
    → the_spelling tables grid w ≡ None
unfolding the_spelling
spelled_none tables grid w none =
    finds_none (is_the_spelling tables grid w) (all_spellings w) (λ s e. none s (spells_to tables grid w s e))

-- what is found is what the grid spells
pub finds_what_is_spelled : FindsWhatIsSpelled
finds_what_is_spelled tables grid w s legal keeps = (spelled_passes tables grid w s, spelled_some tables grid w s legal keeps)
