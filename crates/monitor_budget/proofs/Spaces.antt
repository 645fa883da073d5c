-- A set with all that its search needs, from its parts.
use Rattle.std.proofs.Common.{◌≡◌, ℕ, suc, ◌<◌, Bool, true, false, cond, IsSome, Some, None, List, [], ◌∷◌, length}
use Rattle.std.proofs.Common.{get_or, nat_eq, find}
use Rattle.std.proofs.Common.{Option, unwrap_or, refl, ap, sym, ◌∙◌, subst, arith}
use Rattle.std.proofs.lemmas.List.{get_or_default}
use Rattle.rrc_settings.specs.declared.settings.RawCell.{RawCell}
use Rattle.rrc_settings.specs.declared.settings.Handset.{Handset}
use Rattle.rrc_settings.specs.declared.settings.Coreset.{Coreset}
use Rattle.rrc_settings.specs.declared.settings.SearchSet.{SearchSet}
use Rattle.rrc_settings.specs.HandsetsOfCell.{no_handset, handset_at, no_coreset, coreset_at, coreset_numbered, coreset_of}
use Rattle.rrc_settings.specs.LegalCell.{IsLegalCell, IsLegalHandset, IsLegalSearchSet}
use Rattle.coreset_map.specs.ControlResources.{Resources, cce_count, AreBelow, AreResources}
use Rattle.coreset_map.specs.ResourcesOfCell.{resources_in}
use Rattle.coreset_map.proofs.LegalResources.{are_resources, are_below}
use Rattle.monitor_budget.specs.SetCandidates.{AreAsked}

-- an element that is found stands at a place
find-at : (p : Coreset → Bool) (xs : List Coreset) (c d : Coreset) → find p xs ≡ Some c
    → (k : ℕ) × (k < length xs) × (get_or xs k d ≡ c)
find-at p [] c d e = absurd (cc)
find-at p (x ∷ xs) c d e = by (p x) e (find-at p xs c d)
  where
    by : (b : Bool) → cond b (Some x) (find p xs) ≡ Some c
        → (find p xs ≡ Some c → (k : ℕ) × (k < length xs) × (get_or xs k d ≡ c))
        → (k : ℕ) × (k < length (x ∷ xs)) × (get_or (x ∷ xs) k d ≡ c)
    by true e later = (0, omega arith, cc)
    by false e later = let (k, l, f) = later e in (suc k, omega (arith, l), f)

there_is : (o : Option Coreset) → IsSome o → o ≡ Some (unwrap_or o no_coreset)
there_is None h = absurd (cc)
there_is (Some c) h = refl

-- the CORESET of a set is one of the handset's
coreset_there : (h : Handset) (s : SearchSet) → IsSome (coreset_numbered s.coreset h.coresets.items)
    → (k : ℕ) × (k < length h.coresets.items) × (coreset_at h k ≡ coreset_of h s)
coreset_there h s found =
    find-at (λ (c : Coreset). nat_eq c.number s.coreset) h.coresets.items (coreset_of h s) no_coreset
    (there_is (coreset_numbered s.coreset h.coresets.items) found)

-- the CORESET that has the set's number is the set's
coreset-found : (h : Handset) (s : SearchSet) (c : Coreset) → coreset_numbered s.coreset h.coresets.items ≡ Some c
    → c ≡ coreset_of h s
coreset-found h s c e = sym (ap (λ (o : Option Coreset). unwrap_or o no_coreset) e)

-- what the code reads of it is the set's
pub set-read : (cell raw : RawCell) (h : Handset) (s : SearchSet) (c : Coreset) → raw ≡ cell
    → coreset_numbered s.coreset h.coresets.items ≡ Some c
    → resources_in raw.cell h.downlink.start c ≡ resources_in cell.cell h.downlink.start (coreset_of h s)
set-read cell raw h s c e f =
    ap (λ (r : RawCell). resources_in r.cell h.downlink.start c) e
    ∙ ap (λ (x : Coreset). resources_in cell.cell h.downlink.start x) (coreset-found h s c f)

-- the CORESET of a set of a legal cell is one whose REGs can be told
pub set_resources : (cell : RawCell) (h : Handset) (s : SearchSet) → IsLegalCell cell → IsLegalHandset cell h
    → IsLegalSearchSet h s
    → AreResources (resources_in cell.cell h.downlink.start (coreset_of h s))
set_resources cell h s legal there known =
    let (k, n, e) = coreset_there h s known.found in
    subst (λ (c : Coreset). AreResources (resources_in cell.cell h.downlink.start c)) e
    (are_resources cell h (coreset_at h k) legal there (there.coresets k n))

-- it lies in the carrier
pub set_below : (cell : RawCell) (h : Handset) (s : SearchSet) → IsLegalHandset cell h → IsLegalSearchSet h s
    → AreBelow cell.blocks (resources_in cell.cell h.downlink.start (coreset_of h s))
set_below cell h s there known =
    let (k, n, e) = coreset_there h s known.found in
    subst (λ (c : Coreset). AreBelow cell.blocks (resources_in cell.cell h.downlink.start c)) e
    (are_below cell h (coreset_at h k) there (there.coresets k n))

-- and the set asks it for candidates that fit
pub set_asks : (cell : RawCell) (h : Handset) (s : SearchSet) (resources : Resources) → IsLegalSearchSet h s
    → resources ≡ resources_in cell.cell h.downlink.start (coreset_of h s) → AreAsked (cce_count resources) s.candidates
set_asks cell h s resources known e i below = (
  known.counts i,
  λ some. let asks = known.asked i below some in let count = ap cce_count e in omega (arith, asks, count),
)

-- the handset that is read at a place of a cell's list
pub handset-read : (cell raw : RawCell) (handsets : List Handset) (place : ℕ) (h : Handset) → raw ≡ cell → handsets ≡ raw.handsets
    → h ≡ get_or handsets place h → place < length cell.handsets → h ≡ handset_at cell place
handset-read cell raw handsets place h e f g l =
    g ∙ ap (λ xs. get_or xs place h) (f ∙ ap (λ (r : RawCell). r.handsets) e) ∙ get_or_default cell.handsets place h no_handset l
