-- The places of a watch are read one after another: up to the first bad one, or all of their bits.
use Rattle.std.proofs.Common.{◌≡◌, ℕ, zero, suc, ◌+◌, ◌*◌, ◌/◌, ◌%◌, ◌<◌, Bool, true, false, not, cond, List, [], ◌∷◌, ◌++◌}
use Rattle.std.proofs.Common.{Option, Some, None, option_map, length, refl, ap, sym, subst, ◌∙◌, arith}
use Rattle.std.specs.List.{range_with_len, flat_map, find}
use Rattle.std.proofs.lemmas.Bool.{not-false}
use Rattle.std.proofs.lemmas.List.{append-nil, flat_map_more}
use Rattle.std.proofs.lemmas.List.FromFn.{map-range_with_len_more}
use Rattle.list_facts.proofs.Tests.{true_not_false}
use Rattle.coreset_map.specs.declared.places.Reg.{Reg}
use Rattle.coreset_map.specs.declared.places.Spot.{Spot}
use Rattle.coreset_map.specs.DataPlaces.{is_reference}
use Rattle.coreset_map.specs.RegOrder.{reg_at}
use Rattle.dmrs_qpsk.specs.declared.taking.BadPlace.{BadPlace}
use Rattle.dmrs_qpsk.specs.declared.taking.Flaw.{Flaw}
use Rattle.dmrs_qpsk.specs.declared.taking.Flaw.TheVariants as flaw
use Rattle.dmrs_qpsk.specs.Held.{Holds, IsFirstBad, IsFlawed}
use Rattle.dmrs_qpsk.specs.Modulation.{point_of}
use Rattle.dmrs_qpsk.specs.ReferencePoints.{reference}
use Rattle.dmrs_qpsk.specs.PointsOnGrid.{reference_rank}
use Rattle.dmrs_qpsk.specs.Taken.{ArePointsTaken, IsPointTaken}
use Rattle.dmrs_qpsk.proofs.PointsRead.{all_taken, none_taken, one_taken_more}
use Rattle.dmrs_qpsk.proofs.Takes.{first_bad as first_flawed}
use Rattle.monitor_plan.specs.declared.watch.Watch.{Watch}
use Rattle.monitor_plan.specs.Watch.{IsCarrying}
use Rattle.slot_grid.specs.declared.places.Point.{Point}
use Rattle.slot_grid.specs.declared.places.Point.TheVariants.{Empty, P00, P01, P10, P11}
use Rattle.slot_grid.specs.Grid.{GridValue, point_at}
use Rattle.slot_grid.specs.Image.{is_point}
use Rattle.slot_grid.proofs.Agreements.{one_point, own_point}
use Rattle.dci_codec.specs.Answer.{bad_place, bits_at, bits_of_point, first_bad, is_bad, received}
use Rattle.dci_codec.specs.Silences.{IsReceived}
use Rattle.dci_codec.specs.WatchPlaces.{place_of, places}
use Rattle.dci_codec.proofs.Carriers.{received_from}
use Rattle.dci_codec.proofs.PlacesByNumber.{place_at, places_below, places_are}
use Rattle.dci_codec.proofs.Searches.{IsSearched, searched, find-map}

-- whether subcarrier k of a block is bad
abbrev bad_there : ℕ → ℕ → ℕ → Point → ℕ → ℕ → Bool
bad_there slot symbol id point block k =
    cond (is_reference k) (not (is_point (reference slot symbol id block (reference_rank k)) point)) (is_point Empty point)

abbrev bits_there : Point → ℕ → List Bool
bits_there point k = cond (is_reference k) [] (bits_of_point point)

abbrev flaw_there : ℕ → Flaw
flaw_there k = cond (is_reference k) flaw.Reference flaw.Empty

flawed_by : (slot symbol id block k : ℕ) (point : Point) (t : Bool) → is_reference k ≡ t
    → cond t (not (is_point (reference slot symbol id block (reference_rank k)) point)) (is_point Empty point) ≡ true
    → IsFlawed slot symbol id block k point (cond t flaw.Reference flaw.Empty)
flawed_by slot symbol id block k point true r e =
    let there = reference slot symbol id block (reference_rank k) in (
      r,
      λ same.
          true_not_false (not (is_point there point)) e (ap (λ p. not (is_point there p)) same ∙ ap not (own_point there)),
    )
flawed_by slot symbol id block k point false r e = (r, one_point Empty point e)

-- the point of two bits is theirs
record HasTwo (point : Point) : Type 0 where
  first : Bool
  second : Bool
  is : point ≡ point_of first second
  bits : bits_of_point point ≡ first ∷ second ∷ []

has_two : (point : Point) → is_point Empty point ≡ false → HasTwo point
has_two Empty e = absurd (true_not_false true refl e)
has_two P00 e = record { first = false; second = false; is = refl; bits = refl }
has_two P01 e = record { first = false; second = true; is = refl; bits = refl }
has_two P10 e = record { first = true; second = false; is = refl; bits = refl }
has_two P11 e = record { first = true; second = true; is = refl; bits = refl }

taken_by : (grid : GridValue) (symbol id block k : ℕ) (old : List Bool) (t : Bool) → is_reference k ≡ t
    → cond t (not (is_point (reference grid.slot symbol id block (reference_rank k)) (point_at grid symbol (12 * block + k))))
    (is_point Empty (point_at grid symbol (12 * block + k)))
    ≡ false
    → IsPointTaken grid symbol id block k old (old ++ cond t [] (bits_of_point (point_at grid symbol (12 * block + k))))
taken_by grid symbol id block k old true r e =
    let there = reference grid.slot symbol id block (reference_rank k) in
    let point = point_at grid symbol (12 * block + k) in
    record {
      reference_is = λ q. (one_point there point (not-false (is_point there point) e), append-nil old);
      data_is = λ q. absurd (true_not_false (is_reference k) r q);
    }
taken_by grid symbol id block k old false r e =
    let two = has_two (point_at grid symbol (12 * block + k)) e in
    record {
      reference_is = λ q. absurd (true_not_false (is_reference k) q r);
      data_is = λ q. (two.first, two.second, two.is, ap (λ (bits : List Bool). old ++ bits) two.bits);
    }

-- what is told of a place is told of its subcarrier in its block
bad_is_there : (grid : GridValue) (w : Watch) (reg : Reg) (k : ℕ) → k < 12
    → is_bad grid w (place_of w reg k)
    ≡ bad_there grid.slot (w.symbol + reg.symbol) w.dmrs_id (point_at grid (w.symbol + reg.symbol) (12 * reg.block + k))
    reg.block k
bad_is_there grid w reg k l =
    let symbol = w.symbol + reg.symbol in
    let point = point_at grid symbol (12 * reg.block + k) in
    let block : (12 * reg.block + k) / 12 ≡ reg.block = omega (arith, l) in
    let rest : (12 * reg.block + k) % 12 ≡ k = omega (arith, l) in
    ap (λ b. bad_there grid.slot symbol w.dmrs_id point b ((12 * reg.block + k) % 12)) block
    ∙ ap (λ i. bad_there grid.slot symbol w.dmrs_id point reg.block i) rest

rest_is : (block k : ℕ) → k < 12 → (12 * block + k) % 12 ≡ k
rest_is block k l = omega (arith, l)

-- the bits of the first n places
abbrev bits_below : GridValue → Watch → ℕ → List Bool
bits_below grid w n = flat_map (bits_at grid) (places_below w n)

bits_more : (grid : GridValue) (w : Watch) (n : ℕ)
    → bits_below grid w n ++ bits_at grid (place_at w n) ≡ bits_below grid w (n + 1)
bits_more grid w n =
    flat_map_more (bits_at grid) [] (places_below w n) (place_at w n)
    ∙ ap (flat_map (bits_at grid)) (sym (map-range_with_len_more (place_at w) 0 n n (omega arith)))

-- places that are not bad are read
one_taken : (grid : GridValue) (w : Watch) (n : ℕ) → is_bad grid w (place_at w n) ≡ false
    → ArePointsTaken grid w.symbol w.dmrs_id w.regs.items (bits_below grid w n) n
    → ArePointsTaken grid w.symbol w.dmrs_id w.regs.items (bits_below grid w (n + 1)) (n + 1)
one_taken grid w n e h =
    let reg = reg_at w.regs.items (n / 12) in
    let k = n % 12 in
    let symbol = w.symbol + reg.symbol in
    let point = point_at grid symbol (12 * reg.block + k) in
    let old = bits_below grid w n in
    let same : old ++ bits_there point k ≡ bits_below grid w (n + 1) =
    ap (λ i. old ++ bits_there point i) (sym (rest_is reg.block k (omega arith))) ∙ bits_more grid w n
    in
    one_taken_more grid w.symbol w.dmrs_id w.regs.items old (bits_below grid w (n + 1)) n h
    (subst (IsPointTaken grid symbol w.dmrs_id reg.block k old) same
    (taken_by grid symbol w.dmrs_id reg.block k old (is_reference k) refl (sym (bad_is_there grid w reg k (omega arith)) ∙ e)))

taken_below : (grid : GridValue) (w : Watch) (n : ℕ) → ((i : ℕ) → i < n → is_bad grid w (place_at w i) ≡ false)
    → ArePointsTaken grid w.symbol w.dmrs_id w.regs.items (bits_below grid w n) n
taken_below grid w zero h = none_taken grid w.symbol w.dmrs_id w.regs.items (bits_below grid w 0) refl
taken_below grid w (suc n) h =
    let P : ℕ → Type 0 = λ m. ArePointsTaken grid w.symbol w.dmrs_id w.regs.items (bits_below grid w m) m in
    subst P (omega arith) (one_taken grid w n (h n (omega arith)) (taken_below grid w n (λ i l. h i (omega (arith, l)))))

-- a bad place behind such is the first
bad_at : (grid : GridValue) (w : Watch) (n : ℕ) → IsCarrying w → n < 12 * length w.regs.items
    → is_bad grid w (place_at w n) ≡ true
    → ArePointsTaken grid w.symbol w.dmrs_id w.regs.items (bits_below grid w n) n
    → IsFirstBad grid w.symbol w.dmrs_id w.regs.items (bad_place (place_at w n))
bad_at grid w n keeps l e h =
    let reg = reg_at w.regs.items (n / 12) in
    let k = n % 12 in
    let symbol = w.symbol + reg.symbol in
    let point = point_at grid symbol (12 * reg.block + k) in
    let flawed : IsFlawed grid.slot symbol w.dmrs_id reg.block k point (flaw_there k) =
    flawed_by grid.slot symbol w.dmrs_id reg.block k point (is_reference k) refl
    (sym (bad_is_there grid w reg k (omega arith)) ∙ e)
    in
    first_flawed grid w.symbol w.dmrs_id w.regs.items (bits_below grid w n) n (12 * reg.block + k)
    (flaw_there ((12 * reg.block + k) % 12)) keeps.order l h refl
    (subst (IsFlawed grid.slot symbol w.dmrs_id reg.block k point) (ap flaw_there (sym (rest_is reg.block k (omega arith))))
    flawed)

-- the first bad place of a watch, or its bits
abbrev pub IsRead : GridValue → Watch → Option BadPlace → Type 0
IsRead grid w None = IsReceived grid w (received grid w)
IsRead grid w (Some bad) = IsFirstBad grid w.symbol w.dmrs_id w.regs.items bad

all_read : (grid : GridValue) (w : Watch)
    → ArePointsTaken grid w.symbol w.dmrs_id w.regs.items (bits_below grid w (12 * length w.regs.items))
    (12 * length w.regs.items)
    → IsReceived grid w (received grid w)
unfolding received
all_read grid w h =
    let all = 12 * length w.regs.items in
    let P : List Spot → Type 0 = λ spots. Holds grid w.symbol w.dmrs_id w.regs.items (flat_map (bits_at grid) spots) in
    received_from grid w (flat_map (bits_at grid) (places w)) (received grid w) refl
    (subst P (sym (places_are w)) (all_taken grid w.symbol w.dmrs_id w.regs.items (bits_below grid w all) all refl h))

read_by : (grid : GridValue) (w : Watch) (found : Option ℕ) → IsCarrying w
    → IsSearched (λ n. is_bad grid w (place_at w n)) 0 (12 * length w.regs.items) found
    → IsRead grid w (option_map bad_place (option_map (place_at w) found))
read_by grid w None keeps h =
    all_read grid w (taken_below grid w (12 * length w.regs.items) (λ i l. h i (omega arith) (omega (arith, l))))
read_by grid w (Some n) keeps h =
    bad_at grid w n keeps (omega (arith, h.below)) h.passes (taken_below grid w n (λ i l. h.before i (omega arith) l))

-- the first bad place is that of the relation, and where there is none the bits are received
pub bad_told : (grid : GridValue) (w : Watch) → IsCarrying w → IsRead grid w (first_bad grid w)
unfolding first_bad
bad_told grid w keeps =
    let all = 12 * length w.regs.items in
    let test : ℕ → Bool = λ n. is_bad grid w (place_at w n) in
    let same : find (is_bad grid w) (places w) ≡ option_map (place_at w) (find test (range_with_len 0 all)) =
    ap (find (is_bad grid w)) (places_are w) ∙ find-map (is_bad grid w) (place_at w) (range_with_len 0 all)
    in
    let P : Option Spot → Type 0 = λ found. IsRead grid w (option_map bad_place found) in
    subst P (sym same) (read_by grid w (find test (range_with_len 0 all)) keeps (searched test 0 all))
