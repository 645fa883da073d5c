-- The places of a watch by their numbers: place 12j + k is subcarrier k of REG j.
use Rattle.std.proofs.Common.{◌≡◌, ℕ, suc, ◌+◌, ◌-◌, ◌*◌, ◌/◌, ◌%◌, ◌<◌, Bool, true, List, [], ◌∷◌, length, map, get_or}
use Rattle.std.proofs.Common.{inl, inr, refl, ap, sym, ◌∙◌, arith, length-append}
use Rattle.std.specs.List.{range_with_len, flat_map, list_all}
use Rattle.std.proofs.lemmas.Bool.{cases_lt}
use Rattle.std.proofs.lemmas.List.{get_or_append_left, get_or-append_right, same_lists}
use Rattle.std.proofs.lemmas.List.FromFn.{get_or-map-range_with_len, length-map-range_with_len}
use Rattle.std.proofs.lemmas.List.Sums.{AllPass-from_list_all}
use Rattle.coreset_map.specs.declared.places.Reg.{Reg}
use Rattle.coreset_map.specs.declared.places.Spot.{Spot}
use Rattle.coreset_map.specs.RegOrder.{reg_at}
use Rattle.monitor_plan.specs.declared.watch.Watch.{Watch}
use Rattle.dci_codec.specs.WatchPlaces.{place_of, places}

-- place n of a watch
abbrev pub place_at : Watch → ℕ → Spot
place_at w n = place_of w (reg_at w.regs.items (n / 12)) (n % 12)

-- the places of one REG
abbrev twelve_of : Watch → Reg → List Spot
twelve_of w reg = map (place_of w reg) (range_with_len 0 12)

length_twelve : (w : Watch) (regs : List Reg) → length (flat_map (twelve_of w) regs) ≡ 12 * length regs
length_twelve w [] = refl
length_twelve w (reg ∷ regs) =
    omega (
      arith,
      length-append (twelve_of w reg) (flat_map (twelve_of w) regs),
      length-map-range_with_len (place_of w reg)
          0 12,
      length_twelve w regs,
    )

in_twelve : (w : Watch) (regs : List Reg) (i : ℕ) (d : Spot) → i < 12 * length regs
    → get_or (flat_map (twelve_of w) regs) i d ≡ get_or (twelve_of w (reg_at regs (i / 12))) (i % 12) d
in_twelve w [] i d l = absurd (omega (arith, l))
in_twelve w (reg ∷ regs) i d l =
    let size : length (twelve_of w reg) ≡ 12 = length-map-range_with_len (place_of w reg) 0 12 in
    elim (cases_lt i 12) [
      | inl m ↦
          let first : 0 ≡ i / 12 = omega (arith, m) in
          let rest : i ≡ i % 12 = omega (arith, m) in
          get_or_append_left (twelve_of w reg) (flat_map (twelve_of w) regs) d i (omega (arith, m, size))
          ∙ ap (λ j. get_or (twelve_of w (reg_at (reg ∷ regs) j)) i d) first
          ∙ ap (λ j. get_or (twelve_of w (reg_at (reg ∷ regs) (i / 12))) j d) rest
      | inr m ↦
          let later : suc ((i - 12) / 12) ≡ i / 12 = omega (arith, m) in
          let rest : (i - 12) % 12 ≡ i % 12 = omega (arith, m) in
          get_or-append_right (twelve_of w reg) (flat_map (twelve_of w) regs) 12 i d size m
          ∙ in_twelve w regs (i - 12) d (omega (arith, l, m))
          ∙ ap (λ j. get_or (twelve_of w (reg_at (reg ∷ regs) j)) ((i - 12) % 12) d) later
          ∙ ap (λ j. get_or (twelve_of w (reg_at (reg ∷ regs) (i / 12))) j d) rest
    ]

-- the places, by their numbers
abbrev pub places_below : Watch → ℕ → List Spot
places_below w n = map (place_at w) (range_with_len 0 n)

-- the places of a watch, one by one
pub places_are : (w : Watch) → places w ≡ places_below w (12 * length w.regs.items)
unfolding places
places_are w =
    let all = 12 * length w.regs.items in
    same_lists (flat_map (twelve_of w) w.regs.items) (places_below w all)
    (length_twelve w w.regs.items ∙ sym (length-map-range_with_len (place_at w) 0 all))
    (λ i d l.
    let within : i < all = omega (arith, l, length_twelve w w.regs.items) in
    let reg = reg_at w.regs.items (i / 12) in
    in_twelve w w.regs.items i d within
    ∙ get_or-map-range_with_len (place_of w reg) 0 12 (i % 12) (i % 12) d (omega arith) (omega arith)
    ∙ sym (get_or-map-range_with_len (place_at w) 0 all i i d within (omega arith)))

-- what each place of a watch passes, subcarrier k of REG j passes
pub place_passes : (test : Spot → Bool) (w : Watch) (j k : ℕ) → list_all test (places w) ≡ true → j < length w.regs.items → k < 12
    → test (place_of w (reg_at w.regs.items j) k) ≡ true
place_passes test w j k h l m =
    let n = 12 * j + k in
    let all = 12 * length w.regs.items in
    let spot = place_at w 0 in
    let below : n < all = omega (arith, l, m) in
    let in_list : n < length (places_below w all) = omega (arith, below, length-map-range_with_len (place_at w) 0 all) in
    let passes = AllPass-from_list_all test (places_below w all) (ap (list_all test) (sym (places_are w)) ∙ h) n spot in_list in
    let reg : n / 12 ≡ j = omega (arith, m) in
    let rest : n % 12 ≡ k = omega (arith, m) in
    ap test
    (ap (place_of w (reg_at w.regs.items j)) (sym rest)
    ∙ ap (λ i. place_of w (reg_at w.regs.items i) (n % 12)) (sym reg)
    ∙ sym (get_or-map-range_with_len (place_at w) 0 all n n spot below (omega arith)))
    ∙ passes
