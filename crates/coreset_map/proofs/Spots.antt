-- The data places of REGs: nine for each, in order.
use Rattle.std.proofs.Common.{◌≡◌, ◌≢◌, ℕ, suc, ◌+◌, ◌-◌, ◌*◌, ◌/◌, ◌%◌, ◌<◌, ◌≤◌, ◌⊎◌, inl, inr, true, false}
use Rattle.std.proofs.Common.{not, ◌||◌, ◌==◌, List, [], ◌∷◌, ◌++◌, map, length, get_or, slice_get, Some, refl}
use Rattle.std.proofs.Common.{sym, ◌∙◌, ap, subst, arith, length-append}
use Rattle.std.specs.List.{range_with_len, flat_map, filter, list_any}
use Rattle.std.proofs.lemmas.Bool.{cases_lt, or_cases, eqb-true, and_parts, and_from, false_from_ne_true}
use Rattle.std.proofs.lemmas.List.{get_or_append_left, get_or-append_right, get_or_default}
use Rattle.std.proofs.lemmas.List.FromFn.{length-map-range_with_len, get_or-map-range_with_len}
use Rattle.std.proofs.lemmas.Option.{slice_get-get_or}
use Rattle.coreset_map.specs.declared.places.Reg.{Reg}
use Rattle.coreset_map.specs.declared.places.Spot.{Spot}
use Rattle.coreset_map.specs.RegOrder.{reg_at, are_one_reg, Precedes, AreRegs, AreWithin}
use Rattle.coreset_map.specs.DataPlaces.{is_reference, has_data, places_of, data_places}
use Rattle.list_facts.proofs.Members.{IsIn, in_map, in_range, in_flat_map, flat_map_in, in_filter, filter_in, range_in}
use Rattle.list_facts.proofs.Members.{map_in, in_at}
use Rattle.list_facts.proofs.Rising.{Rising, IsStrict, rising-flat_map, rising-map, rising-filter, rising-range}
use Rattle.list_facts.proofs.Rising.{rising-from, one_rising}
use Rattle.coreset_map.proofs.Cces.{reg_in}
use Rattle.coreset_map.proofs.CandidateRegs.{any_in, in_any}

-- a place stands before another: in an earlier symbol, or in the same one at a lower subcarrier
abbrev pub IsBefore : Spot → Spot → Type 0
IsBefore a b = (a.symbol ≤ b.symbol) × (a.symbol ≡ b.symbol → a.subcarrier < b.subcarrier)

-- nothing is before itself, nor after what is after it
pub before_strict : IsStrict IsBefore
before_strict = record {
  itself = λ a h. let k = h.1 refl in omega (arith, k);
  turned =
      λ a b h k. let e : a.symbol ≡ b.symbol =
      let x = h.0 in let y = k.0 in omega (arith, x, y) in let l = h.1 e in let m = k.1 (sym e) in omega (arith, l, m);
}

abbrev spot_in : ℕ → ℕ → Spot
spot_in symbol subcarrier = record { symbol = symbol; subcarrier = subcarrier }

-- the place of a REG that has its data of a rank
abbrev pub spot_of : Reg → ℕ → Spot
spot_of reg d = spot_in reg.symbol (12 * reg.block + d + (d + 2) / 3)

-- the nine data places of a REG
abbrev pub nine_of : Reg → List Spot
nine_of reg = map (spot_of reg) (range_with_len 0 9)

-- those of some REGs, one REG after the other
abbrev pub nine_each : List Reg → List Spot
nine_each regs = flat_map nine_of regs

-- both lists are in order
places_rising : (symbols blocks : ℕ) → Rising IsBefore (places_of symbols blocks)
unfolding places_of
places_rising symbols blocks =
    rising-flat_map (λ a b. a < b) IsBefore (λ s. map (λ c. spot_in s c) (range_with_len 0 (12 * blocks)))
    (range_with_len 0 symbols) (rising-range 0 symbols)
    (λ s i. rising-map (λ a b. a < b) IsBefore (λ c. spot_in s c) (range_with_len 0 (12 * blocks))
    (λ a b h. (omega arith, λ e. h)) (rising-range 0 (12 * blocks)))
    (λ s t x y i j h u v.
    let (b, m, e) = in_map (λ c. spot_in s c) x (range_with_len 0 (12 * blocks)) u in
    let (c, n, f) = in_map (λ c. spot_in t c) y (range_with_len 0 (12 * blocks)) v in
    let p = ap (λ (z : Spot). z.symbol) e in
    let q = ap (λ (z : Spot). z.symbol) f in
    (omega (arith, h, p, q), λ same. absurd (omega (arith, h, p, q, same))))

-- the data places are in order
pub data_rising : (symbols blocks : ℕ) (regs : List Reg) → Rising IsBefore (data_places symbols blocks regs)
unfolding data_places
data_rising symbols blocks regs = rising-filter IsBefore (has_data regs) (places_of symbols blocks) (places_rising symbols blocks)

nine_before : (a b : Reg) (c d : ℕ) → Precedes a b → c < 9 → d < 9 → IsBefore (spot_of a c) (spot_of b d)
nine_before a b c d (h, k) l m = (h, λ e. let n = k e in omega (arith, n, l, m))

nine_in : (reg : Reg) (x : Spot) → IsIn x (nine_of reg) → (d : ℕ) × (d < 9) × (x ≡ spot_of reg d)
nine_in reg x i =
    let (d, m, e) = in_map (spot_of reg) x (range_with_len 0 9) i in
    let r = in_range d 0 9 m in
    (d, let h = r.1 in omega (arith, h), e)

nine_rising : (regs : List Reg) → Rising Precedes regs → Rising IsBefore (nine_each regs)
nine_rising regs r =
    rising-flat_map Precedes IsBefore nine_of regs r
    (λ reg i. rising-map (λ a b. a < b) IsBefore (spot_of reg) (range_with_len 0 9)
    (λ a b h. (omega arith, λ e. omega (arith, h))) (rising-range 0 9))
    (λ a b x y i j h u v.
    let (c, l, e) = nine_in a x u in
    let (d, m, f) = nine_in b y v in
    let p : IsBefore (spot_of a c) (spot_of b d) = nine_before a b c d h l m in
    subst (λ z. IsBefore z y) (sym e) (subst (λ z. IsBefore (spot_of a c) z) (sym f) p))

-- and have the same places
rank_is : (k : ℕ) → k < 12 → k ≢ 1 → k ≢ 5 → k ≢ 9 → (k - (k + 2) / 4 < 9) × (k ≡ k - (k + 2) / 4 + (k - (k + 2) / 4 + 2) / 3)
rank_is k h a b c = (omega (arith, h, a, b, c), omega (arith, h, a, b, c))

reference_cases : (k : ℕ) → ((k ≡ 1) ⊎ ((k ≡ 5) ⊎ (k ≡ 9)) → ⊥) → is_reference k ≡ true → ⊥
reference_cases k no_place h =
    elim (or_cases (k == 1 || k == 5) (k == 9) h) as (λ _. ⊥) [
      | inl e ↦ elim (or_cases (k == 1) (k == 5) e) as (λ _. ⊥) [
        | inl f ↦ no_place (inl (eqb-true k 1 f))
        | inr f ↦ no_place (inr (inl (eqb-true k 5 f)))
      ]
      | inr e ↦ no_place (inr (inr (eqb-true k 9 e)))
    ]

rank_cases : (d : ℕ) → d < 9 → (d + (d + 2) / 3 ≡ 1) ⊎ ((d + (d + 2) / 3 ≡ 5) ⊎ (d + (d + 2) / 3 ≡ 9)) → ⊥
rank_cases d h (inl e) = omega (arith, h, e)
rank_cases d h (inr (inl e)) = omega (arith, h, e)
rank_cases d h (inr (inr e)) = omega (arith, h, e)

-- a subcarrier of data has no reference point
pub no_reference : (d : ℕ) → d < 9 → is_reference (d + (d + 2) / 3) ≡ false
no_reference d h = false_from_ne_true (is_reference (d + (d + 2) / 3)) (reference_cases (d + (d + 2) / 3) (rank_cases d h))

-- a subcarrier with data has no reference point
not_reference : (j k : ℕ) → is_reference j ≡ true → not (is_reference k) ≡ true → k ≡ j → ⊥
not_reference j k r h e =
    let f = ap (λ n. not (is_reference n)) e in let g = ap not r in let z : true ≡ false = sym h ∙ (f ∙ g) in cc

-- a data place is one of the nine of its REG
nine_from : (reg : Reg) (x : Spot) → not (is_reference (x.subcarrier % 12)) ≡ true
    → reg_in x.symbol (x.subcarrier / 12) ≡ reg → IsIn x (nine_of reg)
nine_from reg x h e =
    let k = x.subcarrier % 12 in
    let d = k - (k + 2) / 4 in
    let (l, m) = rank_is k (omega arith) (not_reference 1 k refl h) (not_reference 5 k refl h) (not_reference 9 k refl h) in
    let s = ap (λ (r : Reg). r.symbol) e in
    let b = ap (λ (r : Reg). r.block) e in
    let sub : 12 * reg.block + d + (d + 2) / 3 ≡ x.subcarrier = omega (arith, m, b) in
    let same : spot_of reg d ≡ x = ap (λ n. spot_in n (12 * reg.block + d + (d + 2) / 3)) (sym s)
    ∙ ap (λ n. spot_in x.symbol n) sub in
    subst (λ z. IsIn z (nine_of reg)) same
    (map_in (spot_of reg) d (range_with_len 0 9) (range_in d 0 9 (omega arith) (omega (arith, l))))

data_nine : (symbols blocks : ℕ) (regs : List Reg) (x : Spot) → IsIn x (data_places symbols blocks regs) → IsIn x (nine_each regs)
unfolding data_places has_data
data_nine symbols blocks regs x i =
    let (m, e) = in_filter (has_data regs) x (places_of symbols blocks) i in
    let (h, k) = and_parts (not (is_reference (x.subcarrier % 12)))
    (list_any (are_one_reg (reg_in x.symbol (x.subcarrier / 12))) regs) e in
    let r = any_in (reg_in x.symbol (x.subcarrier / 12)) regs k in
    flat_map_in nine_of (reg_in x.symbol (x.subcarrier / 12)) x regs r (nine_from (reg_in x.symbol (x.subcarrier / 12)) x h refl)

place_in : (symbols blocks symbol subcarrier : ℕ) → symbol < symbols → subcarrier < 12 * blocks
    → IsIn (spot_in symbol subcarrier) (places_of symbols blocks)
unfolding places_of
place_in symbols blocks symbol subcarrier h k =
    flat_map_in (λ s. map (λ c. spot_in s c) (range_with_len 0 (12 * blocks))) symbol (spot_in symbol subcarrier)
    (range_with_len 0 symbols)
    (range_in symbol 0 symbols (omega arith) (omega (arith, h)))
    (map_in (λ c. spot_in symbol c) subcarrier (range_with_len 0 (12 * blocks))
    (range_in subcarrier 0 (12 * blocks) (omega arith) (omega (arith, k))))

spot_has_data : (regs : List Reg) (reg : Reg) (d : ℕ) → IsIn reg regs → d < 9 → has_data regs (spot_of reg d) ≡ true
unfolding has_data
spot_has_data regs reg d i h =
    let k = d + (d + 2) / 3 in
    let rest : (12 * reg.block + d + (d + 2) / 3) % 12 ≡ k = omega (arith, h) in
    let block : (12 * reg.block + d + (d + 2) / 3) / 12 ≡ reg.block = omega (arith, h) in
    let free : not (is_reference ((12 * reg.block + d + (d + 2) / 3) % 12)) ≡ true = ap (λ n. not (is_reference n)) rest
    ∙ ap not (no_reference d h) in
    let there : list_any (are_one_reg (reg_in reg.symbol ((12 * reg.block + d + (d + 2) / 3) / 12))) regs ≡ true =
    ap (λ n. list_any (are_one_reg (reg_in reg.symbol n)) regs) block ∙ in_any reg regs i in
    and_from (not (is_reference ((12 * reg.block + d + (d + 2) / 3) % 12)))
    (list_any (are_one_reg (reg_in reg.symbol ((12 * reg.block + d + (d + 2) / 3) / 12))) regs) free there

nine_data : (symbols blocks : ℕ) (regs : List Reg) (x : Spot) → AreWithin symbols blocks regs → IsIn x (nine_each regs)
    → IsIn x (data_places symbols blocks regs)
unfolding data_places
nine_data symbols blocks regs x w i =
    let (reg, m, n) = in_flat_map nine_of x regs i in
    let (d, l, e) = nine_in reg x n in
    let (j, k, f) = in_at reg regs (reg_in 0 0) m in
    let (a, b) = w j k in
    let s = ap (λ (r : Reg). r.symbol) f in
    let t = ap (λ (r : Reg). r.block) f in
    let p = place_in symbols blocks reg.symbol (12 * reg.block + d + (d + 2) / 3) (omega (arith, a, s))
    (omega (arith, b, t, l)) in
    subst (λ z. IsIn z (filter (has_data regs) (places_of symbols blocks))) (sym e)
    (filter_in (has_data regs) (spot_of reg d) (places_of symbols blocks) p (spot_has_data regs reg d m l))

-- so they are one list
pub data_places_are : (symbols blocks : ℕ) (regs : List Reg) → AreRegs regs → AreWithin symbols blocks regs
    → data_places symbols blocks regs ≡ nine_each regs
data_places_are symbols blocks regs r w =
    one_rising IsBefore before_strict (data_places symbols blocks regs) (nine_each regs) (data_rising symbols blocks regs)
    (nine_rising regs (rising-from Precedes regs (λ i j d h l.
    let a = get_or_default regs i d (reg_in 0 0) (omega (arith, h, l)) in
    let b = get_or_default regs j d (reg_in 0 0) l in
    subst (λ x. Precedes x (get_or regs j d)) (sym a) (subst (λ y. Precedes (reg_at regs i) y) (sym b) (r i j h l)))))
    (data_nine symbols blocks regs) (λ x i. nine_data symbols blocks regs x w i)

-- place 9j + d is that of rank d of REG j
nine_at_cases : (reg : Reg) (regs : List Reg) (k : ℕ) (z : Spot) → k < 9 * suc (length regs)
    → ((j : ℕ) → j < 9 * length regs → get_or (nine_each regs) j z ≡ spot_of (reg_at regs (j / 9)) (j % 9))
    → (k < 9) ⊎ (9 ≤ k) → get_or (nine_of reg ++ nine_each regs) k z ≡ spot_of (reg_at (reg ∷ regs) (k / 9)) (k % 9)
nine_at_cases reg regs k z h later (inl few) =
    get_or_append_left (nine_of reg) (nine_each regs) z k
    (let l = length-map-range_with_len (spot_of reg) 0 9 in omega (arith, l, few))
    ∙ get_or-map-range_with_len (spot_of reg) 0 9 k k z few (omega arith)
    ∙ ap (λ d. spot_of reg d) (let e : k ≡ k % 9 = omega (arith, few) in e)
    ∙ ap (λ j. spot_of (reg_at (reg ∷ regs) j) (k % 9)) (let e : 0 ≡ k / 9 = omega (arith, few) in e)
nine_at_cases reg regs k z h later (inr more) =
    get_or-append_right (nine_of reg) (nine_each regs) 9 k z (length-map-range_with_len (spot_of reg) 0 9) more
    ∙ later (k - 9) (omega (arith, h, more))
    ∙ ap (λ j. spot_of (reg_at (reg ∷ regs) j) ((k - 9) % 9)) (let e : suc ((k - 9) / 9) ≡ k / 9 = omega (arith, more) in e)
    ∙ ap (λ d. spot_of (reg_at (reg ∷ regs) (k / 9)) d) (let e : (k - 9) % 9 ≡ k % 9 = omega (arith, more) in e)

nine_at : (regs : List Reg) (k : ℕ) (z : Spot) → k < 9 * length regs
    → get_or (nine_each regs) k z ≡ spot_of (reg_at regs (k / 9)) (k % 9)
nine_at [] k z h = absurd (omega arith)
nine_at (reg ∷ regs) k z h = nine_at_cases reg regs k z (omega (arith, h)) (λ j l. nine_at regs j z l) (cases_lt k 9)

length_nine : (regs : List Reg) → length (nine_each regs) ≡ 9 * length regs
length_nine [] = refl
length_nine (reg ∷ regs) =
    let a = length-append (nine_of reg) (nine_each regs) in
    let b = length-map-range_with_len (spot_of reg) 0 9 in
    let h = length_nine regs in
    omega (arith, a, b, h)

-- REGs have nine data places each
pub length-data_places : (symbols blocks : ℕ) (regs : List Reg) → AreRegs regs → AreWithin symbols blocks regs
    → length (data_places symbols blocks regs) ≡ 9 * length regs
length-data_places symbols blocks regs r w = ap length (data_places_are symbols blocks regs r w) ∙ length_nine regs

-- a data place is that of a rank in its REG
pub data_place_is : (symbols blocks : ℕ) (regs : List Reg) (k : ℕ) → AreRegs regs → AreWithin symbols blocks regs
    → k < 9 * length regs
    → slice_get (data_places symbols blocks regs) k ≡ Some (spot_of (reg_at regs (k / 9)) (k % 9))
data_place_is symbols blocks regs k r w h =
    let z = spot_in 0 0 in
    ap (λ xs. slice_get xs k) (data_places_are symbols blocks regs r w)
    ∙ slice_get-get_or (nine_each regs) k z (let l = length_nine regs in omega (arith, l, h))
    ∙ ap (λ x. Some x) (nine_at regs k z h)
