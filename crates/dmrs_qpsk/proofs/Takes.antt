-- A grid holds one list of bits on REGs, or has one first bad place there.
use Rattle.std.proofs.Common.{◌≡◌, ℕ, ◌+◌, ◌*◌, ◌/◌, ◌%◌, ◌<◌, Bool, true, false, List, length, Ok, Err, Result, IfOk, IfErr, ◌↔◌}
use Rattle.std.proofs.Common.{inl, inr, refl, sym, ◌∙◌, ap, subst, arith}
use Rattle.std.proofs.lemmas.Bool.{cases_lt}
use Rattle.std.proofs.lemmas.List.{same_lists, get_or_default}
use Rattle.bits_core.specs.Bits.{bit_of}
use Rattle.slot_grid.specs.declared.places.Point.{Point}
use Rattle.slot_grid.specs.declared.places.Point.TheVariants.{Empty as NoPoint}
use Rattle.slot_grid.specs.Grid.{GridValue, point_at}
use Rattle.slot_grid.specs.Image.{overwritten}
use Rattle.slot_grid.proofs.Images.{agrees_overwritten}
use Rattle.dmrs_qpsk.specs.declared.taking.BadPlace.{BadPlace}
use Rattle.dmrs_qpsk.specs.declared.taking.Flaw.{Flaw}
use Rattle.dmrs_qpsk.specs.declared.taking.Flaw.TheVariants.{Empty, Reference}
use Rattle.coreset_map.specs.declared.places.Reg.{Reg}
use Rattle.dmrs_qpsk.specs.Modulation.{point_of}
use Rattle.coreset_map.specs.DataPlaces.{is_reference}
use Rattle.coreset_map.specs.RegOrder.{AreInside, AreRegs, reg_at}
use Rattle.dmrs_qpsk.specs.PointsOnGrid.{data_rank, reg_point, image_of}
use Rattle.dmrs_qpsk.specs.Held.{Holds, IsFlawed, IsBad, IsFirstBad}
use Rattle.dmrs_qpsk.proofs.BlockPlaces.{data_rank_back, is_data}
use Rattle.dmrs_qpsk.proofs.ImagesOnGrid.{image_at, image_within}
use Rattle.dmrs_qpsk.specs.Taken.{HasPoint, ArePointsTaken}
use Rattle.dmrs_qpsk.proofs.PointsRead.{taken_at}
use Rattle.dmrs_qpsk.proofs.RegPoints.{reference_there, data_there}
use Rattle.list_facts.proofs.Tests.{true_not_false}

-- the point of two bits is a point
not_empty : (a b : Bool) → point_of a b ≡ NoPoint → ⊥
not_empty false false e = cc
not_empty false true e = cc
not_empty true false e = cc
not_empty true true e = cc

-- a point is that of two bits at most
one_point : (a b c d : Bool) → point_of a b ≡ point_of c d → (a ≡ c) × (b ≡ d)
one_point false false false false e = (refl, refl)
one_point false false false true e = (cc, cc)
one_point false false true false e = (cc, cc)
one_point false false true true e = (cc, cc)
one_point false true false false e = (cc, cc)
one_point false true false true e = (refl, refl)
one_point false true true false e = (cc, cc)
one_point false true true true e = (cc, cc)
one_point true false false false e = (cc, cc)
one_point true false false true e = (cc, cc)
one_point true false true false e = (refl, refl)
one_point true false true true e = (cc, cc)
one_point true true false false e = (cc, cc)
one_point true true false true e = (cc, cc)
one_point true true true false e = (cc, cc)
one_point true true true true e = (refl, refl)

-- the point of a place has no flaw
flawed_apart : (slot symbol id block : ℕ) (bits : List Bool) (j k : ℕ) (point : Point) (flaw : Flaw)
    → point ≡ reg_point slot symbol id block bits j k → IsFlawed slot symbol id block k point flaw → ⊥
flawed_apart slot symbol id block bits j k point Empty e f =
    not_empty (bit_of bits (18 * j + 2 * data_rank k)) (bit_of bits (18 * j + 2 * data_rank k + 1))
    (sym (e ∙ data_there slot symbol id block bits j k f.0) ∙ f.1)
flawed_apart slot symbol id block bits j k point Reference e f = f.1 (e ∙ reference_there slot symbol id block bits j k f.0)

-- a subcarrier has one flaw at most
one_flaw : (slot symbol id block k : ℕ) (p : Point) (a : Flaw) (slot' symbol' id' block' k' : ℕ) (q : Point) (b : Flaw) → k ≡ k'
    → IsFlawed slot symbol id block k p a → IsFlawed slot' symbol' id' block' k' q b → a ≡ b
one_flaw slot symbol id block k p Empty slot' symbol' id' block' k' q Empty e f g = refl
one_flaw slot symbol id block k p Reference slot' symbol' id' block' k' q Reference e f g = refl
one_flaw slot symbol id block k p Empty slot' symbol' id' block' k' q Reference e f g =
    absurd (true_not_false (is_reference k') g.0 (sym (ap is_reference e) ∙ f.0))
one_flaw slot symbol id block k p Reference slot' symbol' id' block' k' q Empty e f g =
    absurd (true_not_false (is_reference k) f.0 (ap is_reference e ∙ g.0))

-- the same flaw, said of equal places
same_flaw : (slot symbol id block k : ℕ) (p : Point) (block' k' : ℕ) (q : Point) (flaw : Flaw) → block ≡ block' → k ≡ k' → p ≡ q
    → IsFlawed slot symbol id block k p flaw → IsFlawed slot symbol id block' k' q flaw
same_flaw slot symbol id block k p block' k' q flaw e f g h =
    let in_block : ℕ → Type 0 = λ b. IsFlawed slot symbol id b k p flaw in
    let at : ℕ → Type 0 = λ i. IsFlawed slot symbol id block' i p flaw in
    let of : Point → Type 0 = λ x. IsFlawed slot symbol id block' k' x flaw in
    subst of g (subst at f (subst in_block e h))

-- where the grid holds bits, each place has its point
held_at : (grid : GridValue) (first id : ℕ) (regs : List Reg) (bits : List Bool) (j k : ℕ) → AreRegs regs
    → Holds grid first id regs bits
    → j < length regs → k < 12 → HasPoint grid first id regs bits j k
held_at grid first id regs bits j k apart h l m =
    let reg = reg_at regs j in
    h.1 (first + reg.symbol) (12 * reg.block + k) (reg_point grid.slot (first + reg.symbol) id reg.block bits j k)
    (image_at grid.slot first id regs bits j k apart l m)

-- a place with its point is not bad
point_apart : (grid : GridValue) (first id : ℕ) (regs : List Reg) (bits : List Bool) (bad : BadPlace)
    (b : IsBad grid first id regs bad)
    → HasPoint grid first id regs bits b.reg (bad.subcarrier % 12) → ⊥
point_apart grid first id regs bits bad b h =
    let reg = reg_at regs b.reg in
    let k = bad.subcarrier % 12 in
    let place : bad.subcarrier ≡ 12 * reg.block + k = omega (arith, b.block_is) in
    flawed_apart grid.slot bad.symbol id (bad.subcarrier / 12) bits b.reg k (point_at grid bad.symbol bad.subcarrier) bad.flaw
    (ap (λ symbol. point_at grid symbol bad.subcarrier) b.symbol_is
    ∙ ap (point_at grid (first + reg.symbol)) place
    ∙ h
    ∙ ap (λ symbol. reg_point grid.slot symbol id reg.block bits b.reg k) (sym b.symbol_is)
    ∙ ap (λ block. reg_point grid.slot bad.symbol id block bits b.reg k) (sym b.block_is))
    b.flawed

-- a grid that holds bits on REGs has no bad place there
pub bad_apart : (grid : GridValue) (first id : ℕ) (regs : List Reg) (bits : List Bool) (bad : BadPlace) → AreRegs regs
    → Holds grid first id regs bits → IsBad grid first id regs bad → ⊥
bad_apart grid first id regs bits bad apart h b =
    point_apart grid first id regs bits bad b
    (held_at grid first id regs bits b.reg (bad.subcarrier % 12) apart h b.within (omega arith))

-- where the places before are read, a bad place is the first
pub first_bad : (grid : GridValue) (first id : ℕ) (regs : List Reg) (bits : List Bool) (n subcarrier : ℕ) (flaw : Flaw)
    → AreRegs regs
    → n < 12 * length regs → ArePointsTaken grid first id regs bits n → subcarrier ≡ 12 * (reg_at regs (n / 12)).block + n % 12
    → IsFlawed grid.slot (first + (reg_at regs (n / 12)).symbol) id (reg_at regs (n / 12)).block (n % 12)
    (point_at grid (first + (reg_at regs (n / 12)).symbol) (12 * (reg_at regs (n / 12)).block + n % 12)) flaw
    → IsFirstBad grid first id regs
    (record { symbol = first + (reg_at regs (n / 12)).symbol; subcarrier = subcarrier; flaw = flaw })
first_bad grid first id regs bits n subcarrier flaw apart l h place f =
    let reg = reg_at regs (n / 12) in
    let symbol = first + reg.symbol in
    let block : reg.block ≡ subcarrier / 12 = omega arith in
    let within : n % 12 ≡ subcarrier % 12 = omega arith in
    record {
      is_bad = record {
        reg = n / 12;
        within = omega arith;
        symbol_is = refl;
        block_is = sym block;
        flawed =
            same_flaw grid.slot symbol id reg.block (n % 12) (point_at grid symbol (12 * reg.block + n % 12))
            (subcarrier / 12) (subcarrier % 12)
            (point_at grid symbol subcarrier) flaw block within (ap (point_at grid symbol) (sym place)) f;
      };
      earliest = λ other o.
          let k = other.subcarrier % 12 in
          elim (cases_lt (12 * o.reg + k) n) [
            | inl m ↦
                absurd (point_apart grid first id regs bits other o
                (taken_at grid first id regs bits n o.reg k h (omega arith) m))
            | inr m ↦ elim (cases_lt (n / 12) o.reg) [
              | inl i ↦
                  let p = apart (n / 12) o.reg i o.within in
                  (omega (arith, p.0, o.symbol_is), λ e. omega (arith, p.1 (omega (arith, e, o.symbol_is)), o.block_is))
              | inr i ↦
                  let same : n / 12 ≡ o.reg = omega arith in
                  let symbols = ap (λ j. (reg_at regs j).symbol) same in
                  let blocks = ap (λ j. (reg_at regs j).block) same in
                  (omega (arith, symbols, o.symbol_is), λ e. omega (arith, blocks, o.block_is))
            ]
          ];
    }

one_bit : (grid : GridValue) (first id : ℕ) (regs : List Reg) (a b : List Bool) (i : ℕ) → AreRegs regs
    → Holds grid first id regs a
    → Holds grid first id regs b → i < 18 * length regs → bit_of a i ≡ bit_of b i
one_bit grid first id regs a b i apart g h l =
    let j = i / 18 in
    let d = i % 18 / 2 in
    let k = d + (d + 2) / 3 in
    let at = 18 * j + 2 * data_rank k in
    let reg = reg_at regs j in
    let small : k < 12 = omega arith in
    let rank : data_rank k ≡ d = data_rank_back d (omega arith) in
    let e : is_reference k ≡ false = is_data k (λ x. omega arith) (λ x. omega arith) (λ x. omega arith) in
    let within : j < length regs = omega arith in
    let p : point_of (bit_of a at) (bit_of a (at + 1)) ≡ point_of (bit_of b at) (bit_of b (at + 1)) =
    sym (data_there grid.slot (first + reg.symbol) id reg.block a j k e)
    ∙ sym (held_at grid first id regs a j k apart g within small)
    ∙ held_at grid first id regs b j k apart h within small
    ∙ data_there grid.slot (first + reg.symbol) id reg.block b j k e
    in
    let (x, y) = one_point (bit_of a at) (bit_of a (at + 1)) (bit_of b at) (bit_of b (at + 1)) p in
    elim (cases_lt (i % 2) 1) [
      | inl m ↦ let here : i ≡ at = omega arith in ap (bit_of a) here ∙ x ∙ ap (bit_of b) (sym here)
      | inr m ↦ let here : i ≡ at + 1 = omega arith in ap (bit_of a) here ∙ y ∙ ap (bit_of b) (sym here)
    ]

-- a grid holds one list of bits on REGs at most
pub one_held : (grid : GridValue) (first id : ℕ) (regs : List Reg) (a b : List Bool) → AreRegs regs → Holds grid first id regs a
    → Holds grid first id regs b → a ≡ b
one_held grid first id regs a b apart g h =
    same_lists a b (g.0 ∙ sym h.0)
    (λ i d l.
    let m : i < length b = omega (arith, g.0, h.0) in
    get_or_default a i d false l
    ∙ one_bit grid first id regs a b i apart g h (omega (arith, g.0))
    ∙ sym (get_or_default b i d false m))

abbrev bad_place : ℕ → ℕ → Flaw → BadPlace
bad_place symbol subcarrier flaw = record { symbol = symbol; subcarrier = subcarrier; flaw = flaw }

-- REGs have one first bad place at most
pub one_first : (grid : GridValue) (first id : ℕ) (regs : List Reg) (a b : BadPlace) → IsFirstBad grid first id regs a
    → IsFirstBad grid first id regs b → a ≡ b
one_first grid first id regs a b g h =
    let before = g.earliest b h.is_bad in
    let after = h.earliest a g.is_bad in
    let symbol : a.symbol ≡ b.symbol = omega (arith, before.0, after.0) in
    let subcarrier : a.subcarrier ≡ b.subcarrier = omega (arith, before.1 symbol, after.1 (sym symbol)) in
    let flaw : a.flaw ≡ b.flaw =
    one_flaw grid.slot a.symbol id (a.subcarrier / 12) (a.subcarrier % 12) (point_at grid a.symbol a.subcarrier) a.flaw
    grid.slot b.symbol id (b.subcarrier / 12) (b.subcarrier % 12) (point_at grid b.symbol b.subcarrier) b.flaw
    (ap (λ c. c % 12) subcarrier) g.is_bad.flawed h.is_bad.flawed
    in
    ap (λ x. bad_place x a.subcarrier a.flaw) symbol
    ∙ ap (λ x. bad_place b.symbol x a.flaw) subcarrier
    ∙ ap (λ x. bad_place b.symbol b.subcarrier x) flaw

-- a grid on which bits were written holds them
pub held_after : (grid : GridValue) (first id : ℕ) (regs : List Reg) (bits : List Bool) → AreInside first grid.blocks regs
    → length bits ≡ 18 * length regs
    → Holds (overwritten (image_of grid.slot first id regs bits) grid) first id regs bits
unfolding overwritten
held_after grid first id regs bits inside size =
    let image = image_of grid.slot first id regs bits in
    (size, agrees_overwritten image grid (image_within grid grid.slot first id regs bits inside))

-- what is read: bits that the grid holds, or its first bad place
abbrev pub IsTaken : GridValue → ℕ → ℕ → List Reg → Result (List Bool) BadPlace → Type 0
IsTaken grid first id regs (Ok bits) = Holds grid first id regs bits
IsTaken grid first id regs (Err bad) = IsFirstBad grid first id regs bad

-- so it is where it is so in each of the two cases
pub is_taken : (grid : GridValue) (first id : ℕ) (regs : List Reg) (result : Result (List Bool) BadPlace)
    → IfOk result (Holds grid first id regs)
    → IfErr result (IsFirstBad grid first id regs) → IsTaken grid first id regs result
is_taken grid first id regs (Ok bits) g h = g
is_taken grid first id regs (Err bad) g h = h

one_taken : (grid : GridValue) (first id : ℕ) (regs : List Reg) (a b : Result (List Bool) BadPlace) → AreRegs regs
    → IsTaken grid first id regs a
    → IsTaken grid first id regs b → a ≡ b
one_taken grid first id regs (Ok a) (Ok b) apart g h = ap (λ x. Ok x) (one_held grid first id regs a b apart g h)
one_taken grid first id regs (Ok a) (Err b) apart g h = absurd (bad_apart grid first id regs a b apart g h.is_bad)
one_taken grid first id regs (Err a) (Ok b) apart g h = absurd (bad_apart grid first id regs b a apart h g.is_bad)
one_taken grid first id regs (Err a) (Err b) apart g h = ap (λ x. Err x) (one_first grid first id regs a b g h)

-- the answer is bits exactly where the grid holds them
pub bits_exactly : (grid : GridValue) (first id : ℕ) (regs : List Reg) (result : Result (List Bool) BadPlace) → AreRegs regs
    → IsTaken grid first id regs result → (bits : List Bool) → (result ≡ Ok bits) ↔ Holds grid first id regs bits
bits_exactly grid first id regs result apart taken bits =
    (λ e. subst (IsTaken grid first id regs) e taken, λ k. one_taken grid first id regs result (Ok bits) apart taken k)

-- the answer is a bad place exactly where it is the first
pub bad_exactly : (grid : GridValue) (first id : ℕ) (regs : List Reg) (result : Result (List Bool) BadPlace) → AreRegs regs
    → IsTaken grid first id regs result → (bad : BadPlace) → (result ≡ Err bad) ↔ IsFirstBad grid first id regs bad
bad_exactly grid first id regs result apart taken bad =
    (λ e. subst (IsTaken grid first id regs) e taken, λ k. one_taken grid first id regs result (Err bad) apart taken k)
