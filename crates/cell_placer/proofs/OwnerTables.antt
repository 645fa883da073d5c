-- The table of owners: the least owner of a watch's REGs, and the table with one grant more.
use Rattle.std.proofs.Common.{◌≡◌, ◌≢◌, ℕ, suc, ◌+◌, ◌*◌, ◌/◌, ◌%◌, ◌<◌, Bool, true, false, ◌&&◌, ◌||◌, cond, ◌⊎◌, inl}
use Rattle.std.proofs.Common.{inr, List, [], ◌∷◌, ◌++◌, Option, Some, None, option_map, find, length, get_or, set, refl}
use Rattle.std.proofs.Common.{ap, sym, subst, ◌∙◌, arith}
use Rattle.std.specs.Prelude.{◌==◌, fold}
use Rattle.std.specs.List.{list_any}
use Rattle.std.specs.Option.{option_or}
use Rattle.std.proofs.lemmas.Bool.{and_parts, and_from, eqb-true, eq-eqb}
use Rattle.std.proofs.lemmas.Nat.{mul-add-lt, div-mul-add, mod-mul-add}
use Rattle.std.proofs.lemmas.List.{get_or-set_same, get_or-set_other, length-set}
use Rattle.std.proofs.lemmas.List.Folds.{find-append}
use Rattle.coreset_map.specs.declared.places.Reg.{Reg}
use Rattle.coreset_map.specs.RegOrder.{reg_at}
use Rattle.monitor_plan.specs.declared.watch.Watch.{Watch}
use Rattle.monitor_plan.specs.Watch.{has_reg, shares_reg, IsInside}
use Rattle.cell_placer.specs.declared.member.Member.{Member}
use Rattle.cell_placer.specs.declared.member.Accepted.{Accepted}
use Rattle.cell_placer.specs.Ledger.{AreCalls, watch_of}
use Rattle.cell_placer.specs.Fate.{first_meeting}
use Rattle.cell_placer.specs.Owners.{owner, least, owner_place, least_owner, owned, AreOwners}
use Rattle.cell_placer.proofs.Calls.{first_call, either_first, find_alike, find_none, find_narrower}

-- an accepted grant has one of some REGs
abbrev has_any : List Member → ℕ → List Reg → Accepted → Bool
has_any members symbol regs a = list_any (λ (r : Reg). has_reg (watch_of members a) (symbol + r.symbol) r.block) regs

-- REGs are in the slot and on the carrier
abbrev AreOn : ℕ → ℕ → List Reg → Type 0
AreOn blocks symbol regs = (j : ℕ) → j < length regs → (symbol + (reg_at regs j).symbol < 14) × ((reg_at regs j).block < blocks)

or_nothing : (b : Bool) → b ≡ (b || false)
or_nothing true = refl
or_nothing false = refl

or_later : (a b c : Bool) → ((a || b) || c) ≡ (a || (b || c))
or_later true b c = refl
or_later false b c = refl

-- the step of `least_owner`
abbrev chosen : List (Option ℕ) → ℕ → ℕ → Option ℕ → Reg → Option ℕ
chosen owners blocks symbol best r = least best (get_or owners (owner_place blocks symbol r) None)

module _ {blocks : ℕ} (last : ℕ) {members : List Member} {accepted : List Accepted} {owners : List (Option ℕ)}
    (table : AreOwners blocks members accepted owners) (calls : AreCalls 0 last accepted) where
  folded : (symbol : ℕ) (regs : List Reg) (p : Accepted → Bool) → AreOn blocks symbol regs
      → fold (chosen owners blocks symbol) (first_call p accepted) regs
      ≡ first_call (λ a. p a || has_any members symbol regs a) accepted
  folded symbol [] p on =
      ap (option_map (λ (a : Accepted). a.call)) (find_alike p (λ a. p a || false) accepted (λ a. or_nothing (p a)))
  folded symbol (r ∷ regs) p on =
      let has : Accepted → Bool = λ a. has_reg (watch_of members a) (symbol + r.symbol) r.block in
      let here = on 0 (omega arith) in
      let one : chosen owners blocks symbol (first_call p accepted) r ≡ first_call (λ a. p a || has a) accepted =
      ap (least (first_call p accepted)) (table.each (symbol + r.symbol) r.block here.0 here.1)
      ∙ either_first p has 0 last accepted calls in
      ap (λ best. fold (chosen owners blocks symbol) best regs) one
      ∙ folded symbol regs (λ a. p a || has a) (λ j h. on (suc j) (omega (arith, h)))
      ∙ ap (option_map (λ (a : Accepted). a.call))
      (find_alike (λ a. (p a || has a) || has_any members symbol regs a)
      (λ a. p a || (has a || has_any members symbol regs a)) accepted
      (λ a. or_later (p a) (has a) (has_any members symbol regs a)))

-- the least owner of a watch's REGs is the call of the first accepted grant that has one
pub least_owner_is : (blocks last : ℕ) (members : List Member) (accepted : List Accepted) (owners : List (Option ℕ)) (w : Watch)
    → AreOwners blocks members accepted owners → AreCalls 0 last accepted → IsInside blocks w
    → least_owner owners blocks w.symbol w.regs.items ≡ first_meeting members accepted w
unfolding least_owner
least_owner_is blocks last members accepted owners w table calls inside =
    let never : Accepted → Bool = λ _. false in
    let start : first_call never accepted
    ≡ None = ap (option_map (λ (a : Accepted). a.call)) (find_none never accepted (λ a. refl)) in
    ap (λ best. fold (chosen owners blocks w.symbol) best w.regs.items) (sym start)
    ∙ folded last table calls w.symbol w.regs.items never inside

-- two places of a table are one only for one symbol and one block
same_place : (blocks s b t c : ℕ) → b < blocks → c < blocks → s * blocks + b ≡ t * blocks + c → (s ≡ t) × (b ≡ c)
same_place blocks s b t c h k e = (
  sym (div-mul-add s blocks b h) ∙ ap (λ n. n / blocks) e ∙ div-mul-add t blocks c k,
  sym (mod-mul-add s blocks b h)
      ∙ ap (λ n. n % blocks) e ∙ mod-mul-add t blocks c k,
)

-- a REG stands in a symbol and a block
abbrev stands : ℕ → ℕ → ℕ → Reg → Bool
stands first symbol block r = first + r.symbol == symbol && r.block == block

-- the step of `owned`
abbrev taken : ℕ → ℕ → ℕ → List (Option ℕ) → Reg → List (Option ℕ)
taken call blocks symbol table r = set table (owner_place blocks symbol r) (Some call)

length-taken : (call blocks symbol : ℕ) (table : List (Option ℕ)) (regs : List Reg)
    → length (fold (taken call blocks symbol) table regs) ≡ length table
length-taken call blocks symbol table [] = refl
length-taken call blocks symbol table (r ∷ regs) =
    length-taken call blocks symbol (taken call blocks symbol table r) regs
    ∙ length-set table (owner_place blocks symbol r) (Some call)

module _ (call blocks first s b : ℕ) (symbol_in : s < 14) (block_in : b < blocks) where
  -- a place of the table after one REG is taken, by whether the REG stands there
  taken_at : (table : List (Option ℕ)) (r : Reg) (rest t : Bool) → first + r.symbol < 14 → r.block < blocks
      → length table ≡ 14 * blocks → stands first s b r ≡ t
      → cond rest (Some call) (get_or (taken call blocks first table r) (s * blocks + b) None)
      ≡ cond (t || rest) (Some call) (get_or table (s * blocks + b) None)
  taken_at table r rest true h k size e =
      let parts = and_parts (first + r.symbol == s) (r.block == b) e in
      let symbol : first + r.symbol ≡ s = eqb-true (first + r.symbol) s parts.0 in
      let block : r.block ≡ b = eqb-true r.block b parts.1 in
      let here : owner_place blocks first r ≡ s * blocks + b = ap (λ n. n * blocks + r.block) symbol
      ∙ ap (λ n. s * blocks + n) block in
      let inside : owner_place blocks first r < length table =
      omega (arith, size, mul-add-lt (first + r.symbol) blocks r.block 14 h k) in
      let P : ℕ → Type 0 = λ n. get_or (taken call blocks first table r) n None ≡ Some call in
      let there = subst P here (get_or-set_same table (owner_place blocks first r) (Some call) None inside) in
      ap (cond rest (Some call)) there ∙ both rest
    where
      both : (c : Bool) → cond c (Some call) (Some call) ≡ Some call
      both true = refl
      both false = refl
  taken_at table r rest false h k size e =
      let other : s * blocks + b ≢ owner_place blocks first r = λ same.
      let parts = same_place blocks s b (first + r.symbol) r.block block_in k same in
      let stood : stands first s b r ≡ true =
      and_from (first + r.symbol == s) (r.block == b) (eq-eqb (first + r.symbol) s (sym parts.0))
      (eq-eqb r.block b (sym parts.1)) in
      let clash : false ≡ true = sym e ∙ stood in cc in
      ap (cond rest (Some call)) (get_or-set_other table (owner_place blocks first r) (s * blocks + b) (Some call) None other)

  -- a place of the table after all are
  all_taken : (table : List (Option ℕ)) (regs : List Reg) → AreOn blocks first regs → length table ≡ 14 * blocks
      → get_or (fold (taken call blocks first) table regs) (s * blocks + b) None
      ≡ cond (list_any (stands first s b) regs) (Some call) (get_or table (s * blocks + b) None)
  all_taken table [] on size = refl
  all_taken table (r ∷ regs) on size =
      let here = on 0 (omega arith) in
      all_taken (taken call blocks first table r) regs (λ j h. on (suc j) (omega (arith, h)))
      (length-set table (owner_place blocks first r) (Some call) ∙ size)
      ∙ taken_at table r (list_any (stands first s b) regs) (stands first s b r) here.0 here.1 size refl

or_true : (b c : Bool) → (b ≡ true) ⊎ (c ≡ true) → (b || c) ≡ true
or_true true c h = refl
or_true false c (inl h) = cc
or_true false c (inr h) = h

-- of two watches that have the REG in a symbol and a block, one shares it with the other
pub share : (v : Watch) (first s b : ℕ) (regs : List Reg) → list_any (stands first s b) regs ≡ true → has_reg v s b ≡ true
    → list_any (λ (r : Reg). has_reg v (first + r.symbol) r.block) regs ≡ true
share v first s b [] e h = cc
share v first s b (r ∷ regs) e h = by (stands first s b r) refl e (λ k. share v first s b regs k h)
  where
    by : (t : Bool) → stands first s b r ≡ t → (t || list_any (stands first s b) regs) ≡ true
        → (list_any (stands first s b) regs ≡ true → list_any (λ (x : Reg). has_reg v (first + x.symbol) x.block) regs ≡ true)
        → (has_reg v (first + r.symbol) r.block || list_any (λ (x : Reg). has_reg v (first + x.symbol) x.block) regs) ≡ true
    by true f k later =
        let parts = and_parts (first + r.symbol == s) (r.block == b) f in
        let P : ℕ → Type 0 = λ n. has_reg v n b ≡ true in
        let Q : ℕ → Type 0 = λ n. has_reg v (first + r.symbol) n ≡ true in
        or_true _ _ (inl (subst Q (sym (eqb-true r.block b parts.1)) (subst P (sym (eqb-true (first + r.symbol) s parts.0)) h)))
    by false f k later = or_true _ _ (inr (later k))

or_none : (o : Option Accepted) → option_or o None ≡ o
or_none None = refl
or_none (Some a) = refl

-- the table with one grant more, whose watch no accepted grant meets
pub owned_is : (blocks : ℕ) (members : List Member) (accepted : List Accepted) (owners : List (Option ℕ)) (a : Accepted)
    → AreOwners blocks members accepted owners → IsInside blocks (watch_of members a)
    → first_meeting members accepted (watch_of members a) ≡ None
    → AreOwners blocks members (accepted ++ a ∷ [])
    (owned a.call blocks (watch_of members a).symbol owners (watch_of members a).regs.items)
unfolding owned
owned_is blocks members accepted owners a table inside free =
    let w = watch_of members a in
    record {
      size = length-taken a.call blocks w.symbol owners w.regs.items ∙ table.size;
      each = λ s b h k.
          let has : Accepted → Bool = λ x. has_reg (watch_of members x) s b in
          all_taken a.call blocks w.symbol s b h k owners w.regs.items inside table.size
          ∙ ap (cond (has_reg w s b) (Some a.call)) (table.each s b h k)
          ∙ by s b (has_reg w s b) refl
          ∙ ap (option_map (λ (x : Accepted). x.call)) (sym (find-append has accepted (a ∷ [])));
    }
  where
    by : (s b : ℕ) (t : Bool) → has_reg (watch_of members a) s b ≡ t
        → cond t (Some a.call) (owner members accepted s b)
        ≡ option_map (λ (x : Accepted). x.call)
        (option_or (find (λ (x : Accepted). has_reg (watch_of members x) s b) accepted)
        (cond (has_reg (watch_of members a) s b) (Some a) None))
    by s b true e =
        let w = watch_of members a in
        let has : Accepted → Bool = λ x. has_reg (watch_of members x) s b in
        let none : find has accepted ≡ None =
        find_narrower (λ (x : Accepted). shares_reg w (watch_of members x)) has accepted
        (λ x h. share (watch_of members x) w.symbol s b w.regs.items e h) free in
        sym (ap (λ (o : Option Accepted). option_map (λ (x : Accepted). x.call)
        (option_or o (cond (has_reg w s b) (Some a) None))) none
        ∙ ap (λ (t : Bool). option_map (λ (x : Accepted). x.call) (option_or None (cond t (Some a) None))) e)
    by s b false e =
        let has : Accepted → Bool = λ x. has_reg (watch_of members x) s b in
        sym (ap (λ (t : Bool). option_map (λ (x : Accepted). x.call) (option_or (find has accepted) (cond t (Some a) None))) e
        ∙ ap (option_map (λ (x : Accepted). x.call)) (or_none (find has accepted)))
