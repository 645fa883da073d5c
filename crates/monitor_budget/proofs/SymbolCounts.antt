-- What a tally counts, one symbol of a set more.
use Rattle.std.proofs.Common.{◌≡◌, ℕ, ◌+◌, ◌-◌, ◌<◌, Bool, true, false, List, [], ◌∷◌, ◌++◌, map, sym, ◌∙◌, ap, subst}
use Rattle.std.proofs.Common.{cond, arith}
use Rattle.std.specs.List.{range_with_len, flat_map, filter}
use Rattle.std.proofs.lemmas.List.{append-nil, append_assoc, map-append}
use Rattle.std.proofs.lemmas.List.Elements.{filter-append}
use Rattle.std.proofs.lemmas.Grind.{flat_map-append}
use Rattle.list_facts.proofs.Ranges.{range_more}
use Rattle.coreset_map.proofs.Cces.{range-append}
use Rattle.rrc_settings.specs.BitSets.{has_bit}
use Rattle.rrc_settings.specs.declared.settings.SearchSet.{SearchSet}
use Rattle.monitor_budget.specs.declared.counted.Counted.{Counted}
use Rattle.monitor_budget.specs.Counts.{Cce, counted_as, cces_of_candidate}
use Rattle.monitor_budget.specs.SetCandidates.{symbol_candidates, candidates_among}
use Rattle.monitor_budget.specs.Tally.{AddsCounted, AddsCces, FillsRoom}
use Rattle.monitor_budget.proofs.Adding.{counted_then, cces_then}

-- those of some symbols and of others
among_both : (cces : ℕ) (sizes : List ℕ) (s : SearchSet) (xs ys : List ℕ)
    → candidates_among cces sizes s (xs ++ ys) ≡ candidates_among cces sizes s xs ++ candidates_among cces sizes s ys
among_both cces sizes s xs ys =
    let p = has_bit s.symbols in
    let f = symbol_candidates cces sizes s in
    ap (flat_map f) (filter-append p xs ys) ∙ flat_map-append f (filter p xs) (filter p ys)

-- of a symbol at which the set begins there are all that begin at it
pub among-begun : (cces : ℕ) (sizes : List ℕ) (s : SearchSet) (symbol : ℕ) → has_bit s.symbols symbol ≡ true
    → symbol_candidates cces sizes s symbol ≡ candidates_among cces sizes s (symbol ∷ [])
among-begun cces sizes s symbol e =
    let f = symbol_candidates cces sizes s in
    sym (ap (λ b. flat_map f (cond b (symbol ∷ []) [])) e ∙ append-nil (f symbol))

-- and of another there are none
pub among-other : (cces : ℕ) (sizes : List ℕ) (s : SearchSet) (symbol : ℕ) → has_bit s.symbols symbol ≡ false
    → [] ≡ candidates_among cces sizes s (symbol ∷ [])
among-other cces sizes s symbol e =
    sym (ap (λ b. flat_map (symbol_candidates cces sizes s) (cond b (symbol ∷ []) [])) e)

-- the symbols so far and one more
among_more : (cces : ℕ) (sizes : List ℕ) (s : SearchSet) (n : ℕ)
    → candidates_among cces sizes s (range_with_len 0 (n + 1))
    ≡ candidates_among cces sizes s (range_with_len 0 n) ++ candidates_among cces sizes s (n ∷ [])
among_more cces sizes s n =
    ap (candidates_among cces sizes s) (range_more n) ∙ among_both cces sizes s (range_with_len 0 n) (n ∷ [])

-- their candidates are counted
pub counted_symbol : (cces : ℕ) (sizes : List ℕ) (s : SearchSet) (scramble n : ℕ) (old now next : List Counted)
    → AddsCounted old now (map (counted_as s scramble) (candidates_among cces sizes s (range_with_len 0 n)))
    → AddsCounted now next (map (counted_as s scramble) (candidates_among cces sizes s (n ∷ [])))
    → AddsCounted old next (map (counted_as s scramble) (candidates_among cces sizes s (range_with_len 0 (n + 1))))
counted_symbol cces sizes s scramble n old now next a b =
    let f = counted_as s scramble in
    let before = candidates_among cces sizes s (range_with_len 0 n) in
    let more = candidates_among cces sizes s (n ∷ []) in
    subst (λ (xs : List Counted). AddsCounted old next xs)
    (sym (ap (map f) (among_more cces sizes s n) ∙ map-append f before more))
    (counted_then old now next (map f before) (map f more) a b)

-- and their CCEs
pub cces_symbol : (cces : ℕ) (sizes : List ℕ) (s : SearchSet) (n : ℕ) (old now next : List Bool)
    → AddsCces old now (flat_map (cces_of_candidate s) (candidates_among cces sizes s (range_with_len 0 n)))
    → AddsCces now next (flat_map (cces_of_candidate s) (candidates_among cces sizes s (n ∷ [])))
    → AddsCces old next (flat_map (cces_of_candidate s) (candidates_among cces sizes s (range_with_len 0 (n + 1))))
cces_symbol cces sizes s n old now next a b =
    let f = cces_of_candidate s in
    let before = candidates_among cces sizes s (range_with_len 0 n) in
    let more = candidates_among cces sizes s (n ∷ []) in
    subst (λ (xs : List Cce). AddsCces old next xs)
    (sym (ap (flat_map f) (among_more cces sizes s n) ∙ flat_map-append f before more))
    (cces_then old now next (flat_map f before) (flat_map f more) a b)

-- a room that is filled after some candidates is filled by all
fills_then : (room : ℕ) (old mid new before more later whole : List Counted) → AddsCounted old mid before
    → FillsRoom room mid new more → whole ≡ (before ++ more) ++ later → FillsRoom room old new whole
fills_then room old mid new before more later whole a f e = record {
  front = before ++ f.front;
  rest = f.rest ++ later;
  are = e ∙ ap (λ xs. (before ++ xs) ++ later) f.are ∙ ap (λ xs. xs ++ later) (sym (append_assoc before f.front f.rest))
      ∙ append_assoc (before ++ f.front) f.rest later;
  counted = counted_then old mid new before f.front a f.counted;
  full = f.full;
}

-- a symbol of a set fills the room
pub fills_symbol : (room cces : ℕ) (sizes : List ℕ) (s : SearchSet) (scramble n : ℕ) (old mid new : List Counted) → n < 14
    → AddsCounted old mid (map (counted_as s scramble) (candidates_among cces sizes s (range_with_len 0 n)))
    → FillsRoom room mid new (map (counted_as s scramble) (candidates_among cces sizes s (n ∷ [])))
    → FillsRoom room old new (map (counted_as s scramble) (candidates_among cces sizes s (range_with_len 0 14)))
fills_symbol room cces sizes s scramble n old mid new l a f =
    let among = candidates_among cces sizes s in
    let g = counted_as s scramble in
    let last = range_with_len (0 + (n + 1)) (14 - (n + 1)) in
    let end : n + 1 + (14 - (n + 1)) ≡ 14 = omega (arith, l) in
    let all : range_with_len 0 (n + 1) ++ last ≡ range_with_len 0 14 =
    range-append 0 (n + 1) (14 - (n + 1)) ∙ ap (λ m. range_with_len 0 m) end in
    let split : among (range_with_len 0 14) ≡ (among (range_with_len 0 n) ++ among (n ∷ [])) ++ among last =
    ap among (sym all) ∙ among_both cces sizes s (range_with_len 0 (n + 1)) last
    ∙ ap (λ xs. xs ++ among last) (among_more cces sizes s n) in
    fills_then room old mid new (map g (among (range_with_len 0 n))) (map g (among (n ∷ []))) (map g (among last))
    (map g (among (range_with_len 0 14))) a f
    (ap (map g) split ∙ map-append g (among (range_with_len 0 n) ++ among (n ∷ [])) (among last)
    ∙ ap (λ xs. xs ++ map g (among last)) (map-append g (among (range_with_len 0 n)) (among (n ∷ []))))
