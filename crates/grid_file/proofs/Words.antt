-- Words, byte by byte, and a word before a number.
use Rattle.std.proofs.Common.{◌≡◌, ℕ, ◌+◌, ◌-◌, ◌<◌, ◌≤◌, List, [], ◌++◌, length, take, drop, sym, ◌∙◌, ap, subst}
use Rattle.std.proofs.Common.{arith, length-append, append_assoc}
use Rattle.std.proofs.Math.Seq.{take-append-add}
use Rattle.std.proofs.lemmas.List.{append_cancel_left, length-drop, take-append-drop, get_or_append_left, get_or-append-add}
use Rattle.std.specs.Fmt.{decimal}
use Rattle.grid_file.specs.Fields.{AgreesPast, IsWord, LeavesWord, LeavesField, LeavesFieldAt}

-- the first n bytes of a word stand at a place
pub record WordSoFar (bytes : List ℕ) (at : ℕ) (word : List ℕ) (n : ℕ) : Type 0 where
  pub within : at + n ≤ length bytes
  pub same : take n (drop at bytes) ≡ take n word

-- bytes that leave the word leave the field
pub word_leaves : (word : List ℕ) (least limit : ℕ) (bytes : List ℕ) (at place : ℕ) → least < limit
    → LeavesWord word bytes at place
    → LeavesFieldAt word least limit bytes at place
word_leaves word least limit bytes at place range leaves =
    let k = place - at in
    let left : length (drop at bytes) ≡ length bytes - at = length-drop at bytes in
    record {
      least_place = leaves.least;
      leaves = record {
        within = omega (arith, leaves.within);
        begins = (
          least,
          drop k word ++ decimal least,
          omega arith,
          range,
          ap (λ xs. xs ++ decimal least) (sym (take-append-drop k word))
              ∙ append_assoc (take k word) (drop k word) (decimal least)
              ∙ ap (λ xs. xs ++ (drop k word ++ decimal least)) (sym leaves.before),
        );
        blocked = λ value rest low high ends agrees.
            let size = length-append word (decimal value) in
            let whole = length-append (word ++ decimal value) rest in
            let here =
            get_or_append_left (word ++ decimal value) rest 0 k (omega (arith, leaves.inside))
            ∙ get_or_append_left word (decimal value) 0 k leaves.inside in
            let long = agrees.longer (omega (arith, leaves.inside)) in
            leaves.there (omega (arith, leaves.least)) (sym agrees.there ∙ here);
      };
    }

agrees_behind : (word text bytes : List ℕ) (place : ℕ) → AgreesPast (length word + place) (word ++ text) (word ++ bytes)
    → AgreesPast place text bytes
agrees_behind word text bytes place agrees =
    let one = length-append word text in
    let two = length-append word bytes in
    record {
      before =
          append_cancel_left word (take place text) (take place bytes)
          (sym (take-append-add word text place) ∙ agrees.before ∙ take-append-add word bytes place);
      longer = λ h. let long = agrees.longer (omega arith) in omega arith;
      shorter = λ h. let long = agrees.shorter (omega arith) in omega arith;
      there = sym (get_or-append-add word text place 0) ∙ agrees.there ∙ get_or-append-add word bytes place 0;
    }

-- the number behind a word
leaves_behind : (word : List ℕ) (least limit : ℕ) (bytes : List ℕ) (place : ℕ) → LeavesField [] least limit bytes place
    → LeavesField word least limit (word ++ bytes) (length word + place)
leaves_behind word least limit bytes place leaves = record {
  within = omega (arith, length-append word bytes, leaves.within);
  begins =
      let (value, rest, low, high, is) = leaves.begins in (
        value,
        rest,
        low,
        high,
        ap (λ xs. word ++ xs) is ∙ sym (append_assoc word (take place bytes) rest)
            ∙ ap (λ xs. xs ++ rest) (sym (take-append-add word bytes place)),
      );
  blocked = λ value rest low high ends agrees.
      leaves.blocked value rest low high ends
      (agrees_behind word (decimal value ++ rest) bytes place
      (subst (λ t. AgreesPast (length word + place) t (word ++ bytes)) (append_assoc word (decimal value) rest) agrees));
}

-- bytes that leave the number behind the word leave the field
pub leaves_number : (word : List ℕ) (least limit : ℕ) (bytes : List ℕ) (at middle place : ℕ) → IsWord bytes at word middle
    → LeavesFieldAt [] least limit bytes middle place → LeavesFieldAt word least limit bytes at place
leaves_number word least limit bytes at middle place is leaves =
    let here : length word + (place - middle) ≡ place - at = omega (arith, is.far, leaves.least_place) in
    record {
      least_place = omega (arith, is.far, leaves.least_place);
      leaves =
          subst (λ b. LeavesField word least limit b (place - at)) (sym is.is)
          (subst (λ m. LeavesField word least limit (word ++ drop middle bytes) m) here
          (leaves_behind word least limit (drop middle bytes) (place - middle) leaves.leaves));
    }
