use Rattle.std.proofs.Common.{ℕ, List, Bool, ◌≡◌, ◌+◌, ◌-◌, ◌<◌, ap, arith, false, get_or, length, set, subst, sym}
use Rattle.std.proofs.Common.{◌∙◌, true, length-set}
use Rattle.rate_match.proofs.Subblocks.{in_subblocks}
use Rattle.polar_sets.proofs.Information.{information_is}
use Rattle.polar_sets.proofs.Taken.{IsTaken, information_same, same_flags, taken_all, taken_frozen, taken_more, taken_none}
use Rattle.polar_sets.specs.FrozenPlaces.{is_free}
use Rattle.polar_sets.specs.InformationPositions.{information, is_in}
use Rattle.bits_core.specs.Bits.{bit_of}
use Rattle.rate_match.specs.MotherCode.{length_of}
use Rattle.table_files.specs.Permutation.{IsTable}
use Rattle.polar_sets.proofs.position_set.positions.Goals as goal
use Rattle.polar_sets.proofs.position_set.positions.Goals.{then-is_free, else-is_free}
use Rattle.bits_core.specs.Row.{row_bits}
use Rattle.std.proofs.Common.{refl, replicate}
use Rattle.polar_sets.proofs.position_set.positions.Goals.{Left-loop-back, else-loop-back-test, then-loop-back-test+then-left-eq0}

no_flags : row_bits (replicate 8 0) 512 ≡ replicate 512 false
no_flags = refl

pub loop-back-init : goal.loop-back-init
loop-back-init c =
    let n = length_of c.args.k c.args.e in
    let none : c.of_words-flags.result ≡ replicate 512 false = c.of_words-flags.ensures ∙ no_flags in
    record {
      len = ap (λ (flags : List Bool). length flags) none;
      taken =
          λ table.
          subst (λ (flags : List Bool). IsTaken c.args.reliability.now n c.args.k c.args.e 1024 flags c.args.k) (sym none)
          (taken_none c.args.reliability.now n c.args.k c.args.e table.long);
      table = λ l. absurd (omega arith);
      begun = λ none. absurd (omega arith);
    }

pub loop-back-preserved : goal.loop-back-preserved
loop-back-preserved c =
    let l = c.loop-back in
    let table = c.at.ensures.table in
    let xs = c.args.reliability.now in
    let k = c.args.k in
    let e = c.args.e in
    let n = length_of k e in
    let x = c.from-position.result in
    let from = 1024 - (l.back + 1) in
    let next : 1024 - l.back ≡ from + 1 = omega arith in
    let before : IsTaken xs n k e (from + 1) l.flags l.left =
    subst (λ (i : ℕ). IsTaken xs n k e i l.flags l.left) next (l.invariant.taken table) in
    let inside : from < length xs = (let long = table.long in omega arith) in
    let place : 1023 - l.back ≡ from = omega arith in
    let entry : x ≡ get_or xs from 0 = c.from-position.ensures ∙ c.at.ensures.entry ∙ ap (λ (i : ℕ). get_or xs i 0) place in
    let free : c.is_free.result ≡ is_free n k e x =
    c.is_free.ensures.free ∙ ap (λ (m : ℕ). is_free m k e x) c.length_for-n.ensures.length in
    let limit = (in_subblocks c.length_for-n.result c.length_for-n.ensures.legal).limit in
    let flags = c.if-is_free.flags in
    let left = c.if-is_free.left in
    elim c.if-is_free.branch [
      | then-is_free w ↦
          let set_is : flags ≡ set l.flags x true = w.flags-is ∙ w.set.ensures in
          let within = c.is_free.ensures.within w.if-is_free.true in
          record {
            len = ap (λ (bits : List Bool). length bits) set_is ∙ length-set l.flags x true ∙ l.invariant.len;
            taken =
                λ h.
                same_flags xs n k e from flags (set l.flags x true) left (l.left - 1) set_is w.left-is
                (taken_more xs n k e from x l.flags l.left inside entry (omega arith) (sym free ∙ w.if-is_free.true)
                (omega arith) before);
            table = λ h. table;
            begun = λ none. omega arith;
          }
      | else-is_free w ↦
          record {
            len = ap (λ (bits : List Bool). length bits) w.flags-is ∙ l.invariant.len;
            taken =
                λ h.
                same_flags xs n k e from flags l.flags left l.left w.flags-is w.left-is
                (taken_frozen xs n k e from x l.flags l.left inside entry (sym free ∙ w.if-is_free.false) before);
            table = λ h. table;
            begun = λ none. omega arith;
          }
    ]

pub invariant_of-result : goal.invariant_of-result
invariant_of-result c = c.loop-back.invariant.len

table_is : (c : Left-loop-back) → IsTable 1024 c.args.reliability.now
table_is c =
    let l = c.loop-back in
    elim c.loop-back-test.branch [
      | else-loop-back-test w ↦ l.invariant.table (omega arith)
      | then-loop-back-test+then-left-eq0 w ↦ l.invariant.table (l.invariant.begun w.if-left-eq0.true)
    ]

pub returns-clause-positions : goal.returns-clause-positions
returns-clause-positions c =
    let l = c.loop-back in
    let table = table_is c in
    let done : 0 < 1024 - l.back → l.left ≡ 0 =
    λ h. elim c.loop-back-test.branch [
      | else-loop-back-test w ↦ absurd (omega arith)
      | then-loop-back-test+then-left-eq0 w ↦ w.if-left-eq0.true
    ] in
    taken_all c.args.reliability.now (length_of c.args.k c.args.e) c.args.k c.args.e (1024 - l.back) l.flags l.left
    (let long = table.long in omega arith) done (l.invariant.taken table)

pub returns-clause-information : goal.returns-clause-information
returns-clause-information c =
    let n = length_of c.args.k c.args.e in
    information_same n c.args.k c.args.e (bit_of c.loop-back.flags)
    (is_in (information c.args.reliability.now n c.args.k c.args.e))
    (returns-clause-positions c)
    (information_is c.args.reliability.now c.args.k c.args.e (table_is c) c.requires.enough)
