-- The code by the two tables.
use Rattle.std.proofs.Common.{ℕ, ◌≡◌, ◌≤◌, Bool, List, length, ap, sym, ◌∙◌}
use Rattle.std.proofs.Math.Path.{fun_ext}
use Rattle.bits_core.specs.Bits.{bit_of}
use Rattle.polar_sets.proofs.Entries.{order_is}
use Rattle.polar_sets.proofs.Information.{information_is}
use Rattle.polar_sets.specs.Enough.{Enough}
use Rattle.polar_sets.specs.InformationPositions.{information, is_in}
use Rattle.polar_sets.specs.InputOrder.{order_from}
use Rattle.rate_match.proofs.Lengths.{length_legal}
use Rattle.rate_match.proofs.Unselected.{positive}
use Rattle.rate_match.specs.Repeats.{RepeatsBelow}
use Rattle.table_files.specs.Permutation.{IsTable}
use Rattle.rate_match.specs.MotherCode.{length_of}
use Rattle.polar_chain.specs.CodeOfBlock.{code_by, code_of}
use Rattle.polar_chain.specs.CodeShape.{CodeShape, IsByTables, coded}
use Rattle.polar_chain.specs.Decoding.{IsBlockBy, IsBlockOf}
use Rattle.polar_chain.proofs.CodeBlocks.{code_of_once, code_of_repeats, length-code_of}

-- what is coded by tables is the code by these
pub coded_by_tables : (reliability input_order : List ℕ) (k e : ℕ) (s : CodeShape) (c : List Bool) →
    IsByTables reliability input_order k e s → coded s c ≡ code_by reliability input_order k e c
unfolding coded code_by
coded_by_tables reliability input_order k e s c q =
    let code : ℕ → ℕ → List ℕ → (ℕ → Bool) → List Bool = λ x y order info. code_of (length_of x y) x y order info c in
    ap (λ (x : ℕ). code x s.coded_len s.order (bit_of s.positions)) q.block_is
    ∙ ap (λ (x : ℕ). code k x s.order (bit_of s.positions)) q.coded_is
    ∙ ap (λ (order : List ℕ). code k e order (bit_of s.positions)) q.order_by
    ∙ ap (code k e (order_from input_order k)) (fun_ext q.positions_by)

-- so is the block of a code
pub block_by_tables : (reliability input_order : List ℕ) (k e : ℕ) (s : CodeShape) (bits c : List Bool) →
    IsByTables reliability input_order k e s → IsBlockOf s bits c → IsBlockBy reliability input_order k e bits c
block_by_tables reliability input_order k e s bits c q h = (
  h.0 ∙ q.block_is,
  sym (coded_by_tables reliability input_order k e s c q) ∙ h.1,
)

-- a block by the tables is one of the code
pub block_of_tables : (reliability input_order : List ℕ) (k e : ℕ) (s : CodeShape) (bits c : List Bool) →
    IsByTables reliability input_order k e s → IsBlockBy reliability input_order k e bits c → IsBlockOf s bits c
block_of_tables reliability input_order k e s bits c q h = (
  h.0 ∙ sym q.block_is,
  coded_by_tables reliability input_order k e s c q ∙ h.1,
)

-- the code by the tables has as many bits as are sent
pub length-code_by : (reliability input_order : List ℕ) (k e : ℕ) (c : List Bool)
    → length (code_by reliability input_order k e c) ≡ e
unfolding code_by
length-code_by reliability input_order k e c =
    let n = length_of k e in
    length-code_of n k e (order_from input_order k) (is_in (information reliability n k e)) c

-- a code has no repeat that differs
pub code_by_repeats : (reliability input_order : List ℕ) (k e : ℕ) (c : List Bool) →
    RepeatsBelow (length_of k e) (code_by reliability input_order k e c) e
unfolding code_by
code_by_repeats reliability input_order k e c =
    let n = length_of k e in
    code_of_repeats n k e (order_from input_order k) (is_in (information reliability n k e)) c (positive n (length_legal k e))

-- no two blocks have one code
pub code_by_once : (reliability input_order : List ℕ) (k e : ℕ) (c other : List Bool) → IsTable 1024 reliability →
    IsTable 164 input_order → k ≤ 164 → Enough k e → length c ≡ k → length other ≡ k →
    code_by reliability input_order k e c ≡ code_by reliability input_order k e other → c ≡ other
unfolding code_by
code_by_once reliability input_order k e c other r o few enough h g same =
    let n = length_of k e in
    code_of_once n k e (order_from input_order k) (is_in (information reliability n k e)) c other (length_legal k e)
    (order_is input_order k o few) (information_is reliability k e r enough) h g same

-- so received bits are the code of one block at most
pub block_by : (reliability input_order : List ℕ) (k e : ℕ) (bits c other : List Bool) → IsTable 1024 reliability →
    IsTable 164 input_order → k ≤ 164 → Enough k e → IsBlockBy reliability input_order k e bits c →
    IsBlockBy reliability input_order k e bits other → c ≡ other
block_by reliability input_order k e bits c other r o few enough h g =
    code_by_once reliability input_order k e c other r o few enough h.0 g.0 (h.1 ∙ sym g.1)
