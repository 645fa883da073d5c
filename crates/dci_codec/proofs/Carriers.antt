-- What a grid carries at a watch: the bits that it holds there are the code of one masked payload at most.
use Rattle.std.proofs.Common.{◌≡◌, ℕ, ◌+◌, ◌*◌, Bool, List, length, refl, ap, sym, subst, ◌∙◌, arith}
use Rattle.crc_mask.specs.Parity.{masked}
use Rattle.crc_mask.proofs.Masks.{length-masked, masked_once}
use Rattle.dmrs_qpsk.specs.Held.{Holds}
use Rattle.dmrs_qpsk.specs.PointsOnGrid.{image_of}
use Rattle.dmrs_qpsk.proofs.ImagesOnGrid.{image_within}
use Rattle.dmrs_qpsk.proofs.Takes.{one_held}
use Rattle.monitor_plan.specs.declared.watch.Watch.{Watch}
use Rattle.monitor_plan.specs.Watch.{IsCarrying, IsInside}
use Rattle.polar_chain.specs.CodeOfBlock.{code_by}
use Rattle.polar_chain.proofs.CodesByTables.{code_by_once, length-code_by}
use Rattle.slot_grid.specs.Grid.{GridValue}
use Rattle.slot_grid.specs.Image.{Agrees}
use Rattle.slot_grid.proofs.Images.{IsWithin}
use Rattle.table_files.specs.declared.tables.Tables.{Tables}
use Rattle.dci_codec.specs.BlockImage.{block_image}
use Rattle.dci_codec.specs.Hearing.{AreTables, IsCarried}
use Rattle.dci_codec.specs.Scrambling.{scrambled}
use Rattle.dci_codec.specs.Silences.{IsCodeAt, IsReceived}
use Rattle.dci_codec.proofs.CodableBlocks.{enough_at}
use Rattle.dci_codec.proofs.Scrambles.{length-scrambled, scrambled_twice, scrambled_once}

-- how many bits a block has at a watch
abbrev pub block_len : Watch → ℕ
block_len w = w.size + 24

-- how many bits are sent there
abbrev pub sent_len : Watch → ℕ
sent_len w = 108 * w.level

-- the code of a block at a watch
abbrev pub code : Tables → Watch → List Bool → List Bool
code tables w = code_by tables.reliability tables.input_order (block_len w) (sent_len w)

-- the bits that a block is sent in
abbrev pub sent : Tables → Watch → List Bool → List Bool
sent tables w block = scrambled w.scramble (code tables w block)

-- what a block writes are the points of these bits
pub image_is : (tables : Tables) (slot : ℕ) (w : Watch) (block : List Bool)
    → block_image tables slot w block ≡ image_of slot w.symbol w.dmrs_id w.regs.items (sent tables w block)
unfolding block_image
image_is tables slot w block = refl

length-sent : (tables : Tables) (w : Watch) (block : List Bool) → IsCarrying w
    → length (sent tables w block) ≡ 18 * length w.regs.items
length-sent tables w block keeps =
    let a = length-scrambled w.scramble (code tables w block) in
    let b = length-code_by tables.reliability tables.input_order (block_len w) (sent_len w) block in
    a ∙ b ∙ omega (arith, keeps.count)

-- a payload with its parity is a block of the watch
pub length_block : (w : Watch) (payload : List Bool) → length payload ≡ w.size → length (masked payload w.rnti) ≡ block_len w
length_block w payload e = length-masked payload w.rnti ∙ omega (arith, e)

-- where a grid carries a payload, the code of the masked payload is received
pub received_sent : (tables : Tables) (grid : GridValue) (w : Watch) (payload : List Bool) → IsCarrying w
    → IsCarried tables grid w payload
    → IsReceived grid w (code tables w (masked payload w.rnti))
received_sent tables grid w payload keeps h = (
  length-sent tables w (masked payload w.rnti) keeps,
  subst (Agrees grid)
      (image_is tables grid.slot w (masked payload w.rnti)) h.1,
)

-- one list of bits at most is received
pub one_received : (grid : GridValue) (w : Watch) (bits other : List Bool) → IsCarrying w → IsReceived grid w bits
    → IsReceived grid w other → bits ≡ other
one_received grid w bits other keeps h g =
    scrambled_once w.scramble bits other
    (one_held grid w.symbol w.dmrs_id w.regs.items (scrambled w.scramble bits) (scrambled w.scramble other) keeps.order h g)

-- bits that are held are received without their scrambling
pub received_from : (grid : GridValue) (w : Watch) (held bits : List Bool) → bits ≡ scrambled w.scramble held
    → Holds grid w.symbol w.dmrs_id w.regs.items held → IsReceived grid w bits
received_from grid w held bits e h =
    subst (Holds grid w.symbol w.dmrs_id w.regs.items) (sym (ap (scrambled w.scramble) e ∙ scrambled_twice w.scramble held)) h

-- where the code of a masked payload is received, the grid carries it
pub carried_from : (tables : Tables) (grid : GridValue) (w : Watch) (bits block payload : List Bool)
    → IsReceived grid w bits → IsCodeAt tables w bits block → masked payload w.rnti ≡ block → IsCarried tables grid w payload
carried_from tables grid w bits block payload h g e =
    let same : bits ≡ code tables w (masked payload w.rnti) = sym g.1 ∙ ap (code tables w) (sym e) in
    let long : length (masked payload w.rnti) ≡ block_len w = ap length e ∙ g.0 in
    let P : List Bool → Type 0 = λ b.
    Agrees grid (image_of grid.slot w.symbol w.dmrs_id w.regs.items (scrambled w.scramble b)) in (
      omega (arith, long, length-masked payload w.rnti),
      subst (Agrees grid) (sym (image_is tables grid.slot w (masked payload w.rnti))) (subst P same h.1),
    )

-- no two blocks have one code
pub one_block : (tables : Tables) (w : Watch) (c other : List Bool) → AreTables tables → IsCarrying w
    → length c ≡ block_len w → length other ≡ block_len w
    → code tables w c ≡ code tables w other → c ≡ other
one_block tables w c other legal keeps h g e =
    let longest = keeps.longest in
    let enough = enough_at w.size w.level keeps.shortest keeps.longest keeps.room keeps.level in
    code_by_once tables.reliability tables.input_order (block_len w) (sent_len w) c other legal.0 legal.1
    (omega (arith, longest)) enough h g e

-- a grid carries one payload at most
pub carried_once : (tables : Tables) (grid : GridValue) (w : Watch) (payload other : List Bool) → AreTables tables → IsCarrying w
    → IsCarried tables grid w payload → IsCarried tables grid w other → payload ≡ other
carried_once tables grid w payload other legal keeps h g =
    let a = masked payload w.rnti in
    let b = masked other w.rnti in
    masked_once payload other w.rnti
    (one_block tables w a b legal keeps (length_block w payload h.0) (length_block w other g.0)
    (one_received grid w (code tables w a) (code tables w b) keeps (received_sent tables grid w payload keeps h)
    (received_sent tables grid w other keeps g)))

-- a watch's image is on the grid
pub image_on : (tables : Tables) (grid : GridValue) (slot : ℕ) (w : Watch) (block : List Bool) → IsInside grid.blocks w
    → IsWithin grid (block_image tables slot w block)
image_on tables grid slot w block inside =
    subst (IsWithin grid) (sym (image_is tables slot w block))
    (image_within grid slot w.symbol w.dmrs_id w.regs.items (sent tables w block) inside)
