-- Control resource sets (3GPP TS 38.211, 7.3.2.2): the resource-element groups (REGs) of each control-channel element (CCE).
use Rattle.std.specs.Prelude.{◌≡◌, ℕ, ◌+◌, ◌*◌, ◌/◌, ◌%◌, ◌<◌, ◌≤◌, ⊤, true, List, [], ◌∷◌, Option, Some, None, map}
use Rattle.std.specs.Prelude.{length, slice_index, All, AllPairs}
use Rattle.std.specs.List.{range_with_len, flat_map}
use Rattle.rrc_settings.specs.Numbers.{is_one_of}
use Rattle.rrc_settings.specs.ControlGroups.{group_block, cces_in}
use Rattle.coreset_map.specs.declared.interleaver.Interleaver.{Interleaver}
use Rattle.coreset_map.specs.declared.places.Reg.{Reg}

-- a control resource set: the common block at which its bandwidth part starts, its groups of six blocks, rising,
-- how many symbols it lasts, and how its bundles are interleaved, where they are
pub record Resources : Type 0 where
  pub start : ℕ
  pub groups : List ℕ
  pub duration : ℕ
  pub interleaver : Option Interleaver

-- the blocks of the set, rising
unfoldable pub blocks_of : Resources → List ℕ
blocks_of resources = flat_map (λ group. range_with_len (group_block resources.start group) 6) resources.groups

-- how many CCEs the set has
abbrev pub cce_count : Resources → ℕ
cce_count resources = cces_in (length resources.groups) resources.duration

-- how many REGs the set has
abbrev pub reg_count : Resources → ℕ
reg_count resources = length (blocks_of resources) * resources.duration

-- REG i: they are counted by symbol first, and then by block
unfoldable pub reg_of : Resources → ℕ → Reg
reg_of resources i =
    record { symbol = i % resources.duration; block = slice_index (blocks_of resources) (i / resources.duration) }

-- how many REGs a bundle has
abbrev pub bundle_size : Option Interleaver → ℕ
bundle_size None = 6
bundle_size (Some interleaver) = interleaver.bundle

-- the REGs of bundle i
unfoldable pub bundle_of : Resources → ℕ → List Reg
bundle_of resources i =
    let size = bundle_size resources.interleaver in map (reg_of resources) (range_with_len (i * size) size)

-- the bundle that comes at place x, of a set of `count` REGs: place column * rows + row has bundle row * columns + column,
-- shifted round the set
unfoldable pub interleaved : Option Interleaver → ℕ → ℕ → ℕ
interleaved None count x = x
interleaved (Some i) count x =
    let columns = count / (i.bundle * i.rows) in (x % i.rows * columns + x / i.rows + i.shift) % (count / i.bundle)

-- the REGs of CCE j, bundle by bundle
unfoldable pub cce_regs : Resources → ℕ → List Reg
cce_regs resources j =
    let size = bundle_size resources.interleaver in
    flat_map (λ k. bundle_of resources (interleaved resources.interleaver (reg_count resources) (6 * j / size + k)))
    (range_with_len 0 (6 / size))

-- an interleaver goes with a set of `count` REGs: bundles fill a CCE, and the REGs fill its rows
pub record IsInterleaver (count : ℕ) (i : Interleaver) : Type 0 where
  pub bundle : is_one_of (2 ∷ 3 ∷ 6 ∷ []) i.bundle ≡ true
  pub rows : is_one_of (2 ∷ 3 ∷ 6 ∷ []) i.rows ≡ true
  pub filled : count % (i.bundle * i.rows) ≡ 0

-- the bundles are not interleaved, or by an interleaver that goes with the set
abbrev pub GoesWith : ℕ → Option Interleaver → Type 0
GoesWith count None = ⊤
GoesWith count (Some interleaver) = IsInterleaver count interleaver

-- each group of six blocks ends at or before a block
abbrev pub AreBelow : ℕ → Resources → Type 0
AreBelow blocks resources = All (λ group. group_block resources.start group + 6 ≤ blocks) resources.groups

-- what the settings of a legal cell say of a control resource set
pub record AreResources (resources : Resources) : Type 0 where
  pub least : 1 ≤ resources.duration
  pub most : resources.duration ≤ 3
  pub rising : AllPairs (λ a b. a < b) resources.groups
  pub below : AreBelow 275 resources
  pub interleaver : GoesWith (6 * cce_count resources) resources.interleaver
