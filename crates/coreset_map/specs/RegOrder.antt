-- REGs in the order of their symbols, and in a symbol of their blocks.
use Rattle.std.specs.Prelude.{◌≡◌, ℕ, ◌+◌, ◌<◌, ◌≤◌, Bool, ◌&&◌, ◌==◌, List, length, slice_index_or}
use Rattle.coreset_map.specs.declared.places.Reg.{Reg}

-- REG j of a list
abbrev pub reg_at : List Reg → ℕ → Reg
reg_at regs j = slice_index_or regs j (record { symbol = 0; block = 0 })

-- whether two REGs are one
abbrev pub are_one_reg : Reg → Reg → Bool
are_one_reg a b = (a.symbol == b.symbol) && (a.block == b.block)

-- a REG stands before another: in an earlier symbol, or in the same one in a lower block
abbrev pub Precedes : Reg → Reg → Type 0
Precedes a b = (a.symbol ≤ b.symbol) × (a.symbol ≡ b.symbol → a.block < b.block)

-- REGs are listed by symbol, and in a symbol by block, each once
abbrev pub AreRegs : List Reg → Type 0
AreRegs regs = (i j : ℕ) → i < j → j < length regs → Precedes (reg_at regs i) (reg_at regs j)

-- each REG of a list is in one of the first symbols, and in a block below a number of blocks
abbrev pub AreWithin : ℕ → ℕ → List Reg → Type 0
AreWithin symbols blocks regs =
    (j : ℕ) → j < length regs → ((reg_at regs j).symbol < symbols) × ((reg_at regs j).block < blocks)

-- each REG of a list that begins in symbol `first` is in the slot, and in a block below a number of blocks
abbrev pub AreInside : ℕ → ℕ → List Reg → Type 0
AreInside first blocks regs =
    (j : ℕ) → j < length regs → (first + (reg_at regs j).symbol < 14) × ((reg_at regs j).block < blocks)

-- each REG of a list is in a block below a number of blocks
abbrev pub AreBlocksBelow : ℕ → List Reg → Type 0
AreBlocksBelow blocks regs = (j : ℕ) → j < length regs → (reg_at regs j).block < blocks
