-- The numbers that stand for the names of fields in C.
use Rattle.std.specs.Prelude.{◌≡◌, ◌↔◌, ℕ, Some, slice_get}
use Rattle.dci_fields.specs.declared.names.FieldName.{FieldName}
use Rattle.dci_fields.specs.declared.names.FieldName.TheVariants as names
use Rattle.nrpdcch_c.specs.declared.numbers.TheConstants.{NAMES}

-- the number of a name
abbrev pub name_number : FieldName → ℕ
name_number names.Identifier = 0
name_number names.Fdra = 1
name_number names.Tdra = 2
name_number names.Hopping = 3
name_number names.Vrb = 4
name_number names.Mcs = 5
name_number names.Ndi = 6
name_number names.Rv = 7
name_number names.Harq = 8
name_number names.Dai = 9
name_number names.Tpc = 10
name_number names.Pucch = 11
name_number names.Timing = 12
name_number names.Preamble = 13
name_number names.Supplementary = 14
name_number names.Ssb = 15
name_number names.Mask = 16
name_number names.Reserved = 17
name_number names.Bwp = 18
name_number names.Bundling = 19
name_number names.RateMatch = 20
name_number names.ZpCsiRs = 21
name_number names.Mcs2 = 22
name_number names.Ndi2 = 23
name_number names.Rv2 = 24
name_number names.Dai2 = 25
name_number names.Sri = 26
name_number names.Precoding = 27
name_number names.Ports = 28
name_number names.Tci = 29
name_number names.Srs = 30
name_number names.Csi = 31
name_number names.Cbgti = 32
name_number names.Flush = 33
name_number names.Ptrs = 34
name_number names.Beta = 35
name_number names.Dmrs = 36
name_number names.Ulsch = 37

-- a number is that of one name, and the list has each name at its number
abbrev pub NumbersNameFields : Type 0
NumbersNameFields = (number : ℕ) (name : FieldName) → (slice_get NAMES number ≡ Some name) ↔ (name_number name ≡ number)
