-- The words of the fields.
use Rattle.std.specs.Prelude.{◌≡◌, ◌≢◌, ℕ, List, [], Option, codes, bytes_eq}
use Rattle.std.specs.List.{find}
use Rattle.dci_fields.specs.declared.names.FieldName.{FieldName}
use Rattle.dci_fields.specs.declared.names.FieldName.TheVariants as names
use Rattle.dci_fields.specs.declared.names.TheConstants.{NAMES}

-- the word that names a field; the identifier has none
abbrev pub word_of : FieldName → List ℕ
word_of names.Identifier = []
word_of names.Fdra = codes "fdra"
word_of names.Tdra = codes "tdra"
word_of names.Hopping = codes "hopping"
word_of names.Vrb = codes "vrb"
word_of names.Mcs = codes "mcs"
word_of names.Ndi = codes "ndi"
word_of names.Rv = codes "rv"
word_of names.Harq = codes "harq"
word_of names.Dai = codes "dai"
word_of names.Tpc = codes "tpc"
word_of names.Pucch = codes "pucch"
word_of names.Timing = codes "timing"
word_of names.Preamble = codes "preamble"
word_of names.Supplementary = codes "supplementary"
word_of names.Ssb = codes "ssb"
word_of names.Mask = codes "mask"
word_of names.Reserved = codes "reserved"
word_of names.Bwp = codes "bwp"
word_of names.Bundling = codes "bundling"
word_of names.RateMatch = codes "rate_match"
word_of names.ZpCsiRs = codes "zp_csi_rs"
word_of names.Mcs2 = codes "mcs2"
word_of names.Ndi2 = codes "ndi2"
word_of names.Rv2 = codes "rv2"
word_of names.Dai2 = codes "dai2"
word_of names.Sri = codes "sri"
word_of names.Precoding = codes "precoding"
word_of names.Ports = codes "ports"
word_of names.Tci = codes "tci"
word_of names.Srs = codes "srs"
word_of names.Csi = codes "csi"
word_of names.Cbgti = codes "cbgti"
word_of names.Flush = codes "flush"
word_of names.Ptrs = codes "ptrs"
word_of names.Beta = codes "beta"
word_of names.Dmrs = codes "dmrs"
word_of names.Ulsch = codes "ulsch"

-- a field that has a word is named by it
abbrev pub IsWordOf : FieldName → List ℕ → Type 0
IsWordOf name word = (name ≢ names.Identifier) × (word_of name ≡ word)

-- the field that a word names, none where no field has it
unfoldable pub field_named : List ℕ → Option FieldName
field_named word = find (λ (name : FieldName). bytes_eq (word_of name) word) NAMES
