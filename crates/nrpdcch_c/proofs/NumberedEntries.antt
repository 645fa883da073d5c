-- Each number is that of one key, one format and one name.
use Rattle.std.proofs.Common.{arith, ◌≡◌, ℕ, ◌<◌, List, [], ◌∷◌, Some, get_or, length, map, refl, sym, ap, subst, ◌∙◌, slice_get}
use Rattle.std.specs.List.{range_with_len}
use Rattle.std.proofs.Math.ListN.{get_or-map}
use Rattle.std.proofs.lemmas.Option.{get_or_from_slice_get, slice_get_within}
use Rattle.std.proofs.lemmas.List.FromFn.{get_or-range_with_len}
use Rattle.rrc_settings.specs.declared.words.Key.{Key}
use Rattle.rrc_settings.specs.declared.words.Key.TheVariants as keys
use Rattle.dci_fields.specs.declared.formats.Format.{Format}
use Rattle.dci_fields.specs.declared.formats.Format.TheVariants as formats
use Rattle.dci_fields.specs.declared.names.FieldName.{FieldName}
use Rattle.dci_fields.specs.declared.names.FieldName.TheVariants as names
use Rattle.nrpdcch_c.specs.declared.numbers.TheConstants.{FORMATS, NAMES}
use Rattle.nrpdcch_c.specs.FormatNumbers.{format_number, NumbersNameFormats}
use Rattle.nrpdcch_c.specs.KeyNumbers.{key_number, NumbersNameKeys}
use Rattle.nrpdcch_c.specs.NameNumbers.{name_number, NumbersNameFields}

-- the keys by their numbers
abbrev all_keys : List Key
all_keys =
    keys.Version ∷ keys.Cell ∷ keys.Mu ∷ keys.Blocks ∷ keys.InitialDownlink ∷ keys.InitialUplink ∷ keys.Coreset0 ∷
    keys.Handsets ∷ keys.Name ∷ keys.Rnti ∷ keys.Downlink ∷ keys.Uplink ∷ keys.Codebook ∷ keys.Coresets ∷ keys.Sets ∷
    keys.UplinkFields ∷ keys.DownlinkFields ∷ keys.Start ∷ keys.Size ∷ keys.Number ∷ keys.Groups ∷ keys.Duration ∷
    keys.Interleave ∷ keys.DmrsId ∷ keys.Bundle ∷ keys.Rows ∷ keys.Shift ∷ keys.Coreset ∷ keys.Kind ∷ keys.Period ∷
    keys.Offset ∷ keys.Symbols ∷ keys.Candidates ∷ keys.Base ∷ keys.Bwps ∷ keys.Allocation ∷ keys.RbgConfig ∷ keys.Tdra ∷
    keys.Hopping ∷ keys.SecondDai ∷ keys.Transform ∷ keys.DmrsType ∷ keys.DmrsLength ∷ keys.SrsResources ∷ keys.CsiRequest ∷
    keys.Cbg ∷ keys.Ptrs ∷ keys.Beta ∷ keys.Interleaved ∷ keys.Bundling ∷ keys.RateMatch ∷ keys.ZpSets ∷ keys.Codewords ∷
    keys.Timing ∷ keys.Tci ∷ keys.Flush ∷ []

-- each key stands at its number
key_placed : (key : Key) → get_or all_keys (key_number key) keys.Version ≡ key
key_placed keys.Version = refl
key_placed keys.Cell = refl
key_placed keys.Mu = refl
key_placed keys.Blocks = refl
key_placed keys.InitialDownlink = refl
key_placed keys.InitialUplink = refl
key_placed keys.Coreset0 = refl
key_placed keys.Handsets = refl
key_placed keys.Name = refl
key_placed keys.Rnti = refl
key_placed keys.Downlink = refl
key_placed keys.Uplink = refl
key_placed keys.Codebook = refl
key_placed keys.Coresets = refl
key_placed keys.Sets = refl
key_placed keys.UplinkFields = refl
key_placed keys.DownlinkFields = refl
key_placed keys.Start = refl
key_placed keys.Size = refl
key_placed keys.Number = refl
key_placed keys.Groups = refl
key_placed keys.Duration = refl
key_placed keys.Interleave = refl
key_placed keys.DmrsId = refl
key_placed keys.Bundle = refl
key_placed keys.Rows = refl
key_placed keys.Shift = refl
key_placed keys.Coreset = refl
key_placed keys.Kind = refl
key_placed keys.Period = refl
key_placed keys.Offset = refl
key_placed keys.Symbols = refl
key_placed keys.Candidates = refl
key_placed keys.Base = refl
key_placed keys.Bwps = refl
key_placed keys.Allocation = refl
key_placed keys.RbgConfig = refl
key_placed keys.Tdra = refl
key_placed keys.Hopping = refl
key_placed keys.SecondDai = refl
key_placed keys.Transform = refl
key_placed keys.DmrsType = refl
key_placed keys.DmrsLength = refl
key_placed keys.SrsResources = refl
key_placed keys.CsiRequest = refl
key_placed keys.Cbg = refl
key_placed keys.Ptrs = refl
key_placed keys.Beta = refl
key_placed keys.Interleaved = refl
key_placed keys.Bundling = refl
key_placed keys.RateMatch = refl
key_placed keys.ZpSets = refl
key_placed keys.Codewords = refl
key_placed keys.Timing = refl
key_placed keys.Tci = refl
key_placed keys.Flush = refl

pub numbers_name_keys : NumbersNameKeys
numbers_name_keys a b e = sym (key_placed a) ∙ ap (λ n. get_or all_keys n keys.Version) e ∙ key_placed b

-- each name stands at its number
name_placed : (name : FieldName) → slice_get NAMES (name_number name) ≡ Some name
name_placed names.Identifier = refl
name_placed names.Fdra = refl
name_placed names.Tdra = refl
name_placed names.Hopping = refl
name_placed names.Vrb = refl
name_placed names.Mcs = refl
name_placed names.Ndi = refl
name_placed names.Rv = refl
name_placed names.Harq = refl
name_placed names.Dai = refl
name_placed names.Tpc = refl
name_placed names.Pucch = refl
name_placed names.Timing = refl
name_placed names.Preamble = refl
name_placed names.Supplementary = refl
name_placed names.Ssb = refl
name_placed names.Mask = refl
name_placed names.Reserved = refl
name_placed names.Bwp = refl
name_placed names.Bundling = refl
name_placed names.RateMatch = refl
name_placed names.ZpCsiRs = refl
name_placed names.Mcs2 = refl
name_placed names.Ndi2 = refl
name_placed names.Rv2 = refl
name_placed names.Dai2 = refl
name_placed names.Sri = refl
name_placed names.Precoding = refl
name_placed names.Ports = refl
name_placed names.Tci = refl
name_placed names.Srs = refl
name_placed names.Csi = refl
name_placed names.Cbgti = refl
name_placed names.Flush = refl
name_placed names.Ptrs = refl
name_placed names.Beta = refl
name_placed names.Dmrs = refl
name_placed names.Ulsch = refl

-- each format stands at its number
format_placed : (format : Format) → slice_get FORMATS (format_number format) ≡ Some format
format_placed formats.F00 = refl
format_placed formats.F10 = refl
format_placed formats.Order = refl
format_placed formats.F01 = refl
format_placed formats.F11 = refl

-- an entry of a list has the number of its place, where the entries have the numbers from 0 on
numbered_at : {A : Type 0} (numbered : A → ℕ) (entries : List A) (count : ℕ) → map numbered entries ≡ range_with_len 0 count
    → length entries ≡ count → (n : ℕ) (a : A) → slice_get entries n ≡ Some a → numbered a ≡ n
numbered_at numbered entries count numbers long n a e =
    let within = subst (λ c. n < c) long (slice_get_within entries n a e) in
    let there : numbered a ≡ get_or (range_with_len 0 count) n (numbered a) =
    ap numbered (sym (get_or_from_slice_get entries n a a e))
    ∙ sym (get_or-map numbered entries n a)
    ∙ ap (λ ns. get_or ns n (numbered a)) numbers in
    let place = get_or-range_with_len 0 count n (numbered a) within in
    omega (arith, there, place)

pub numbers_name_fields : NumbersNameFields
numbers_name_fields n name =
    (numbered_at name_number NAMES 38 refl refl n name, λ e. subst (λ k. slice_get NAMES k ≡ Some name) e (name_placed name))

pub numbers_name_formats : NumbersNameFormats
numbers_name_formats n format = (
  numbered_at format_number FORMATS 5 refl refl n format,
  λ e. subst (λ k. slice_get FORMATS k ≡ Some format) e
      (format_placed format),
)
