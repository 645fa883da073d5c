-- The numbers that stand for the keys of the settings in C.
use Rattle.std.specs.Prelude.{◌≡◌, ℕ}
use Rattle.rrc_settings.specs.declared.words.Key.{Key}
use Rattle.rrc_settings.specs.declared.words.Key.TheVariants as keys

-- the number of a key
abbrev pub key_number : Key → ℕ
key_number keys.Version = 0
key_number keys.Cell = 1
key_number keys.Mu = 2
key_number keys.Blocks = 3
key_number keys.InitialDownlink = 4
key_number keys.InitialUplink = 5
key_number keys.Coreset0 = 6
key_number keys.Handsets = 7
key_number keys.Name = 8
key_number keys.Rnti = 9
key_number keys.Downlink = 10
key_number keys.Uplink = 11
key_number keys.Codebook = 12
key_number keys.Coresets = 13
key_number keys.Sets = 14
key_number keys.UplinkFields = 15
key_number keys.DownlinkFields = 16
key_number keys.Start = 17
key_number keys.Size = 18
key_number keys.Number = 19
key_number keys.Groups = 20
key_number keys.Duration = 21
key_number keys.Interleave = 22
key_number keys.DmrsId = 23
key_number keys.Bundle = 24
key_number keys.Rows = 25
key_number keys.Shift = 26
key_number keys.Coreset = 27
key_number keys.Kind = 28
key_number keys.Period = 29
key_number keys.Offset = 30
key_number keys.Symbols = 31
key_number keys.Candidates = 32
key_number keys.Base = 33
key_number keys.Bwps = 34
key_number keys.Allocation = 35
key_number keys.RbgConfig = 36
key_number keys.Tdra = 37
key_number keys.Hopping = 38
key_number keys.SecondDai = 39
key_number keys.Transform = 40
key_number keys.DmrsType = 41
key_number keys.DmrsLength = 42
key_number keys.SrsResources = 43
key_number keys.CsiRequest = 44
key_number keys.Cbg = 45
key_number keys.Ptrs = 46
key_number keys.Beta = 47
key_number keys.Interleaved = 48
key_number keys.Bundling = 49
key_number keys.RateMatch = 50
key_number keys.ZpSets = 51
key_number keys.Codewords = 52
key_number keys.Timing = 53
key_number keys.Tci = 54
key_number keys.Flush = 55

-- each number is that of one key
abbrev pub NumbersNameKeys : Type 0
NumbersNameKeys = (a b : Key) → key_number a ≡ key_number b → a ≡ b
