-- How many bits the formats of a legal cell have.
use Rattle.std.proofs.Common.{◌≡◌, ℕ, zero, suc, ◌+◌, ◌≤◌, Bool, true, false, cond, nat_eq, arith}
use Rattle.std.proofs.lemmas.Bool.{cond_both}
use Rattle.rrc_settings.specs.declared.settings.Codebook.{Codebook}
use Rattle.rrc_settings.specs.declared.settings.Codebook.TheVariants.{SemiStatic, Dynamic}
use Rattle.rrc_settings.specs.declared.settings.UplinkFields.{UplinkFields}
use Rattle.rrc_settings.specs.declared.settings.DownlinkFields.{DownlinkFields}
use Rattle.dci_fields.specs.FieldLists.{width_of}
use Rattle.dci_fields.specs.Antennas.{by_signal, downlink_ports, uplink_ports}
use Rattle.dci_fields.specs.FormatRows.{where_set, bwp_width, downlink_index, uplink_index, rows_00, rows_10}

-- format 0_0
pub width_00 : (f : ℕ) → width_of (rows_00 f) ≡ 20 + f
width_00 f = omega arith

-- format 1_0
pub width_10 : (f : ℕ) → width_of (rows_10 f) ≡ 28 + f
width_10 f = omega arith

-- bits where a setting is true
pub set_le : (b : Bool) (n : ℕ) → where_set b n ≤ n
set_le true n = omega arith
set_le false n = omega arith

-- the indicator of the bandwidth part
pub bwp_le : (n : ℕ) → bwp_width n ≤ 2
bwp_le zero = omega arith
bwp_le (suc zero) = omega arith
bwp_le (suc (suc zero)) = omega arith
bwp_le (suc (suc (suc zero))) = omega arith
bwp_le (suc (suc (suc (suc zero)))) = omega arith
bwp_le (suc (suc (suc (suc (suc n))))) = omega arith

-- the downlink assignment index of format 1_1
pub down_index_le : (c : Codebook) → downlink_index c ≤ 2
down_index_le SemiStatic = omega arith
down_index_le Dynamic = omega arith

-- and of format 0_1
pub up_index_is : (c : Codebook) → (1 ≤ uplink_index c) × (uplink_index c ≤ 2)
up_index_is SemiStatic = (omega arith, omega arith)
up_index_is Dynamic = (omega arith, omega arith)

cond_within : (b : Bool) (x y low high : ℕ) → (low ≤ x) × (x ≤ high) → (low ≤ y) × (y ≤ high)
    → (low ≤ cond b x y) × (cond b x y ≤ high)
cond_within b x y low high h k = cond_both b x y (λ n. (low ≤ n) × (n ≤ high)) (λ _. h) (λ _. k)

by_signal_within : (t l a b c d low high : ℕ) → (low ≤ a) × (a ≤ high) → (low ≤ b) × (b ≤ high) → (low ≤ c) × (c ≤ high)
    → (low ≤ d) × (d ≤ high)
    → (low ≤ by_signal t l a b c d) × (by_signal t l a b c d ≤ high)
by_signal_within t l a b c d low high p q r s =
    cond_within (nat_eq t 1) (cond (nat_eq l 1) a b) (cond (nat_eq l 1) c d) low high
    (cond_within (nat_eq l 1) a b low high p q) (cond_within (nat_eq l 1) c d low high r s)

-- the antenna ports of format 0_1
pub up_ports_within : (f : UplinkFields) → (2 ≤ uplink_ports f) × (uplink_ports f ≤ 5)
up_ports_within f =
    cond_within f.transform (cond (nat_eq f.dmrs_length 1) 2 4) (by_signal f.dmrs_type f.dmrs_length 3 4 4 5) 2 5
    (cond_within (nat_eq f.dmrs_length 1) 2 4 2 5 (omega arith, omega arith) (omega arith, omega arith))
    (by_signal_within f.dmrs_type f.dmrs_length 3 4 4 5 2 5 (omega arith, omega arith) (omega arith, omega arith)
    (omega arith, omega arith) (omega arith, omega arith))

-- and of format 1_1
pub down_ports_within : (f : DownlinkFields) → (0 ≤ downlink_ports f) × (downlink_ports f ≤ 6)
down_ports_within f =
    by_signal_within f.dmrs_type f.dmrs_length 4 5 5 6 0 6 (omega arith, omega arith) (omega arith, omega arith)
    (omega arith, omega arith) (omega arith, omega arith)
