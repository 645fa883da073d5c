-- Widths of the fields of format 0_1 and 1_1 that the antenna ports decide (3GPP TS 38.212, 7.3.1.1.2 and 7.3.1.2.2).
use Rattle.std.specs.Prelude.{ℕ, cond, nat_eq}
use Rattle.alloc_fields.specs.Widths.{bits_for}
use Rattle.rrc_settings.specs.declared.settings.UplinkFields.{UplinkFields}
use Rattle.rrc_settings.specs.declared.settings.DownlinkFields.{DownlinkFields}

-- one of four widths, by the type and the length of the demodulation reference signal
abbrev pub by_signal : ℕ → ℕ → ℕ → ℕ → ℕ → ℕ → ℕ
by_signal dmrs_type dmrs_length one_one one_two two_one two_two =
    cond (nat_eq dmrs_type 1)
    (cond (nat_eq dmrs_length 1) one_one one_two)
    (cond (nat_eq dmrs_length 1) two_one two_two)

-- the antenna ports of format 1_1
abbrev pub downlink_ports : DownlinkFields → ℕ
downlink_ports f = by_signal f.dmrs_type f.dmrs_length 4 5 5 6

-- the sounding resource of format 0_1, one of those that are set
abbrev pub sri_width : UplinkFields → ℕ
sri_width f = bits_for f.srs_resources

-- the precoding of format 0_1: one antenna port has none
abbrev pub precoding_width : UplinkFields → ℕ
precoding_width f = 0

-- the antenna ports of format 0_1, by whether the transform precoder is on
abbrev pub uplink_ports : UplinkFields → ℕ
uplink_ports f = cond f.transform (cond (nat_eq f.dmrs_length 1) 2 4) (by_signal f.dmrs_type f.dmrs_length 3 4 4 5)
