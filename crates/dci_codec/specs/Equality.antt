-- `==` of what is heard and of why nothing is holds exactly of equal values.
use Rattle.std.specs.Prelude.{◌≡◌, Decides}
use Rattle.std.proofs.Common.{rules}
use Rattle.std.proofs.lemmas.Grind.{common_steps}
use Rattle.dci_fields.specs.Equality.{decides_format, decides_values}
use Rattle.dmrs_qpsk.specs.declared.taking.BadPlace.{BadPlace}
use Rattle.dmrs_qpsk.specs.declared.taking.Flaw.{Flaw}
use Rattle.dmrs_qpsk.specs.contracts.taking.BadPlacePartialEq.TheImpl as bad_place
use Rattle.dmrs_qpsk.specs.contracts.taking.FlawPartialEq.TheImpl as a_flaw
use Rattle.dci_codec.specs.declared.heard.Heard.{Heard}
use Rattle.dci_codec.specs.declared.silence.Silence.{Silence}
use Rattle.dci_codec.specs.declared.silence.Silence.TheVariants.{Spot, Repeat, Code, Crc, Format}
use Rattle.dci_codec.specs.contracts.heard.HeardPartialEq.TheImpl as heard
use Rattle.dci_codec.specs.contracts.silence.SilencePartialEq.TheImpl as silence

-- what is wrong with a place
pub decides_flaw : (a b : Flaw) → Decides (a_flaw.ghosts.eq a b) (a ≡ b)
decides_flaw a b = search (rules, common_steps)

-- bad places
pub decides_bad_place : (a b : BadPlace) → Decides (bad_place.ghosts.eq a b) (a ≡ b)
decides_bad_place a b = let f = decides_flaw a.flaw b.flaw in search (rules, common_steps)

-- stages that fail
pub decides_silence : (a b : Silence) → Decides (silence.ghosts.eq a b) (a ≡ b)
decides_silence (Spot a) (Spot b) = let p = decides_bad_place a b in search (rules, common_steps)
decides_silence (Spot a) (Repeat b) = search (rules, common_steps)
decides_silence (Spot a) Code = search (rules, common_steps)
decides_silence (Spot a) Crc = search (rules, common_steps)
decides_silence (Spot a) Format = search (rules, common_steps)
decides_silence (Repeat a) b = search (rules, common_steps)
decides_silence Code b = search (rules, common_steps)
decides_silence Crc b = search (rules, common_steps)
decides_silence Format b = search (rules, common_steps)

-- what is heard
pub decides_heard : (a b : Heard) → Decides (heard.ghosts.eq a b) (a ≡ b)
decides_heard a b =
    let f = decides_format a.format b.format in
    let v = decides_values a.values b.values in
    search (rules, common_steps)
