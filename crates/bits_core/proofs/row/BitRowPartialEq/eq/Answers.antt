use Rattle.std.proofs.Common.{refl}
use Rattle.std.specs.Cmp.{booleans_Decides}
use Rattle.std.proofs.lemmas.Bool.Decides.{same_from_decides}
use Rattle.std.proofs.lemmas.Slice.Eq.{slice_eq-Decides}
use Rattle.bits_core.proofs.row.BitRowPartialEq.eq.Goals as goal

pub returns : goal.returns
returns g c = same_from_decides _ _ c.slice_eq.ensures (slice_eq-Decides booleans_Decides _ _ _ refl)
