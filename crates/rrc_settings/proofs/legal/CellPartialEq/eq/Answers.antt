use Rattle.std.proofs.lemmas.Bool.Decides.{same_from_decides}
use Rattle.rrc_settings.specs.Equality.{decides_raw_cell}
use Rattle.rrc_settings.proofs.legal.CellPartialEq.eq.Goals as goal

pub returns-clause-value : goal.returns-clause-value
returns-clause-value c =
    let same = rw (c.raw.ensures.value, c.raw-2.ensures.value) at c.is_same.ensures in
    same_from_decides _ _ same (decides_raw_cell c.args.self.now c.args.other.now)
