use Rattle.table_files.proofs.WhatIsSpelled as spelled
use Rattle.table_files.proofs.laws.read_where_spelled.Goals as goal

pub returns : goal.returns
returns c = spelled.read_where_spelled
