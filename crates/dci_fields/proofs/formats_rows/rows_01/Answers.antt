use Rattle.dci_fields.proofs.BlockCounts.{group_config}
use Rattle.dci_fields.proofs.formats_rows.rows_01.Goals as goal

pub fdra_width-requires-clause-config : goal.fdra_width-requires-clause-config
fdra_width-requires-clause-config c =
    let settings = c.requires.settings in
    group_config c.args.fields.now.rbg_config settings.rbg_config_least settings.rbg_config_most
