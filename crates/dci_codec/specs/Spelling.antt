-- A spelling: a format with a value for each of its rows.
use Rattle.std.specs.Prelude.{ℕ, List}
use Rattle.dci_fields.specs.declared.formats.Format.{Format}

-- a format, and a value for each of its rows
pub record Spelling : Type 0 where
  pub format : Format
  pub values : List ℕ
