use Rattle.std.proofs.Common.{◌∙◌}
use Rattle.sql_bind.proofs.Numbering.{among_turned}
use Rattle.sql_bind.proofs.columns.is_among.Goals as goal

-- a column is the same as another where that is the same as it
pub returns : goal.returns
returns c = c.contains.ensures.value ∙ among_turned c.args.column c.args.columns.now
