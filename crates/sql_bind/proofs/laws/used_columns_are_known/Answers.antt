use Rattle.sql_bind.proofs.NamedThere.{columns_of_binding}
use Rattle.sql_bind.proofs.laws.used_columns_are_known.Goals as goal

-- the columns that are named are there, and so are those that are listed
pub returns : goal.returns
returns c = columns_of_binding
