use Rattle.query_core.proofs.Splitting.{tables_top}
use Rattle.query_core.proofs.Unions.{sides_turned, sides_moved, join_cut}
use Rattle.query_core.proofs.splits.sides_are_known.Goals as goal

pub returns : goal.returns
returns c = record {
  turned = sides_turned;
  inner = λ q set left a b c outer inner linked. (sides_moved q set left a b c outer inner linked).0;
  outer = λ q set left a b c outer inner linked. (sides_moved q set left a b c outer inner linked).1;
  cut = join_cut;
  tables = tables_top;
}
