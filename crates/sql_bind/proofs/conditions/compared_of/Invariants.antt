-- the predicates before the place are bound, and the rest come after them
use Rattle.std.proofs.Common.{◌≡◌, [], drop}
use Rattle.sql_bind.specs.Steps.{each}
use Rattle.sql_bind.specs.Conditions.{compared_in}
use Rattle.sql_bind.proofs.conditions.compared_of.Given as goal

abbrev pub invariant-loop-pred : goal.invariant-loop-pred
invariant-loop-pred l = each (λ before pred. compared_in l.sources pred) l.compared (drop l.pred-index l.preds) ≡ each
    (λ before pred. compared_in l.sources pred) [] l.preds
