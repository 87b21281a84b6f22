-- the predicates before the place are made
use Rattle.std.proofs.Common.{◌≡◌, ◌++◌, drop}
use Rattle.sql_bind.specs.Query.{preds_of}
use Rattle.sql_bind.proofs.query.preds_of.Given as goal

abbrev pub invariant-loop-comparison : goal.invariant-loop-comparison
invariant-loop-comparison l = l.preds ++ preds_of l.used (drop l.comparison-index l.compared) ≡ preds_of l.used
    l.compared
