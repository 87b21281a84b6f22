use Rattle.std.proofs.Common.{◌≡◌, ◌++◌, drop, map}
use Rattle.request_props.specs.Numbered.{equality_of}
use Rattle.request_props.proofs.numbers.equalities.Given as goal

-- what was found so far, and what the predicates that are left make
abbrev pub invariant-loop-pred : goal.invariant-loop-pred
invariant-loop-pred l =
    l.found.items ++ map (equality_of l.query) (drop l.pred-index l.query.preds) ≡ map (equality_of l.query)
    l.query.preds
