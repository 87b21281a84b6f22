use Rattle.std.proofs.Common.{subst, sym, ◌∙◌}
use Rattle.std.specs.Prelude.{IsSome}
use Rattle.std.proofs.lemmas.Bool.{false≢true}
use borrow.Author.Count.{below_more}
use Rattle.query_core.specs.Crossing.{crossing_of}
use Rattle.xform_rules.proofs.implemented.has_crossing.Goals as goal

-- this predicate doesn't equate them either
pub loop-pred-preserved : goal.loop-pred-preserved
loop-pred-preserved c =
    below_more (λ k. IsSome (crossing_of c.args.query.now c.args.left c.args.right k) → ⊥) c.loop-pred.pred
    c.loop-pred.invariant
    (subst (λ found. IsSome found → ⊥) c.crossing_groups.ensures
    (λ some. false≢true (sym c.if-is_some.false ∙ (c.is_some.ensures ∙ some))))
