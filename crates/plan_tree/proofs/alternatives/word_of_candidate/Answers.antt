use Rattle.query_core.specs.Expressions.{expr_of}
use Rattle.plan_tree.proofs.alternatives.word_of_candidate.Goals as goal

pub make-requires : goal.make-requires
make-requires c =
    rw c.parts.ensures (c.candidates_are_known.ensures.packed c.args._query.now (expr_of c.args.expr) c.requires)

pub returns : goal.returns
returns c = record {
  packed = c.candidates_are_known.ensures.packed c.args._query.now (expr_of c.args.expr) c.requires;
  number = cc (c.make.ensures.number, c.parts.ensures);
}
