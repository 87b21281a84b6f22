use Rattle.std.proofs.Common.{sym, subst}
use Rattle.query_core.specs.Expressions.{expr_of, IsPacked}
use Rattle.search_tests.proofs.node_tests.word_of.Goals as goal

-- a candidate has a word
pub make-requires : goal.make-requires
make-requires c =
    subst IsPacked (sym c.parts.ensures)
    (c.candidates_are_known.ensures.packed c.args._query.now (expr_of c.args.e) c.requires)
