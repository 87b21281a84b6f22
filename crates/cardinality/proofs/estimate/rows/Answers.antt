use Rattle.std.proofs.Common.{◌∙◌, ap, sym}
use Rattle.query_core.specs.declared.words.KeyParts.TheVariants.{Filter}
use Rattle.cardinality.specs.Rows.{rows_of}
use Rattle.cardinality.proofs.FilterRows.{one_table}
use Rattle.cardinality.proofs.estimate.rows.Goals as goal

-- a Filter key's rows are those of the join of its table alone
pub returns-clause-own : goal.returns-clause-own
returns-clause-own c t names =
    c.rows_of.ensures.value
    ∙ ap (rows_of c.args.query.now) (sym (c.group.ensures.only (Filter t) names))
    ∙ one_table c.args.query.now t names.known.0
