use Rattle.std.proofs.Common.{◌∙◌, sym}
use Rattle.query_core.proofs.Apart.{name_again, name_once}
use Rattle.query_core.proofs.catalog.columns_differ.Goals as goal

-- the first name comes again
pub returns-then-has_column : goal.returns-then-has_column
returns-then-has_column c = name_again (λ x. x.name) c.in-Some.column.now c.in-Some.others.now c.loop-column.rest.now
    c.in-Some.ensures.cases.0 (sym c.has_column.ensures ∙ c.if-has_column.true) ∙ c.loop-column.invariant

-- it doesn't
pub loop-column-preserved : goal.loop-column-preserved
loop-column-preserved c = name_once (λ x. x.name) c.in-Some.column.now c.in-Some.others.now c.loop-column.rest.now
    c.in-Some.ensures.cases.0 (sym c.has_column.ensures ∙ c.if-has_column.false) ∙ c.loop-column.invariant
