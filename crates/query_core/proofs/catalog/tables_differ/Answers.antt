use Rattle.std.proofs.Common.{◌∙◌, sym}
use Rattle.query_core.proofs.Apart.{name_again, name_once}
use Rattle.query_core.proofs.catalog.tables_differ.Goals as goal

-- the first name comes again
pub returns-then-has_table : goal.returns-then-has_table
returns-then-has_table c = name_again (λ x. x.name) c.in-Some.table.now c.in-Some.others.now c.loop-table.rest.now
    c.in-Some.ensures.cases.0 (sym c.has_table.ensures ∙ c.if-has_table.true) ∙ c.loop-table.invariant

-- it doesn't
pub loop-table-preserved : goal.loop-table-preserved
loop-table-preserved c = name_once (λ x. x.name) c.in-Some.table.now c.in-Some.others.now c.loop-table.rest.now
    c.in-Some.ensures.cases.0 (sym c.has_table.ensures ∙ c.if-has_table.false) ∙ c.loop-table.invariant
