-- an operator comes to its rows by the index that its word has
use Rattle.std.proofs.Common.{sym, ap, ◌∙◌}
use Rattle.query_core.specs.Expressions.{index_by}
use Rattle.query_core.proofs.Implementations.{index_taken}
use Rattle.text_check.proofs.grow.index_of.Goals as goal

pub returns-in-Direct : goal.returns-in-Direct
returns-in-Direct c = sym (index_taken c.args.operator ∙ ap index_by (sym c.access.ensures ∙ c.in-Direct.is))

pub returns-in-Index : goal.returns-in-Index
returns-in-Index c = sym (index_taken c.args.operator ∙ ap index_by (sym c.access.ensures ∙ c.in-Index.is))
