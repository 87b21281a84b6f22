use Rattle.std.proofs.lemmas.Result.{err_from_is_err_and}
use Rattle.sql_bind.proofs.Outcome.{no_parts}
use Rattle.sql_bind.proofs.binding.bind.Goals as goal

-- a name is refused
pub returns-in_err-parts : goal.returns-in_err-parts
returns-in_err-parts c =
    let raised = err_from_is_err_and c.from_residual.result c.from_residual.ensures.1 in
    rw raised.1 (no_parts c.args.select.now c.args.catalog.now c.in_err-parts.field-0.0 raised.0 c.in_err-parts.ensures
    raised.2)

-- the parts are named as they were
pub judged_query-requires : goal.judged_query-requires
judged_query-requires c = record {
  readable = c.requires.readable;
  catalogue = c.requires.catalogue;
  options = c.requires.options;
  named = c.in_ok-parts.ensures;
}
