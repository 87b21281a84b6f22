use Rattle.std.proofs.lemmas.Result.{IfErr-weaker}
use Rattle.orca_cli.specs.Asked.{SaysCatalog}
use Rattle.orca_cli.proofs.DumpRefusals.{none_over, refused_over}
use Rattle.orca_cli.proofs.dumps.query_of_dump.Goals as goal

-- the catalogue of the dump is none
pub returns-in-Err-clause-stops : goal.returns-in-Err-clause-stops
returns-in-Err-clause-stops c =
    none_over c.args.dump.now c.in-Err.end (rw c.as_slice.ensures at c.in-Err.ensures.stops)

-- the query of the dump is refused over its catalogue
pub returns-in-Ok-clause-stops : goal.returns-in-Ok-clause-stops
returns-in-Ok-clause-stops c =
    let dump = c.args.dump.now in
    let says : SaysCatalog dump.catalog c.in-Ok.catalog = rw c.as_slice.ensures at c.in-Ok.ensures.says in
    IfErr-weaker c.query_of_text.result _ _ (λ end stops. refused_over dump c.in-Ok.catalog end says stops)
    (rw c.as_slice-in-Ok.ensures at c.query_of_text.ensures.stops)
