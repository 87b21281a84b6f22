use Rattle.std.proofs.Common.{sym, subst}
use Rattle.query_generator.specs.ReadAs.{IsReadAs}
use Rattle.orca_cli.specs.Asked.{Asks}
use Rattle.orca_cli.proofs.Made.{asks_generated}
use Rattle.orca_cli.proofs.Refusals.{OneReading, never_refused}
use Rattle.orca_cli.proofs.generated.query_over.Goals as goal

-- what is generated isn't refused
pub unreachable-requires : goal.unreachable-requires
unreachable-requires c =
    let input = c.args.input in
    let written = c.requires.text in
    let read : IsReadAs input.shape input.tables written.select =
    record {
      some_tables = c.requires.few.from;
      few_tables = c.requires.few.to;
      text = c.args.text.now;
      is_text = written;
      reading = written.read;
    } in
    let law = c.generated_queries_are_bound.ensures in
    let (query, bound) = law.there input.number input.tables input.shape c.args.options written.select
    c.requires.options read in
    let asks : Asks c.args.catalog.now c.args.options c.args.text.now query =
    subst (λ k. Asks k c.args.options c.args.text.now query) (sym c.requires.made) (record {
      bound = record { select = written.select; reading = written.read; bound = bound };
      within = record {
        few_lists = law.few_lists input.number input.tables input.shape c.args.options written.select read query bound;
        few_orders = law.few_orders input.number input.tables input.shape c.args.options written.select read query
            bound;
      };
    }) in
    let one : OneReading = record {
      reading = c.one_outcome.ensures.reading;
      fault = c.one_outcome.ensures.fault;
      either = c.one_outcome.ensures.either;
    } in
    let why = rw c.in-Err-Told.field-0-is at (rw c.in-Err-Told.is at c.query_of_text.ensures.stops) in
    never_refused one c.args.catalog.now c.args.options c.args.text.now query why.cause asks why.no_query

-- the query that the texts ask for is made of the input
pub returns-in-Ok : goal.returns-in-Ok
returns-in-Ok c = record {
  query_is = asks_generated c.args.input c.args.options c.args.catalog.now c.args.text.now c.in-Ok.asked.query
      c.requires.made c.requires.text.written c.in-Ok.ensures.asks.query_is;
  props_are = c.in-Ok.ensures.asks.props_are;
}
