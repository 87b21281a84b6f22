use Rattle.std.proofs.Common.{◌≡◌, Option, Some, None, map, refl, ◌∙◌}
use Rattle.std.specs.Prelude.{slice_get}
use Rattle.std.specs.Option.{option_map_or}
use Rattle.query_core.specs.declared.query.Query.{Query}
use Rattle.query_core.specs.declared.table.QueryTable.{QueryTable}
use Rattle.request_props.specs.Numbered.{dist_by}
use Rattle.request_props.specs.declared.given.GivenDist.TheVariants.{Random}
use Rattle.query_core.proofs.Lookups.{found_at, none_at}
use Rattle.request_props.proofs.MappedLookups.{made_at, none_made_at}
use Rattle.request_props.proofs.props.Props.table_dist.Goals as goal

-- without a table the rows lie as without a list
by_list : (q : Query) (found : Option QueryTable)
    → option_map_or (λ table. dist_by q table.hashed) found Random
    ≡ dist_by q (option_map_or (λ table. table.hashed) found None)
by_list q None = refl
by_list q (Some table) = refl

-- it is made of the table at the place
pub returns-in-Some : goal.returns-in-Some
returns-in-Some c =
    let make = λ (table : QueryTable). dist_by c.args.query.now table.hashed in
    let tables = c.args.query.now.tables in
    let made = (rw c.deref.ensures at c.as_slice.ensures) ∙ c.requires.placement.placings in
    made_at make tables c.args.table c.in-Some.dist.now Random
    (found_at (map make tables) c.as_slice.result.now c.args.table c.in-Some.dist.now
    made c.in-Some.ensures.lookup.3.0 c.in-Some.ensures.lookup.1)
    ∙ by_list c.args.query.now (slice_get tables c.args.table)

-- there is no such table
pub returns-in-None : goal.returns-in-None
returns-in-None c =
    let make = λ (table : QueryTable). dist_by c.args.query.now table.hashed in
    let tables = c.args.query.now.tables in
    let made = (rw c.deref.ensures at c.as_slice.ensures) ∙ c.requires.placement.placings in
    none_made_at make tables c.args.table Random
    (none_at (map make tables) c.as_slice.result.now c.args.table made c.in-None.ensures.lookup.3)
    ∙ by_list c.args.query.now (slice_get tables c.args.table)
