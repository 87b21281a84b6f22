-- What planning a select gives, by what its steps give.
use Rattle.std.proofs.Common.{rules}
use Rattle.query_core.specs.declared.catalog.Catalog.{Catalog}
use Rattle.query_core.specs.declared.query.Query.{Query}
use Rattle.request_props.specs.Numbered.{IsProps, IsRefusedFor}
use Rattle.request_props.specs.declared.fault.PropsFault.{PropsFault}
use Rattle.request_props.specs.declared.fault.PropsFault.TheVariants.{TooManyLists, TooManyOrders, Memory}
use Rattle.request_props.specs.declared.props.Props.{Props}
use Rattle.sql_reader.specs.declared.syntax.Select.{Select}
use Rattle.sql_bind.specs.Binding.{IsBound}
use Rattle.planner.specs.Faults.{props_fault}
use Rattle.planner.specs.Planned.{IsPlannedQuery, IsPlannedSelect, IsRefusedSelect}
use Rattle.planner.specs.declared.node.Planned.{Planned}
use Rattle.planner.specs.declared.settings.Settings.{Settings}

module _ (catalog : Catalog) (settings : Settings) (select : Select) (q : Query)
    (bound : IsBound select catalog settings.options q) where
  -- the query to which the select is bound has too many lists, or orders
  pub limits_refused : (fault : PropsFault) → IsRefusedFor q fault
      → IsRefusedSelect catalog settings select (props_fault fault)
  limits_refused (TooManyLists found) many =
      record { query = q; bound = bound; too_many = many; not_memory = search rules }
  limits_refused (TooManyOrders found) many =
      record { query = q; bound = bound; too_many = many; not_memory = search rules }
  limits_refused Memory many = tt

  -- a query with props is within the limits
  pub select_planned : (props : Props) (planned : Planned) → IsProps q props
      → IsPlannedQuery q settings.capacity planned → IsPlannedSelect catalog settings select planned
  select_planned props planned are gives = record {
    query = q;
    bound = bound;
    within = record { few_lists = are.few_lists; few_orders = are.few_orders };
    gives = gives;
  }
