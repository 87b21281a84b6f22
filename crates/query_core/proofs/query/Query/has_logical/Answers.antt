-- A group can have the operator where it can have that of the arm.
use Rattle.query_core.proofs.query.Query.has_logical.Goals as goal

pub returns-in-Get : goal.returns-in-Get
returns-in-Get c = rw c.in-Get.is c.is_get.ensures

pub returns-in-Select : goal.returns-in-Select
returns-in-Select c = rw c.in-Select.is c.is_filtered.ensures

pub returns-in-NJoin : goal.returns-in-NJoin
returns-in-NJoin c = rw c.in-NJoin.is c.is_join.ensures

pub returns-in-Join : goal.returns-in-Join
returns-in-Join c = rw c.in-Join.is c.is_join_of.ensures

pub returns-in-Agg : goal.returns-in-Agg
returns-in-Agg c = rw c.in-Agg.is c.is_aggregated.ensures

pub returns-in-Partial : goal.returns-in-Partial
returns-in-Partial c = rw c.in-Partial.is c.is_partial.ensures
