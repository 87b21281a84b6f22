-- The sets stand in their lists by tables and by sets of tables.
use Rattle.std.proofs.Common.{◌≡◌}
use Rattle.query_core.specs.declared.words.KeyParts.TheVariants.{Get, Filter, Join}
use Rattle.request_props.proofs.ListsOfEnds.{group_found}
use Rattle.request_props.proofs.props.Props.known_ends.Goals as goal

pub returns-in-Get : goal.returns-in-Get
returns-in-Get c =
    let at = c.as_slice.ensures in
    let in_box = c.deref.ensures in
    let same : c.as_slice.result.now ≡ c.args.self.now.equalities.value.of_tables = cc in
    group_found c.args.query.now Get c.args.group c.in-Get.table c.in-Get.is _ _ _ same c.requires.equalities.of_tables
    c.ends_at.result c.ends_at.ensures.found

pub returns-in-Filter : goal.returns-in-Filter
returns-in-Filter c =
    let at = c.as_slice-in-Filter.ensures in
    let in_box = c.deref-in-Filter.ensures in
    let same : c.as_slice-in-Filter.result.now ≡ c.args.self.now.equalities.value.of_tables = cc in
    group_found c.args.query.now Filter c.args.group c.in-Filter.table c.in-Filter.is _ _ _ same
    c.requires.equalities.of_tables c.ends_at-in-Filter.result c.ends_at-in-Filter.ensures.found

pub returns-in-Join : goal.returns-in-Join
returns-in-Join c =
    let at = c.as_slice-in-Join.ensures in
    let in_box = c.deref-in-Join.ensures in
    let same : c.as_slice-in-Join.result.now ≡ c.args.self.now.equalities.value.of_sets = cc in
    group_found c.args.query.now Join c.args.group c.in-Join.set c.in-Join.is _ _ _ same c.requires.equalities.of_sets
    c.ends_at-in-Join.result c.ends_at-in-Join.ensures.found
