use Rattle.std.proofs.Common.{◌∷◌, [], map, sym, ap, ◌∙◌, append_assoc, append-nil}
use Rattle.catalog_json.specs.Columns.{column_of}
use Rattle.catalog_json.proofs.column.Columns.into_list.Goals as goal

-- the first of those that were left goes last
pub loop-name-preserved : goal.loop-name-preserved
loop-name-preserved c =
    let column = column_of (c.in-Some.name, c.in-Some.values) in
    rw (
      c.in_ok-push.ensures.ok,
      c.of-name.ensures,
      append_assoc c.loop-name.list (column ∷ []) (map column_of c.next.new.self),
    )
    (rw c.in-Some.ensures.steps at c.loop-name.invariant)

-- none is left
pub returns-clause-all : goal.returns-clause-all
returns-clause-all c = sym (append-nil c.loop-name.list) ∙ (rw c.in-None.ensures.steps.0 at c.loop-name.invariant)
    ∙ ap (map column_of) c.into_iter-name-iterator.ensures.into_iter_gives.0 ∙ c.self.view_is
