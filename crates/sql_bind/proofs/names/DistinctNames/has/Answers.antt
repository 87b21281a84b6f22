use Rattle.std.proofs.Common.{◌∙◌, sym, bytes_eq}
use Rattle.query_core.proofs.Apart.{list_any-map}
use Rattle.sql_bind.proofs.names.DistinctNames.has.Goals as goal

-- the set's keys are the names
pub returns : goal.returns
returns c = rw (← c.self.view_is, ← c.as_str.ensures) (c.contains.ensures
    ∙ sym (list_any-map (bytes_eq c.as_str.result.now) (λ k. k.now) c.self.inside.set.keys))
