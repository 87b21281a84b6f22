use Rattle.std.proofs.Common.{◌∙◌, sym, bytes_eq}
use Rattle.std.proofs.lemmas.List.{length-map}
use Rattle.sql_bind.proofs.NameLemmas.{position-map}
use Rattle.sql_bind.proofs.names.DistinctNames.position_of.Goals as goal

-- the set's keys are the names
pub returns-clause-number : goal.returns-clause-number
returns-clause-number c = rw (← c.self.view_is, ← c.as_str.ensures) (c.get_index_of.ensures.index
    ∙ sym (position-map (λ k. k.now) (bytes_eq c.as_str.result.now) c.self.inside.set.keys))

pub returns-clause-within : goal.returns-clause-within
returns-clause-within c = rw (← c.self.view_is, length-map c.self.inside.set.keys (λ k. k.now))
    c.get_index_of.ensures.within
