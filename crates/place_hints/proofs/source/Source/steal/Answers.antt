use Rattle.place_hints.proofs.Moves.{leaves}
use Rattle.place_hints.proofs.source.Source.steal.Goals as goal

pub steal_as-requires-clause-takes : goal.steal_as-requires-clause-takes
steal_as-requires-clause-takes c = leaves _ _
