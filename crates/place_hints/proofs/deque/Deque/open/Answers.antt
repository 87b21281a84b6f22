use Rattle.place_hints.proofs.Moves.{opens}
use Rattle.place_hints.proofs.deque.Deque.open.Goals as goal

pub push_as-requires-clause-pushes : goal.push_as-requires-clause-pushes
push_as-requires-clause-pushes c = opens _ _ _ c.in_ok-worker.ensures.2 c.in_ok-worker.ensures.4
