use Rattle.batch_pool.proofs.Moves.{pushes, learns_pushed}
use Rattle.batch_pool.proofs.queue.ItemQueue.push.Goals as goal

pub push_as-requires-clause-rule : goal.push_as-requires-clause-rule
push_as-requires-clause-rule g c =
    (pushes _ _ _ _ c.requires.all_parts c.requires.none_taken c.requires.next, learns_pushed _ _)
