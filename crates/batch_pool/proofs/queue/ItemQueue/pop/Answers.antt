use Rattle.batch_pool.proofs.Moves.{pops, learns_untaken}
use Rattle.batch_pool.proofs.queue.ItemQueue.pop.Goals as goal

pub pop_as-requires-clause-rule : goal.pop_as-requires-clause-rule
pop_as-requires-clause-rule g c = (pops _ _ c.requires.some_part, learns_untaken _ _)
