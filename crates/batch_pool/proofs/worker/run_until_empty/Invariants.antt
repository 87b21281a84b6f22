use Rattle.batch_pool.specs.Queues.{view_of, StaysPassOf}
use Rattle.batch_pool.specs.Runs.{RanSince}
use Rattle.batch_pool.proofs.worker.run_until_empty.Given as goal

-- the pass has its parts and pushes, and what it took since was run
abbrev pub invariant-loop-take : goal.invariant-loop-take
invariant-loop-take g l = (goal.iterator-loop-take g).can_next l._take-iterator
    × (goal.iterator-loop-take g).is_finite l._take-iterator
    × StaysPassOf l.queue l.initial.pass l.pass
    × RanSince (g.B.Batch.items l.batch) (g.B.Batch.gives l.batch) (view_of l.initial.pass) (view_of l.pass) l.ran.items
