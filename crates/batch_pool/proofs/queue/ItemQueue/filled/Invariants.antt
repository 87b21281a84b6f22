use Rattle.std.proofs.Common.{◌≡◌, []}
use Rattle.batch_pool.specs.Views.{view_with}
use Rattle.batch_pool.specs.Queues.{view_of, IsPassOf, room_of}
use Rattle.batch_pool.proofs.queue.ItemQueue.filled.Given as goal

abbrev pub invariant-loop-number : goal.invariant-loop-number
invariant-loop-number g l = IsPassOf l.queue l.pass × (view_of l.pass ≡ view_with 64 l.number [])
    × (room_of l.queue ≡ l.n)
