-- Queues of items, and their passes.
use Rattle.std.specs.Prelude.{◌≡◌, ℕ}
use Rattle.crossbeam_queue.specs.Passes.{view, IsPassOf as IsKitPassOf, ruled_capacity}
use Rattle.batch_pool.specs.declared.pass_view.PassView.{PassView}
use Rattle.batch_pool.specs.declared.queue.ItemQueue.{ItemQueue}
use Rattle.batch_pool.specs.declared.queue.ItemPass.{ItemPass}

-- what the pass knows
abbrev pub view_of : ItemPass → PassView
view_of pass = view pass.pass

-- the pass is one of this queue
abbrev pub IsPassOf : ItemQueue → ItemPass → Type 0
IsPassOf queue pass = IsKitPassOf queue.queue pass.pass

-- how many numbers the queue has room for
abbrev pub room_of : ItemQueue → ℕ
room_of queue = ruled_capacity queue.queue

-- a pass of this queue still, with the parts and the pushes that it had
pub record StaysPassOf (queue : ItemQueue) (old new : ItemPass) : Type 0 where
  pub its : IsPassOf queue new
  pub parts : (view_of new).parts ≡ (view_of old).parts
  pub pushed : (view_of new).pushed ≡ (view_of old).pushed
