-- Passes of workers that have come back, and of one that took a number more.
use Rattle.std.proofs.Common.{◌≡◌, ℕ, ◌<◌, List, length, slice_index_or, sym, ap, ◌∙◌, subst}
use Rattle.batch_pool.specs.Queues.{view_of, IsPassOf, StaysPassOf}
use Rattle.batch_pool.specs.Runs.{worker_parts, worker_pushes, returned_parts, returned_pushes}
use Rattle.batch_pool.specs.Views.{after_pop}
use Rattle.batch_pool.specs.declared.pass_view.PassView.{PassView}
use Rattle.batch_pool.specs.declared.queue.ItemPass.{ItemPass}
use Rattle.batch_pool.specs.declared.queue.ItemQueue.{ItemQueue}
use Rattle.batch_pool.specs.declared.worker.Worker.{Worker}
use Rattle.batch_pool.specs.declared.worker.WorkerRun.{WorkerRun}
use Rattle.batch_pool.proofs.Crews.{sum_by_same}

-- a pass that took one number more has its parts and pushes
pub takes_more : (queue : ItemQueue) (old mid new : ItemPass) (item : ℕ) → StaysPassOf queue old mid
    → IsPassOf queue new → view_of new ≡ after_pop (view_of mid) item → StaysPassOf queue old new
takes_more queue old mid new item stays its step = record {
  its = its;
  parts = ap (λ (v : PassView). v.parts) step ∙ stays.parts;
  pushed = ap (λ (v : PassView). v.pushed) step ∙ stays.pushed;
}

-- what holds of the worker that was handed over holds of the one in the crew
pub stays_of : (queue : ItemQueue) (worker job : Worker) (pass : ItemPass) → worker ≡ job
    → StaysPassOf queue job.pass pass → StaysPassOf queue worker.pass pass
stays_of queue worker job pass is = subst (λ (w : Worker). StaysPassOf queue w.pass pass) (sym is)

module _ {O : Type 0} (queue : ItemQueue) (crew : List Worker) (back : List (WorkerRun O))
    (as_many : length back ≡ length crew)
    (each : (i : ℕ) (d : Worker) (e : WorkerRun O) → i < length crew
    → StaysPassOf queue (slice_index_or crew i d).pass (slice_index_or back i e).pass) where
  -- workers come back with their parts
  pub parts_back : returned_parts back ≡ worker_parts crew
  parts_back = sum_by_same (λ (w : Worker). (view_of w.pass).parts) (λ (w : WorkerRun O). (view_of w.pass).parts) crew
      back as_many (λ i d e near. (each i d e near).parts)

  -- and with their pushes
  pub pushes_back : returned_pushes back ≡ worker_pushes crew
  pushes_back = sum_by_same (λ (w : Worker). (view_of w.pass).pushed) (λ (w : WorkerRun O). (view_of w.pass).pushed)
      crew back as_many (λ i d e near. (each i d e near).pushed)
