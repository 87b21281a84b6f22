-- Workers of a batch, what they ran, and what the batch gives.
use Rattle.std.specs.Prelude.{◌≡◌, ℕ, ◌<◌, ◌≤◌, List, [], ◌++◌, All, Option, None, Some, IfOk, slice_get, vec_len, sum_by, count_by, ◌==◌}
use Rattle.batch_pool.specs.Rule.{times}
use Rattle.batch_pool.specs.Queues.{view_of, IsPassOf, StaysPassOf}
use Rattle.batch_pool.specs.declared.pass_view.PassView.{PassView}
use Rattle.batch_pool.specs.declared.queue.ItemQueue.{ItemQueue}
use Rattle.batch_pool.specs.declared.worker.RanItem.{RanItem}
use Rattle.batch_pool.specs.declared.worker.Worker.{Worker}
use Rattle.batch_pool.specs.declared.worker.WorkerRun.{WorkerRun}
use Rattle.batch_pool.specs.declared.places.Placed.{Placed}
use Rattle.batch_pool.specs.declared.places.PoolRun.{PoolRun}

-- ---- what a batch gives

module _ {O : Type 0} (n : ℕ) (gives : ℕ → O → Type 0) (workers : ℕ) where
  -- each of the n items gave what it gives, and has the number of one of the workers
  pub record IsRunOf (run : PoolRun O) : Type 0 where
    pub outputs_len : vec_len run.outputs ≡ n
    pub outputs : (i : ℕ) (output : O) → slice_get run.outputs.items i ≡ Some output → gives i output
    pub taken_len : vec_len run.taken ≡ n
    pub taken : All (λ worker. worker < workers) run.taken.items

-- ---- workers

-- a worker that has not begun: it has a part, and has taken nothing
pub record IsNewWorker (queue : ItemQueue) (workers : ℕ) (worker : Worker) : Type 0 where
  pub its : IsPassOf queue worker.pass
  pub number : worker.number < workers
  pub some_part : 1 ≤ (view_of worker.pass).parts
  pub none_taken : (view_of worker.pass).taken ≡ []

-- the parts of these workers, added up
abbrev pub worker_parts : List Worker → ℕ
worker_parts crew = sum_by (λ w. (view_of w.pass).parts) crew

-- and their pushes
abbrev pub worker_pushes : List Worker → ℕ
worker_pushes crew = sum_by (λ w. (view_of w.pass).pushed) crew

module _ {O : Type 0} where
  -- how often the item was run
  abbrev pub times_run : ℕ → List (RanItem O) → ℕ
  times_run k ran = count_by (λ (r : RanItem O). r.item == k) ran

  -- the parts of workers that have come back, added up
  abbrev pub returned_parts : List (WorkerRun O) → ℕ
  returned_parts crew = sum_by (λ (w : WorkerRun O). (view_of w.pass).parts) crew

  -- and their pushes
  abbrev pub returned_pushes : List (WorkerRun O) → ℕ
  returned_pushes crew = sum_by (λ (w : WorkerRun O). (view_of w.pass).pushed) crew

  module _ (n : ℕ) (gives : ℕ → O → Type 0) where
    -- each of these items gave what it gives
    abbrev pub AreOutputs : List (RanItem O) → Type 0
    AreOutputs ran = All (λ (r : RanItem O). (r.item < n) × gives r.item r.output) ran

    -- the items that were taken were run, each as often as it was taken
    pub record AreRun (taken : List ℕ) (ran : List (RanItem O)) : Type 0 where
      pub outputs : AreOutputs ran
      pub as_often : (k : ℕ) → k < n → times k taken ≡ times_run k ran

    -- what was taken since the pass had the first view was run
    pub record RanSince (v w : PassView) (ran : List (RanItem O)) : Type 0 where
      pub since : List ℕ
      pub taken : w.taken ≡ v.taken ++ since
      pub are_run : AreRun since ran

    -- a worker that has come back: where memory sufficed, it ran what it took
    pub record IsReturned (queue : ItemQueue) (workers : ℕ) (worker : WorkerRun O) : Type 0 where
      pub its : IsPassOf queue worker.pass
      pub number : worker.number < workers
      pub ran : IfOk worker.ran (λ ran. AreRun (view_of worker.pass).taken ran.items)

    -- this worker came back with its pass
    pub record Returns (queue : ItemQueue) (workers : ℕ) (before : Worker) (worker : WorkerRun O) : Type 0 where
      pub returned : IsReturned queue workers worker
      pub pass : StaysPassOf queue before.pass worker.pass

  -- ---- places

  module _ (gives : ℕ → O → Type 0) (workers : ℕ) where
    -- in the place of the item stands what it gives, with the number of one of the workers
    abbrev pub HoldsResult : ℕ → Option (Option (Placed O)) → Type 0
    HoldsResult item None = ⊥
    HoldsResult item (Some None) = ⊥
    HoldsResult item (Some (Some placed)) = gives item placed.output × (placed.worker < workers)

    -- the items that were run have their results in their places, and no place has lost its result
    pub record HasPlaced (ran : List (RanItem O)) (old now : List (Option (Placed O))) : Type 0 where
      pub placed : (k : ℕ) → 1 ≤ times_run k ran → HoldsResult k (slice_get now k)
      pub kept : (k : ℕ) → HoldsResult k (slice_get old k) → HoldsResult k (slice_get now k)

  module _ (n : ℕ) (gives : ℕ → O → Type 0) (workers : ℕ) where
    -- each item that was taken has its result in its place
    abbrev pub ArePlaced : List ℕ → List (Option (Placed O)) → Type 0
    ArePlaced taken places = (k : ℕ) → k < n → 1 ≤ times k taken → HoldsResult gives workers k (slice_get places k)
