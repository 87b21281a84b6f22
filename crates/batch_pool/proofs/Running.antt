-- What was run of what was taken.
use Rattle.std.proofs.Common.{◌≡◌, ◌≢◌, ℕ, ◌<◌, ◌≤◌, List, [], ◌∷◌, ◌++◌, cond, eqb, sym, ap, subst, arith, ◌∙◌, Ok, Err, Result, IfOk, append_assoc, append-nil}
use Rattle.std.proofs.lemmas.Bool.Decides.{nat_tests}
use Rattle.batch_pool.specs.declared.pass_view.PassView.{PassView}
use Rattle.batch_pool.specs.Views.{after_pop}
use Rattle.batch_pool.specs.Runs.{times_run, AreRun, RanSince, AreOutputs, IsReturned}
use Rattle.batch_pool.specs.Queues.{view_of}
use Rattle.batch_pool.specs.declared.queue.ItemQueue.{ItemQueue}
use Rattle.batch_pool.specs.declared.worker.WorkerRun.{WorkerRun}
use Rattle.batch_pool.specs.declared.worker.RanItem.{RanItem}
use Rattle.batch_pool.proofs.Lists.{times-append}
use Rattle.batch_pool.proofs.Crews.{all_push, sum_by_push_as}

module _ {O : Type 0} (n : ℕ) (gives : ℕ → O → Type 0) where
  -- nothing was taken, and nothing was run
  pub run_none : (v : PassView) (ran : List (RanItem O)) → ran ≡ [] → RanSince n gives v v ran
  run_none v ran empty = record {
    since = [];
    taken = sym (append-nil v.taken);
    are_run = record {
      outputs = subst (AreOutputs n gives) (sym empty) (λ k d near. absurd (omega arith));
      as_often = λ k near. let r : times_run k ran ≡ 0 = ap (times_run k) empty in omega (arith, r);
    };
  }

  -- one more was taken
  taken_more : (v w w' : PassView) (item : ℕ) (since : List ℕ) → w.taken ≡ v.taken ++ since → w' ≡ after_pop w item
      → w'.taken ≡ v.taken ++ (since ++ item ∷ [])
  taken_more v w w' item since was step =
      ap (λ (h : PassView). h.taken) step
      ∙ (ap (λ l. l ++ item ∷ []) was ∙ append_assoc v.taken since (item ∷ []))

  -- one more was taken and run
  pub run_more : (v w w' : PassView) (ran ran' : List (RanItem O)) (r : RanItem O) → RanSince n gives v w ran
      → r.item < n → gives r.item r.output → w' ≡ after_pop w r.item → ran' ≡ ran ++ r ∷ [] → RanSince n gives v w' ran'
  run_more v w w' ran ran' r h near gave step pushed = record {
    since = h.since ++ r.item ∷ [];
    taken = taken_more v w w' r.item h.since h.taken step;
    are_run = record {
      outputs = all_push (λ (r : RanItem O). (r.item < n) × gives r.item r.output) ran ran' r pushed h.are_run.outputs
          (near, gave);
      as_often = λ k small.
          let e = h.are_run.as_often k small in
          let t = times-append k h.since (r.item ∷ []) in
          let p = sum_by_push_as (λ (r : RanItem O). cond (eqb r.item k) 1 0) ran ran' r pushed in
          omega (arith, e, t, p);
    };
  }

  -- a number that is not an item's was taken
  pub run_skip : (v w w' : PassView) (ran : List (RanItem O)) (item : ℕ) → RanSince n gives v w ran → n ≤ item
      → w' ≡ after_pop w item → RanSince n gives v w' ran
  run_skip v w w' ran item h far step = record {
    since = h.since ++ item ∷ [];
    taken = taken_more v w w' item h.since h.taken step;
    are_run = record {
      outputs = h.are_run.outputs;
      as_often = λ k small.
          let e = h.are_run.as_often k small in
          let t = times-append k h.since (item ∷ []) in
          let not_it : cond {A = ℕ} (eqb item k) 1 0 ≡ 0 = grind (arith, nat_tests) in
          omega (arith, e, t, not_it);
    };
  }

  -- a pass that had taken nothing before
  pub run_from_start : (v w : PassView) (ran : List (RanItem O)) → v.taken ≡ [] → RanSince n gives v w ran → AreRun n gives w.taken ran
  run_from_start v w ran none h =
      subst (λ l. AreRun n gives l ran) (sym (h.taken ∙ ap (λ l. l ++ h.since) none)) h.are_run

-- where others than k were run last
pub run_less : {O : Type 0} (k : ℕ) (ran ran' : List (RanItem O)) (r : RanItem O) → ran ≡ ran' ++ r ∷ [] → k ≢ r.item
    → times_run k ran ≡ times_run k ran'
run_less k ran ran' r is ne =
    let p = sum_by_push_as (λ (r : RanItem _). cond (eqb r.item k) 1 0) ran' ran r is in
    let not_it : cond {A = ℕ} (eqb r.item k) 1 0 ≡ 0 = grind (arith, nat_tests) in
    omega (arith, p, not_it)

-- what a worker that has come back ran
pub returned_run : {O : Type 0} (n : ℕ) (gives : ℕ → O → Type 0) (queue : ItemQueue) (workers : ℕ) (w : WorkerRun O) (ran : _)
    → w.ran ≡ Ok ran → IsReturned n gives queue workers w → AreRun n gives (view_of w.pass).taken ran.items
returned_run n gives queue workers w ran is h =
    subst (λ r. IfOk r (λ ran. AreRun n gives (view_of w.pass).taken ran.items)) is h.ran

pub if_ok_as : {X E : Type 0} (P Q : X → Type 0) → ((x : X) → P x → Q x) → (r : Result X E) → IfOk r P → IfOk r Q
if_ok_as P Q follows (Ok x) h = follows x h
if_ok_as P Q follows (Err e) h = tt
