use Rattle.std.proofs.Common.{◌≡◌, ◌-◌, ap, ◌∙◌, arith}
use Rattle.batch_pool.specs.declared.pass_view.PassView.{PassView}
use Rattle.batch_pool.specs.declared.worker.Worker.{Worker}
use Rattle.batch_pool.specs.Queues.{view_of}
use Rattle.batch_pool.specs.Runs.{IsNewWorker}
use Rattle.batch_pool.proofs.Crews.{all_push, sum_by_push_as}
use Rattle.batch_pool.proofs.crew.hire.Goals as goal

-- the other has one part, and the first pass has one less
pub loop-number-preserved : goal.loop-number-preserved
loop-number-preserved c =
    let i = c.loop-number.invariant in
    let s = c.split-other.ensures in
    let near = c.loop-number-test.true in
    let few = c.requires.workers in
    let before = i.3 in
    let all = i.5 in
    let left : (view_of c.split-other.new.pass).parts ≡ (view_of c.loop-number.pass).parts - 1 = ap (λ (h : PassView). h.parts) s.left in
    let right : (view_of c.split-other.result).parts ≡ 1 = ap (λ (h : PassView). h.parts) s.right in
    let items = c.in_ok-push.ensures.items in
    let parts = sum_by_push_as (λ (w : Worker). (view_of w.pass).parts) _ _ _ items in
    let pushed = sum_by_push_as (λ (w : Worker). (view_of w.pass).pushed) _ _ _ items in
    let pushed_none : (view_of c.split-other.result).pushed ≡ 0 = ap (λ (h : PassView). h.pushed) s.right in
    let none = i.6 in (
      s.this,
      ap (λ (h : PassView). h.taken) s.left ∙ i.1,
      ap (λ (h : PassView). h.pushed) s.left ∙ i.2,
      omega (arith, before, left, near, few),
      all_push (IsNewWorker c.args.queue.now c.args.n) _ _ _ items i.4 (record {
        its = s.other;
        number = near;
        some_part = omega (arith, right);
        none_taken = ap (λ (h : PassView). h.taken) s.right;
      }),
      omega (arith, all, before, left, right, parts, near, few),
      omega (arith, pushed, pushed_none, none),
    )

pub returns-clause-parts : goal.returns-clause-parts
returns-clause-parts c =
    let all = c.loop-number.invariant.5 in
    let parts = sum_by_push_as (λ (w : Worker). (view_of w.pass).parts) _ _ _ c.in_ok-push-2.ensures.items in
    omega (arith, all, parts)

pub returns-clause-pushed : goal.returns-clause-pushed
returns-clause-pushed c =
    let none = c.loop-number.invariant.6 in
    let same = c.loop-number.invariant.2 in
    let pushed = sum_by_push_as (λ (w : Worker). (view_of w.pass).pushed) _ _ _ c.in_ok-push-2.ensures.items in
    omega (arith, none, same, pushed)
