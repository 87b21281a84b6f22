use Rattle.std.proofs.Common.{◌≡◌, ◌+◌, ◌-◌, ap, arith}
use Rattle.board_rule.specs.declared.hands.Hands.{Hands}
use Rattle.goal_board.specs.Seats.{hands}
use Rattle.job_scheduler.specs.Crews.{IsOfCrew, parts_of}
use Rattle.job_scheduler.proofs.Crewing.{all_push, parts_push, member_left, member_new}
use Rattle.job_scheduler.proofs.scheduler.Scheduler.hire.Goals as goal

-- the other has one part, and the first one has one less
pub loop-number-preserved : goal.loop-number-preserved
loop-number-preserved g c =
    let s = c.in_ok-other.ensures in
    let first = (hands c.loop-number.first.seat).parts in
    let before : first + c.loop-number.number ≡ 65 = c.loop-number.invariant.2 in
    let all : parts_of c.loop-number.crew.items + first ≡ 64 = c.loop-number.invariant.3 in
    let left : (hands c.split.new.worker.seat).parts ≡ first - 1 = ap (λ (h : Hands _). h.parts) s.left in
    let right : (hands c.in_ok-other.other.seat).parts ≡ 1 = ap (λ (h : Hands _). h.parts) s.right in
    let pushed = parts_push _ _ _ c.in_ok-push.ensures.items in
    let near = c.loop-number-test.true in
    let few = c.requires.few in (
      member_left _ _ _ _ _ c.loop-number.first _ c.loop-number.invariant.0 s.this s.same s.left,
      all_push (IsOfCrew g.R.GoalRules.meaning c.args.self.now.board c.args.self.now.root c.args.self.now.goal c.args.n)
          _ _ _ c.in_ok-push.ensures.items c.loop-number.invariant.1
          (member_new _ _ _ _ _ c.loop-number.first _ c.loop-number.number near s.other s.number s.right),
      omega (arith, before, left, near, few),
      omega (arith, all, before, left, right, pushed, near, few),
    )

pub returns-clause-each : goal.returns-clause-each
returns-clause-each g c =
    all_push (IsOfCrew g.R.GoalRules.meaning c.args.self.now.board c.args.self.now.root c.args.self.now.goal c.args.n) _
    _ _ c.in_ok-push-2.ensures.items c.loop-number.invariant.1 c.loop-number.invariant.0

pub returns-clause-parts : goal.returns-clause-parts
returns-clause-parts g c =
    let all = c.loop-number.invariant.3 in
    let pushed = parts_push _ _ _ c.in_ok-push-2.ensures.items in omega (arith, all, pushed)
