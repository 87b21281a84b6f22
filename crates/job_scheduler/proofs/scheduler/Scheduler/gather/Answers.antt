use Rattle.std.proofs.Common.{ap, arith}
use Rattle.board_rule.specs.declared.hands.Hands.{Hands}
use Rattle.goal_board.specs.Seats.{hands}
use Rattle.job_scheduler.specs.Crews.{IsOfCrew, ShowsEnd}
use Rattle.job_scheduler.specs.declared.worker.Worker.{Worker}
use Rattle.job_scheduler.proofs.Crewing.{all_pop, last_pop, parts_push, member_joined, joined_ends}
use Rattle.job_scheduler.proofs.scheduler.Scheduler.gather.Goals as goal

pub loop-other-init : goal.loop-other-init
loop-other-init g c =
    let items = c.in-Some.ensures.items in
    let last = last_pop (λ (w : Worker _). IsOfCrew g.R.GoalRules.meaning c.args.self.now.board c.args.self.now.root
    c.args.self.now.goal c.args._n w × ShowsEnd (hands w.seat).looks c.args.self.now.root) _ _ _ items
    c.requires.each in
    let popped = parts_push _ _ _ items in
    let all = c.requires.parts in (
      last.0,
      last.1,
      all_pop (λ (w : Worker _). IsOfCrew g.R.GoalRules.meaning c.args.self.now.board c.args.self.now.root
          c.args.self.now.goal c.args._n w × ShowsEnd (hands w.seat).looks c.args.self.now.root) _ _ _ items
          c.requires.each,
      omega (arith, popped, all),
    )

pub join-requires-clause-other : goal.join-requires-clause-other
join-requires-clause-other g c κs within =
    (last_pop (λ (w : Worker _). IsOfCrew g.R.GoalRules.meaning c.args.self.now.board c.args.self.now.root
    c.args.self.now.goal c.args._n w × ShowsEnd (hands w.seat).looks c.args.self.now.root) _ _ _
    c.in-Some-pop.ensures.items c.loop-other.invariant.2).0.its

pub loop-other-preserved : goal.loop-other-preserved
loop-other-preserved g c =
    let items = c.in-Some-pop.ensures.items in
    let last = last_pop (λ (w : Worker _). IsOfCrew g.R.GoalRules.meaning c.args.self.now.board c.args.self.now.root
    c.args.self.now.goal c.args._n w × ShowsEnd (hands w.seat).looks c.args.self.now.root) _ _ _ items
    c.loop-other.invariant.2 in
    let popped = parts_push _ _ _ items in
    let all = c.loop-other.invariant.3 in
    let parts = ap (λ (h : Hands _). h.parts) c.join.ensures.hands in (
      member_joined _ _ _ _ _ c.loop-other.worker c.in-Some-pop.other _ c.loop-other.invariant.0 last.0
          c.join.ensures.worker c.join.ensures.same c.join.ensures.hands,
      joined_ends _ (hands c.loop-other.worker.seat) (hands c.in-Some-pop.other.seat) _ c.join.ensures.hands
          c.loop-other.invariant.1,
      all_pop (λ (w : Worker _). IsOfCrew g.R.GoalRules.meaning c.args.self.now.board c.args.self.now.root
          c.args.self.now.goal c.args._n w × ShowsEnd (hands w.seat).looks c.args.self.now.root) _ _ _ items
          c.loop-other.invariant.2,
      omega (arith, popped, all, parts),
    )
