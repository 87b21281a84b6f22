use Rattle.std.proofs.Common.{refl, sym, ap, subst, ◌∙◌}
use Rattle.board_rule.specs.Looks.{Looked}
use Rattle.board_rule.specs.declared.hands.Hands.{Hands}
use Rattle.goal_board.proofs.Seen.{looked_earlier}
use Rattle.job_scheduler.proofs.Looking.{worker_after}
use Rattle.job_scheduler.proofs.scheduler.Scheduler.join.Goals as goal

-- the looks of the worker that stays stay
pub returns-clause-worker : goal.returns-clause-worker
returns-clause-worker g c = record {
  its = worker_after _ _ _ _ c.args.worker.now _ c.requires.worker.its c.join.ensures.seat
      (λ word found look. subst (λ (h : Hands _). Looked h.looks word found) (sym c.join.ensures.hands)
      (looked_earlier _ _ word found look))
      c.requires.worker.its.hints c.requires.worker.its.next refl;
  free = ap (λ (h : Hands _). h.rights) c.join.ensures.hands ∙ c.requires.worker.free;
}
