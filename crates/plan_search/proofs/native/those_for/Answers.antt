use Rattle.std.proofs.Common.{sym, ◌∙◌, ap}
use Rattle.std.proofs.lemmas.Bool.{false≢true}
use Rattle.plan_search.proofs.Able.{loop_more, loop_less}
use Rattle.plan_search.proofs.native.those_for.Goals as goal
use Rattle.plan_search.proofs.native.those_for.Goals.{then-may_give+in_ok-push, else-may_give}

-- one more is looked at
pub loop-p-preserved : goal.loop-p-preserved
loop-p-preserved c = elim c.if-may_give.branch [
  | then-may_give+in_ok-push w ↦ loop_more c.args.query.now c.args.dist c.args.list.now c.loop-p.those.items _
      c.loop-p.p-index _ c.loop-p-test.true (c.may_give.ensures.0 w.if-may_give.true) c.loop-p.invariant
      (ap (λ l. l.items) w.those-is ∙ w.in_ok-push.ensures.items)
  | else-may_give w ↦ loop_less c.args.query.now c.args.dist c.args.list.now c.loop-p.those.items _ c.loop-p.p-index _
      c.loop-p-test.true
      (λ may. false≢true (sym w.if-may_give.false ∙ c.may_give.ensures.1 may)) c.loop-p.invariant
      (ap (λ l. l.items) w.those-is)
]
