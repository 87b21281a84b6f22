use Rattle.xform_rules.specs.Closure.{IsMember}
use Rattle.plan_space.proofs.Serving.{choice_serves}
use Rattle.plan_space.proofs.laws.choices_serve.Goals as goal

pub returns : goal.returns
returns c q group wanted plan fits is = choice_serves (IsMember q) q group (c.satisfaction_splits.ensures.joins q)
    wanted plan fits is
