use Rattle.xform_rules.specs.Closure.{IsMember}
use Rattle.plan_space.proofs.OneLeast.{least_names_one}
use Rattle.plan_space.proofs.laws.least_is_one.Goals as goal

-- two least plans have one code, and a code is that of one plan
pub returns : goal.returns
returns c = λ q few_lists few_orders group wanted plan other x y.
    least_names_one (IsMember q) (λ e member.
    c.candidates_are_known.ensures.packed q e (c.members_are_candidates.ensures q e member))
    c.expressions_are_one.ensures.expressions q few_lists few_orders group wanted other plan y x
