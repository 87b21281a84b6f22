use Rattle.std.specs.Prelude.{Option, None, Some}
use Rattle.query_core.specs.declared.query.Query.{Query}
use Rattle.query_core.specs.declared.words.KeyParts.{KeyParts}
use Rattle.xform_rules.specs.Closure.{IsMember}
use Rattle.request_props.specs.declared.request.Request.{Request}
use Rattle.request_props.specs.Fitting.{Fits}
use Rattle.plan_space.specs.Nodes.{Tree}
use Rattle.plan_space.specs.Laws.{ChoicesServe}
use Rattle.plan_space.specs.Choices.{BestServes}
use Rattle.best_answers.specs.Nodes.{all_nodes}
use Rattle.best_answers.specs.Best.{IsChoiceIn}
use Rattle.best_answers.proofs.laws.best_is_least.Goals as goal

best_serves : (q : Query) → ChoicesServe q → (group : KeyParts) (wanted : Request) (plan : Option Tree)
    → Fits q group wanted → IsChoiceIn q group wanted all_nodes plan
    → BestServes (IsMember q) q group wanted plan
best_serves q serve group wanted None fits choice = tt
best_serves q serve group wanted (Some plan) fits choice = serve group wanted plan fits choice.0

-- the least of all choices is at most what each node makes of least plans
pub returns : goal.returns
returns c q group wanted answer fits (plan, least, is) = (
  plan,
  least,
  c.best_of_all_is_least.ensures q group wanted plan fits (record {
    best_serves = best_serves q (c.choices_serve.ensures q) group wanted plan fits least.choice;
    enforcers = λ e among. least.enforcers e among tt;
    members = λ e mode member of_group. least.members e mode member of_group tt;
  }),
  is,
)
