-- The line of the cost comes first, then that of the output, and then those of nodes.
use Rattle.std.proofs.Common.{◌≢◌, ◌∙◌, ap, subst, ◌++◌, List, ℕ, refl, inl, inr}
use Rattle.plan_reading.specs.Formed.{HasCost}
use Rattle.plan_reading.proofs.text.read_by.Goals as goal

pub returns-in_default-behind : goal.returns-in_default-behind
returns-in_default-behind c = λ q texts output. inr (inl (
  refl,
  record {
    cost = c.in-Some.first.cost;
    rest = c.in-Some.first.rest.now;
    has_cost = c.in-Some.ensures.found;
    stuck = λ more. subst (λ (o : List ℕ). c.in-Some.first.rest.now ≢ o ++ more) output
        (c.in_default-behind.ensures.found more);
  },
))

pub returns : goal.returns
returns c = λ q texts output. record {
  rest = c.in-Some-behind.rest.now;
  has_cost = subst (HasCost c.args.text.now c.in-Some.first.cost)
      (c.in-Some-behind.ensures.found ∙ ap (λ (o : List ℕ). o ++ c.in-Some-behind.rest.now) output)
      c.in-Some.ensures.found;
  nodes = c.in_ok-nodes.ensures.ok q texts;
}
