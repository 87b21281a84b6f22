use Rattle.std.specs.Prelude.{◌≡◌, ◌≤◌, Option, None, Some, option_map}
use Rattle.std.proofs.Common.{sym, subst}
use Rattle.query_core.specs.declared.query.Query.{Query}
use Rattle.query_core.specs.declared.words.KeyParts.{KeyParts}
use Rattle.request_props.specs.Numbered.{IsProps}
use Rattle.request_props.specs.declared.props.Props.{Props}
use Rattle.request_props.specs.declared.request.Request.{Request}
use Rattle.request_props.specs.Fitting.{Fits}
use Rattle.query_core.specs.Expressions.{expr_of}
use Rattle.plan_space.specs.Nodes.{Tree}
use Rattle.plan_space.specs.Cost.{most_of_all}
use Rattle.plan_space.specs.Laws.{ChoiceCostsFit}
use Rattle.best_answers.specs.Nodes.{Nodes}
use Rattle.best_answers.specs.Answers.{answer_of}
use Rattle.best_answers.specs.Best.{IsLeastIn}
use Rattle.best_answers.specs.declared.best.Best.{Best}
use Rattle.best_answers.proofs.OneChoice.{AreTold, choice_in_range}
use Rattle.best_answers.proofs.OneBest.{best_one}
use Rattle.best_answers.proofs.Least.{AreOrdered, lesser_best, none_best, covered_best}
use Rattle.best_answers.proofs.Single.{enforcer_best, mode_best}
use Rattle.best_answers.proofs.laws.answers_are_best.Goals as goal

-- a choice costs no more than any may
answer_fits : (q : Query) → ChoiceCostsFit q
    → (group : KeyParts) (wanted : Request) (set : Nodes) (best : Best) (plan : Option Tree) → Fits q group wanted
    → IsLeastIn q group wanted set plan → Some best ≡ option_map (answer_of q) plan → best.cost ≤ most_of_all
answer_fits q costs group wanted set best None fits least is = cc
answer_fits q costs group wanted set best (Some plan) fits least is =
    let same : best ≡ answer_of q plan = cc in
    subst (λ b. b.cost ≤ most_of_all) (sym same) (costs group wanted plan fits least.choice.0)

-- two plans with one root are one, so the lesser pair is that of the lesser plan, in whatever order nodes are tried
pub returns : goal.returns
returns c =
    let told : (q : Query) (props : Props) → IsProps q props → AreTold q = λ q props is. record {
      few_lists = is.few_lists;
      few_orders = is.few_orders;
      least_one = c.least_is_one.ensures q is.few_lists is.few_orders;
      nodes_one = c.nodes_are_one.ensures;
      few_modes = c.modes_are_few.ensures.few q is.few_lists;
      packed = λ e member. c.candidates_are_known.ensures.packed q e (c.members_are_candidates.ensures q e member);
    } in
    let order : (q : Query) → AreOrdered q =
    λ q. record { itself = c.plans_are_ordered.ensures.itself q; along = c.plans_are_ordered.ensures.along q } in
    record {
      one = λ q props is group wanted set answer other x y.
          best_one q (told q props is) group wanted set answer other x y;
      none = none_best;
      enforcer = λ q group wanted e local answer fits among cost best.
          enforcer_best q group wanted e among (order q) local cost (c.best_is_least.ensures q)
          (c.what_is_asked_fits.ensures.enforcers q group wanted e fits among) answer best;
      mode = λ q e mode line wanted local answers member fits alternative cost best.
          mode_best q e mode line wanted alternative (order q) member local cost (c.best_is_least.ensures q)
          (c.what_is_asked_fits.ensures.children q e mode line wanted
          (c.members_are_candidates.ensures q (expr_of e) member) fits alternative) answers best;
      lesser = λ q props is group wanted some others first second fits x y.
          lesser_best q (told q props is) group wanted (order q) fits some others first second x y;
      covered = covered_best;
      fits = λ q group wanted set best fits (plan, least, is).
          answer_fits q (c.costs_fit.ensures.choice q) group wanted set best plan fits least is;
      roots = λ q props is group wanted plan fits choice.
          choice_in_range q (told q props is) group wanted plan fits choice;
    }
