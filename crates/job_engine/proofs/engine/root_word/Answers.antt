-- The key names the root's group, and what was collected is what is asked of it.
use Rattle.std.proofs.Common.{◌≡◌, sym, subst, ap, ◌∙◌}
use Rattle.query_core.specs.Keys.{root_of}
use Rattle.query_core.specs.declared.query.Query.{Query}
use Rattle.query_core.specs.declared.words.KeyParts.{KeyParts}
use Rattle.request_props.specs.Numbered.{root_request}
use Rattle.request_props.specs.declared.request.Request.{Request}
use Rattle.goal_space.specs.Words.{IsGoalInRange, goal_word}
use Rattle.goal_space.specs.Goals.{root_goal_of, root_goal}
use Rattle.goal_space.specs.declared.goals.GoalKind.TheVariants.{Opt}
use Rattle.job_engine.proofs.engine.root_word.Goals as goal

root_is : (q : Query) (group : KeyParts) (wanted : Request) → group ≡ root_of q → wanted ≡ root_request q
    → Opt group wanted ≡ root_goal_of q
root_is q group wanted its_group its_request = ap (λ g. Opt g wanted) its_group ∙ ap (Opt (root_of q)) its_request

pub word-requires : goal.word-requires
word-requires c =
    let q = c.args.query.now in
    let is = root_is q c.group.result c.args.props.now.root (sym (c.group.ensures.only (root_of q) c.root.ensures))
    (c.root_request_is_collected.ensures q c.args.props.now c.requires) in
    subst IsGoalInRange (sym is) (c.goals_are_known.ensures.words q c.requires.few_lists c.requires.few_orders
    (root_goal_of q) root_goal)

pub returns-clause-number : goal.returns-clause-number
returns-clause-number c =
    let q = c.args.query.now in
    let is = root_is q c.group.result c.args.props.now.root (sym (c.group.ensures.only (root_of q) c.root.ensures))
    (c.root_request_is_collected.ensures q c.args.props.now c.requires) in
    c.word.ensures.number ∙ ap goal_word is
