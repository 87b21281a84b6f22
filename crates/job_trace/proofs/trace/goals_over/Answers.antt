use Rattle.std.proofs.lemmas.Result.{IfOk-weaker}
use Rattle.job_trace.proofs.Traced.{are_goals, words_of_goals}
use Rattle.job_trace.proofs.trace.goals_over.Goals as goal

-- goals over the query have words, so the words are those of goals
pub goals_of-requires : goal.goals_of-requires
goals_of-requires c =
    let q = c.args._query.now in
    words_of_goals q c.args.words.now (c.children_are_over_the_query.ensures.words q c.requires.props.few_lists
    c.requires.props.few_orders) c.requires.goals

-- which are goals over the query
pub returns : goal.returns
returns c =
    let q = c.args._query.now in
    let in_range = c.children_are_over_the_query.ensures.words q c.requires.props.few_lists
    c.requires.props.few_orders in
    IfOk-weaker c.goals_of.result _ _ (λ made.
    are_goals q c.args.words.now in_range c.requires.goals c.goal_kinds_are_one.ensures.one made.items)
    c.goals_of.ensures
