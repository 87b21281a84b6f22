use Rattle.std.proofs.lemmas.Result.{IfOk-weaker}
use Rattle.orca_cli.proofs.sections.trace_first_line.Goals as goal

-- the words are those of goals over the query, and so of goals
pub trace_line-requires : goal.trace_line-requires
trace_line-requires c k d within =
    let q = c.args.search.query.now in
    let words = c.goal_lists_are_known.ensures.over q c.args.search.goals.now c.requires.all_goals in
    let (goal, over, number) = words.over k d within in (
      goal,
      record {
        in_range = c.children_are_over_the_query.ensures.words q c.requires.props.few_lists
            c.requires.props.few_orders goal over;
        number = number;
      },
    )

-- the line counts all goals
pub returns : goal.returns
returns c = IfOk-weaker c.trace_line.result _ _
    (λ line is. record { goals = c.args.search.goals.now; all_goals = c.requires.all_goals; is_line = is })
    c.trace_line.ensures
