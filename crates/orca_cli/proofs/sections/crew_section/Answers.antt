use Rattle.std.proofs.lemmas.Result.{IfOk-weaker}
use Rattle.orca_cli.proofs.sections.crew_section.Goals as goal

-- the words are those of all goals, and each has a worker
pub crew_text-requires : goal.crew_text-requires
crew_text-requires c = record {
  props = c.requires.props;
  goals = c.goal_lists_are_known.ensures.over c.args.search.query.now c.args.search.goals.now c.requires.all_goals;
  each = c.requires.one_each;
}

-- the text is that of all goals
pub returns : goal.returns
returns c = IfOk-weaker c.crew_text.result _ _
    (λ text is. record {
      goals = c.args.search.goals.now;
      all_goals = c.requires.all_goals;
      who = c.args.search.who.now;
      one_each = c.requires.one_each;
      below = c.requires.below;
      is_text = is;
    })
    c.crew_text.ensures
