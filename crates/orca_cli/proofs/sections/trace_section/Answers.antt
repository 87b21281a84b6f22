use Rattle.std.proofs.lemmas.Result.{IfOk-weaker}
use Rattle.orca_cli.proofs.sections.trace_section.Goals as goal

-- the words are those of the closure, and of all goals
pub trace_text-requires : goal.trace_text-requires
trace_text-requires c = record {
  props = c.requires.props;
  candidates = c.members_are_known.ensures.candidates c.args.search.query.now c.args.search.members.now
      c.requires.closure;
  ascending = c.requires.closure.ascending;
  goals = c.goal_lists_are_known.ensures.over c.args.search.query.now c.args.search.goals.now c.requires.all_goals;
}

-- the text is that of all goals over the closure
pub returns : goal.returns
returns c = IfOk-weaker c.trace_text.result _ _
    (λ text is. record {
      members = c.args.search.members.now;
      closure = c.requires.closure;
      goals = c.args.search.goals.now;
      all_goals = c.requires.all_goals;
      is_text = is;
    }) c.trace_text.ensures
