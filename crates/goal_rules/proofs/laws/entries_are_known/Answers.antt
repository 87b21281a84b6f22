use Rattle.query_core.specs.declared.query.Query.{Query}
use Rattle.request_props.specs.Numbered.{IsProps}
use Rattle.request_props.specs.declared.props.Props.{Props}
use Rattle.goal_rules.proofs.KnownWords.{entries_members, known_word}
use Rattle.goal_rules.proofs.laws.entries_are_known.Goals as goal

pub returns : goal.returns
returns c =
    let exprs = c.expressions_are_one.ensures in
    record {
      members = λ (q : Query). entries_members q exprs.expressions exprs.small (c.candidates_are_known.ensures.packed q)
          (c.members_are_candidates.ensures q);
      goals = λ (q : Query) (props : Props) (is_props : IsProps q props).
          known_word q c.goal_kinds_are_one.ensures.one
          (c.goals_are_known.ensures.words q is_props.few_lists is_props.few_orders)
          (c.members_are_known.ensures.small q);
    }
