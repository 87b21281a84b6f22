-- The board's rules are those of the query, so its entries are the board's.
use Rattle.std.proofs.Common.{All, ap, sym, subst, ◌∙◌}
use Rattle.query_core.specs.declared.query.Query.{Query}
use Rattle.goal_space.specs.Entries.{IsEntry}
use Rattle.goal_rules.specs.declared.rules.Rules.{Rules}
use Rattle.engine_tests.proofs.outcome_tests.put_into_board.Goals as goal

pub put_by_two-seat-requires-clause-members : goal.put_by_two-seat-requires-clause-members
put_by_two-seat-requires-clause-members g c κs _ =
    let same = ap (λ (r : Rules). r.query.now) c.in_ok-board.ensures.board.0 ∙ c.new.ensures in
    subst (λ (q : Query). All (IsEntry q) c.args.members.now) (sym same) c.requires.members

pub put_by_two-seat-requires-clause-goals : goal.put_by_two-seat-requires-clause-goals
put_by_two-seat-requires-clause-goals g c κs _ =
    let same = ap (λ (r : Rules). r.query.now) c.in_ok-board.ensures.board.0 ∙ c.new.ensures in
    subst (λ (q : Query). All (IsEntry q) c.args.goals.now) (sym same) c.requires.goals
