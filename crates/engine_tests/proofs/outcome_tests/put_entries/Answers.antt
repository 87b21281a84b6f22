use Rattle.std.proofs.Common.{All, List, ℕ, inl, inr, subst, sym}
use Rattle.goal_space.specs.Entries.{IsEntry}
use Rattle.engine_tests.proofs.outcome_tests.put_entries.Goals as goal

-- members are entries
pub put_into_board-requires-clause-members : goal.put_into_board-requires-clause-members
put_into_board-requires-clause-members g c =
    subst (λ (words : List ℕ). All (IsEntry c.args.query.now) words) (sym c.as_slice.ensures)
    (λ k d within. inl (c.in_ok-found.ensures.members.sound k d within))

-- and so are goals
pub put_into_board-requires-clause-goals : goal.put_into_board-requires-clause-goals
put_into_board-requires-clause-goals g c =
    subst (λ (words : List ℕ). All (IsEntry c.args.query.now) words) (sym c.as_slice-2.ensures)
    (λ k d within. inr (c.in_ok-found.ensures.goals.sound k d within))
