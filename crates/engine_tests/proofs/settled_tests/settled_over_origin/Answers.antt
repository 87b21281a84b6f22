-- The origin of the group that a goal explores is a member, and the call that put its word in, or found it, shows it.
use Rattle.std.proofs.Common.{◌≡◌, ◌∙◌, ap, inl, subst, sym}
use Rattle.query_core.specs.Expressions.{origin_of, word_of, IsPacked}
use Rattle.board_rule.specs.Looks.{ShowsEntry}
use Rattle.goal_board.specs.Seats.{hands}
use Rattle.board_moves.proofs.Working.{put_shown}
use Rattle.goal_space.specs.Entries.{IsEntry}
use Rattle.goal_space.specs.declared.goals.GoalKind.TheVariants.{Exp}
use Rattle.goal_rules.specs.EntryLaws.{zero_is_none}
use Rattle.goal_rules.specs.Meaning.{meaning_of}
use Rattle.engine_tests.proofs.settled_tests.settled_over_origin.Goals as goal

pub make-requires : goal.make-requires
make-requires c =
    let q = c.args.search.now.query.now in
    let known = c.candidates_are_known.ensures in
    let is_group = c.goals_are_known.ensures.candidates q (Exp c.args.group) c.requires.goal in
    subst IsPacked (sym c.origin_of_group.ensures)
    (known.packed q (origin_of q c.args.group) (known.origins q c.args.group is_group))

pub settled-requires-clause-group : goal.settled-requires-clause-group
settled-requires-clause-group c = c.goals_are_known.ensures.candidates c.args.search.now.query.now (Exp c.args.group)
    c.requires.goal

pub settled-requires-clause-origin : goal.settled-requires-clause-origin
settled-requires-clause-origin c =
    let q = c.args.search.now.query.now in
    let room = c.args.search.now.board.now.setup.capacity in
    let word = c.make.result.0 in
    let number : word ≡ word_of (origin_of q c.args.group) = c.make.ensures.number
    ∙ ap word_of c.origin_of_group.ensures in
    let entry : IsEntry q word =
    inl (
      origin_of q c.args.group,
      c.goals_are_known.ensures.members q (Exp c.args.group) c.requires.goal,
      sym number,
    ) in
    subst (λ x. ShowsEntry (meaning_of q) room (hands c.insert.new.seat).looks x) number
    (put_shown (meaning_of q) room (IsEntry q) (hands c.args.seat.now) word c.insert.result (hands c.insert.new.seat)
    (zero_is_none q word entry) c.in_default.not-Full c.insert.ensures.answer)
