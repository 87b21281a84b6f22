-- The exploration of the group, over the board's rules, which are the query's.
use Rattle.std.proofs.Common.{sym, subst}
use Rattle.query_core.specs.declared.query.Query.{Query}
use Rattle.board_rule.specs.Looks.{ShowsEntry}
use Rattle.goal_board.specs.Seats.{hands}
use Rattle.board_moves.specs.Collects.{IsExploration, Settles}
use Rattle.goal_space.specs.Words.{goal_word}
use Rattle.goal_space.specs.declared.goals.GoalKind.TheVariants.{Exp}
use Rattle.goal_rules.specs.Explored.{explored, origin_word, IsLogicalWord}
use Rattle.goal_rules.specs.Meaning.{meaning_of}
use Rattle.job_turns.proofs.GroupLemmas.{exploration_of}
use Rattle.job_turns.proofs.Shown.{FindEntries, explored_group}
use Rattle.job_turns.proofs.groups.settled.Goals as goal

pub settle-requires-clause-can_next : goal.settle-requires-clause-can_next
settle-requires-clause-can_next c κs = (c.requires.group, c.requires.search.props)

pub settle-requires-clause-group : goal.settle-requires-clause-group
settle-requires-clause-group c κs =
    let q = c.args.search.now.query.now in
    let group = c.args.group in
    let capacity = c.args.search.now.board.now.setup.capacity in
    let looks = (hands c.args.seat.now).looks in
    let found : FindEntries q capacity looks =
    subst (λ (p : Query). FindEntries p capacity looks) c.requires.search.same_query c.requires.seat.over.entries in
    let is_goal = explored_group q capacity looks found (c.entries_are_known.ensures.members q)
    (c.goals_ask_for_members.ensures.all q) group (c.candidates_are_known.ensures.origins q group c.requires.group)
    c.requires.origin in
    subst (λ (p : Query). IsExploration (meaning_of p) (origin_word q group) (IsLogicalWord q group) explored
    (goal_word (Exp group))) (sym c.requires.search.same_query)
    (exploration_of q group (c.explorations_are_known.ensures q c.args.search.now.props.now c.requires.search.props
    group
    is_goal))

pub settle-requires-clause-origin : goal.settle-requires-clause-origin
settle-requires-clause-origin c κs =
    let q = c.args.search.now.query.now in
    subst (λ (p : Query). ShowsEntry (meaning_of p) c.args.search.now.board.now.setup.capacity
    (hands c.args.seat.now).looks
    (origin_word q c.args.group)) (sym c.requires.search.same_query) c.requires.origin

pub returns-clause-settles : goal.returns-clause-settles
returns-clause-settles c =
    let q = c.args.search.now.query.now in
    subst (λ (p : Query). Settles (meaning_of p) c.args.search.now.board.now.setup.capacity
    (IsLogicalWord q c.args.group)
    explored
    (hands c.args.seat.now) (goal_word (Exp c.args.group)) c.settle.result (hands c.settle.new.seat))
    c.requires.search.same_query
    c.settle.ensures.settles
