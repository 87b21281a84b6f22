-- The origin of the group that is there, or of none.
use Rattle.std.proofs.Common.{◌≡◌, refl, sym, subst, ◌∙◌}
use Rattle.query_core.specs.Expressions.{origin_of, IsPacked}
use Rattle.query_core.specs.declared.expressions.ExprParts.{ExprParts}
use Rattle.goal_board.specs.Seats.{hands}
use Rattle.job_turns.specs.Works.{IsAskedOf, IsOriginOf}
use Rattle.job_turns.proofs.MembersPut.{put_none, puts_others, origin_is, no_origin}
use Rattle.job_turns.proofs.rule_results.put_origin.Goals as goal

pub put_member-requires-clause-packed : goal.put_member-requires-clause-packed
put_member-requires-clause-packed c = subst IsPacked (sym c.origin_of_group.ensures)
    (c.requires.packed c.in-Some.key c.in-Some.is)

pub put_member-requires-clause-asked : goal.put_member-requires-clause-asked
put_member-requires-clause-asked c = subst (IsAskedOf c.args.search.now.query.now c.args.job.now.right.goal)
    (sym c.origin_of_group.ensures)
    (c.requires.asked (origin_of c.args.search.now.query.now c.in-Some.key) (c.in-Some.key, c.in-Some.is, refl))

pub returns-in-Some-clause-puts : goal.returns-in-Some-clause-puts
returns-in-Some-clause-puts c =
    puts_others c.args.search.now.query.now c.args.search.now.board.now.setup.capacity c.args.job.now.right
    (hands c.args.seat.now)
    (λ (e : ExprParts). e ≡ c.origin_of_group.result) (IsOriginOf c.args.search.now.query.now c.args.group)
    (λ e is. origin_is c.args.search.now.query.now c.args.group c.in-Some.key c.in-Some.is e is ∙ sym
    c.origin_of_group.ensures)
    c.put_member.result (hands c.put_member.new.seat) c.put_member.ensures.puts

pub returns-in-None-clause-puts : goal.returns-in-None-clause-puts
returns-in-None-clause-puts c =
    put_none c.args.search.now.query.now c.args.search.now.board.now.setup.capacity c.args.job.now.right
    (hands c.args.seat.now)
    (IsOriginOf c.args.search.now.query.now c.args.group) (no_origin c.args.search.now.query.now c.args.group
    c.in-None.is)
