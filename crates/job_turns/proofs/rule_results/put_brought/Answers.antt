-- The member, and then the origins on either side.
use Rattle.std.proofs.Common.{◌≡◌, ◌⊎◌, false, refl, inl, inr}
use Rattle.query_core.specs.Expressions.{origin_of}
use Rattle.query_core.specs.declared.expressions.ExprParts.{ExprParts}
use Rattle.goal_board.specs.Seats.{hands}
use Rattle.goal_space.specs.Asked.{IsBroughtBy}
use Rattle.job_turns.specs.Works.{IsOriginOf}
use Rattle.job_turns.proofs.MembersPut.{put_both, puts_then, puts_others, brought}
use Rattle.job_turns.proofs.rule_results.put_brought.Goals as goal

pub put_member-requires-clause-packed : goal.put_member-requires-clause-packed
put_member-requires-clause-packed c = c.candidates_are_known.ensures.packed c.args.search.now.query.now c.args.e
    c.requires.candidate

pub put_member-requires-clause-asked : goal.put_member-requires-clause-asked
put_member-requires-clause-asked c = c.requires.asked c.args.e (inl refl)

pub returns-then-not-put_member-clause-puts : goal.returns-then-not-put_member-clause-puts
returns-then-not-put_member-clause-puts c = c.if-not-put_member.ensures.puts

pub put_origin-requires-clause-packed : goal.put_origin-requires-clause-packed
put_origin-requires-clause-packed c = λ key is.
    let known = c.candidates_are_known.ensures in
    known.packed c.args.search.now.query.now (origin_of c.args.search.now.query.now key)
    (known.origins c.args.search.now.query.now key (known.children c.args.search.now.query.now c.args.e key
    c.requires.candidate
    ((c.groups_below-left.ensures key).0 (inl is))))

pub put_origin-requires-clause-asked : goal.put_origin-requires-clause-asked
put_origin-requires-clause-asked c = λ other (key, there, is).
    c.requires.asked other (inr (key, (c.groups_below-left.ensures key).0 (inl there), is))

pub returns-then-not-put_origin-clause-puts : goal.returns-then-not-put_origin-clause-puts
returns-then-not-put_origin-clause-puts c =
    let q = c.args.search.now.query.now in
    puts_then q c.args.search.now.board.now.setup.capacity c.args.job.now.right (hands c.args.seat.now)
    (λ (other : ExprParts). other ≡ c.args.e) (IsOriginOf q c.groups_below-left.result.0)
    (hands c.put_member.new.seat) false (hands c.put_origin.new.seat)
    c.if-not-put_member.ensures.puts c.if-not-put_origin.ensures.puts

pub put_origin-requires-2-clause-packed : goal.put_origin-requires-2-clause-packed
put_origin-requires-2-clause-packed c = λ key is.
    let known = c.candidates_are_known.ensures in
    known.packed c.args.search.now.query.now (origin_of c.args.search.now.query.now key)
    (known.origins c.args.search.now.query.now key (known.children c.args.search.now.query.now c.args.e key
    c.requires.candidate
    ((c.groups_below-left.ensures key).0 (inr is))))

pub put_origin-requires-2-clause-asked : goal.put_origin-requires-2-clause-asked
put_origin-requires-2-clause-asked c = λ other (key, there, is).
    c.requires.asked other (inr (key, (c.groups_below-left.ensures key).0 (inr there), is))

pub returns-clause-puts : goal.returns-clause-puts
returns-clause-puts c =
    let q = c.args.search.now.query.now in
    let capacity = c.args.search.now.board.now.setup.capacity in
    let right = c.args.job.now.right in
    let v = hands c.args.seat.now in
    let itself : ExprParts → Type 0 = λ other. other ≡ c.args.e in
    let first = IsOriginOf q c.groups_below-left.result.0 in
    let second = IsOriginOf q c.groups_below-left.result.1 in
    puts_others q capacity right v (λ other. (itself other ⊎ first other) ⊎ second other) (IsBroughtBy q c.args.e)
    (λ other is. brought q c.args.e c.groups_below-left.result
    (λ group child. (c.groups_below-left.ensures group).1 child) other is) c.put_origin-2.result
    (hands c.put_origin-2.new.seat)
    (puts_then q capacity right v (λ other. itself other ⊎ first other) second (hands c.put_origin.new.seat)
    c.put_origin-2.result (hands c.put_origin-2.new.seat)
    (put_both q capacity right v itself first (hands c.put_member.new.seat) (hands c.put_origin.new.seat)
    c.if-not-put_member.ensures.puts c.if-not-put_origin.ensures.puts) c.put_origin-2.ensures.puts)
