use Rattle.std.proofs.Common.{All, List, map, sym, subst}
use Rattle.std.specs.List.Sorted.{IsStrictlyIncreasing}
use Rattle.query_core.specs.Expressions.{word_of, IsCandidate}
use Rattle.query_core.specs.declared.expressions.ExprParts.{ExprParts}
use Rattle.goal_children.specs.Finding.{AppendsGoals, IsOfMembers}
use Rattle.goal_children.specs.MemberJobs.{IsGoalAmong}
use Rattle.goal_children.proofs.Appending.{appends_as}
use Rattle.goal_children.proofs.HeldMembers.{known_words, own_are_candidates}
use Rattle.goal_children.proofs.MemberGoals.{among_members, members_among}
use Rattle.goal_children.proofs.members.push_member_goals.Goals as goal

-- words of candidates are words of expressions
pub hold_members-requires-clause-words : goal.hold_members-requires-clause-words
hold_members-requires-clause-words c =
    known_words c.args.memo.query.now (c.candidates_are_known.ensures.packed c.args.memo.query.now)
    c.args.memo.members.now c.requires.memo.candidates

pub hold_members-requires-clause-in_range : goal.hold_members-requires-clause-in_range
hold_members-requires-clause-in_range c =
    c.groups_are_known.ensures.in_range c.args.memo.query.now c.args.group c.requires.known

-- the expressions that are held are candidates
pub push_goals_of-requires-clause-candidates : goal.push_goals_of-requires-clause-candidates
push_goals_of-requires-clause-candidates c =
    let q = c.args.memo.query.now in
    subst (All (IsCandidate q)) (sym c.as_slice.ensures.value)
    (own_are_candidates q (c.candidates_are_known.ensures.packed q) c.expressions_are_one.ensures.expressions
    c.args.memo.members.now c.args.group c.hold_members.new.held.members.items
    c.requires.memo.candidates c.in_ok-hold_members.ensures.ok)

pub push_goals_of-requires-clause-ascending : goal.push_goals_of-requires-clause-ascending
push_goals_of-requires-clause-ascending c =
    subst (λ (es : List ExprParts). IsStrictlyIncreasing (map word_of es)) (sym c.as_slice.ensures.value)
    c.in_ok-hold_members.ensures.ok.own.rises

-- and those of the group's members
pub returns : goal.returns
returns c =
    let q = c.args.memo.query.now in
    let words = c.args.memo.members.now in
    let job = c.args.job in
    let es = c.hold_members.new.held.members.items in
    let old = c.args.goals.now.items in
    let new = c.push_goals_of.new.goals.items in
    let packed = c.candidates_are_known.ensures.packed q in
    let are = c.in_ok-hold_members.ensures.ok.own in
    record {
      ok = appends_as (IsGoalAmong q job (map word_of es)) (IsOfMembers q words c.args.group job) old new
          (among_members q packed words (map word_of es) c.args.group job are.only are.part)
          (members_among q packed words (map word_of es) c.args.group job are.all)
          (subst (λ (gs : List ExprParts). AppendsGoals (IsGoalAmong q job (map word_of gs)) old new)
          c.as_slice.ensures.value c.in_ok-push_goals_of.ensures.ok);
      held = c.in_ok-hold_members.ensures.held;
    }
