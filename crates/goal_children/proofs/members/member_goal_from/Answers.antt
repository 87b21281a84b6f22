use Rattle.std.proofs.Common.{All, sym, subst}
use Rattle.std.specs.Prelude.{MatchOption}
use Rattle.std.proofs.lemmas.List.{take_rest}
use Rattle.query_core.specs.Expressions.{IsCandidateWord}
use Rattle.goal_children.specs.MemberJobs.{HaveNoGoals, IsFirstGoal}
use Rattle.goal_children.proofs.OfMembers.{all_behind, job_in_range, own_candidates, own_found, small_words}
use Rattle.goal_children.proofs.members.member_goal_from.Goals as goal

-- the group's words are among those of candidates
pub first_from-from-requires-clause-small : goal.first_from-from-requires-clause-small
first_from-from-requires-clause-small c =
    let q = c.args.memo.query.now in
    let own = c.words_of-own.result.now in
    small_words q (c.candidates_are_known.ensures.packed q) c.expressions_are_one.ensures.small own
    (own_candidates q c.args.memo.members.now own c.requires.memo.candidates c.words_of-own.ensures.part)

pub first_from-from-requires-clause-in_range : goal.first_from-from-requires-clause-in_range
first_from-from-requires-clause-in_range c =
    job_in_range c.args.memo.query.now c.requires.memo.collected.few_lists c.requires.memo.collected.few_orders
    c.args.job c.requires.numbered

pub first_goal-requires-clause-candidates : goal.first_goal-requires-clause-candidates
first_goal-requires-clause-candidates c =
    let q = c.args.memo.query.now in
    let own = c.words_of-own.result.now in
    let first = c.first_from-from.result in
    subst (All (IsCandidateWord q)) (sym (take_rest own first))
    (all_behind (IsCandidateWord q) own first
    (own_candidates q c.args.memo.members.now own c.requires.memo.candidates c.words_of-own.ensures.part))

-- those before the first place lie below the bound
pub returns : goal.returns
returns c =
    let q = c.args.memo.query.now in
    let own = c.words_of-own.result.now in
    let first = c.first_from-from.result in
    own_found q c.args.memo.members.now own c.args.group c.args.job c.args.bound first c.words_of-own.ensures.members
    c.words_of-own.ensures.only c.words_of-own.ensures.part
    c.words_of-own.ensures.rises c.first_from-from.ensures.before c.first_from-from.ensures.after
    (c.candidates_are_known.ensures.packed q)
    (job_in_range q c.requires.memo.collected.few_lists c.requires.memo.collected.few_orders c.args.job
    c.requires.numbered) c.first_goal.result
    (subst (λ words. MatchOption c.first_goal.result (HaveNoGoals q c.args.job words) (IsFirstGoal q c.args.job words))
    (take_rest own first) c.first_goal.ensures)
