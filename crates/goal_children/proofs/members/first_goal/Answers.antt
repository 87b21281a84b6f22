use Rattle.std.proofs.Common.{get_or, subst}
use Rattle.std.proofs.lemmas.List.{take_all}
use Rattle.goal_children.specs.MemberJobs.{HaveNoGoals}
use Rattle.goal_children.proofs.First.{known_word, candidate_of_word, none_first, none_more}
use Rattle.goal_children.proofs.members.first_goal.Goals as goal

-- each word is that of a candidate
pub known_parts-requires : goal.known_parts-requires
known_parts-requires c =
    known_word c.args.memo.query.now (c.candidates_are_known.ensures.packed c.args.memo.query.now)
    (get_or c.args.words.now c.loop-word.word-index 0)
    (c.requires.candidates c.loop-word.word-index 0 c.loop-word-test.true)

pub goal_of-requires-clause-candidate : goal.goal_of-requires-clause-candidate
goal_of-requires-clause-candidate c =
    candidate_of_word c.args.memo.query.now (c.candidates_are_known.ensures.packed c.args.memo.query.now)
    (get_or c.args.words.now c.loop-word.word-index 0) c.known_parts.result
    c.known_parts.ensures.only (c.requires.candidates c.loop-word.word-index 0 c.loop-word-test.true)

pub returns-in-Some : goal.returns-in-Some
returns-in-Some c = record {
  place = c.loop-word.word-index;
  within = c.loop-word-test.true;
  expr = c.known_parts.result;
  candidate = candidate_of_word c.args.memo.query.now (c.candidates_are_known.ensures.packed c.args.memo.query.now)
      (get_or c.args.words.now c.loop-word.word-index 0) c.known_parts.result
      c.known_parts.ensures.only (c.requires.candidates c.loop-word.word-index 0 c.loop-word-test.true);
  word = c.known_parts.ensures.has.number;
  is_goal = c.in-Some.ensures;
  before = c.loop-word.invariant;
}

-- nor has this one a goal
pub loop-word-preserved : goal.loop-word-preserved
loop-word-preserved c =
    none_more c.args.memo.query.now (c.candidates_are_known.ensures.packed c.args.memo.query.now) c.args.job
    c.args.words.now c.loop-word.word-index c.known_parts.result
    c.loop-word-test.true c.known_parts.ensures.only c.loop-word.invariant c.in-None.ensures

pub loop-word-init : goal.loop-word-init
loop-word-init c = none_first c.args.memo.query.now c.args.job

pub returns : goal.returns
returns c = subst (HaveNoGoals c.args.memo.query.now c.args.job)
    (take_all c.loop-word.word-index c.args.words.now c.loop-word-test.false) c.loop-word.invariant
