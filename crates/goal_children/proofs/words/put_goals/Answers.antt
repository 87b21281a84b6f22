use Rattle.std.proofs.Common.{sym, subst}
use Rattle.goal_children.specs.GoalLists.{HaveGoalWords}
use Rattle.goal_children.proofs.OfWords.{no_words, one_more_word}
use Rattle.goal_children.proofs.words.put_goals.Goals as goal

pub known_goal-requires : goal.known_goal-requires
known_goal-requires c = c.requires c.loop-word.word-index 0 c.loop-word-test.true

pub loop-word-init : goal.loop-word-init
loop-word-init c = subst (HaveGoalWords _) (sym c.clear.ensures.items) no_words

-- with the goal of this word
pub loop-word-preserved : goal.loop-word-preserved
loop-word-preserved c =
    subst (HaveGoalWords _) (sym c.in_ok-push.ensures.items)
    (one_more_word c.args.words.now c.loop-word.word-index c.loop-word.list.items c.known_goal.result
    c.loop-word-test.true
    (c.requires c.loop-word.word-index 0 c.loop-word-test.true) c.known_goal.ensures c.loop-word.invariant)
