use Rattle.std.proofs.Common.{◌≡◌, sym, ap, ◌∙◌, subst}
use Rattle.std.specs.List.{Contains}
use Rattle.best_answers.specs.Best.{IsBest}
use Rattle.best_answers.specs.Nodes.{all_nodes}
use Rattle.goal_space.specs.Answers.{IsAnswerTo, TellsAnswer, words_told}
use Rattle.goal_space.specs.Words.{goal_word}
use Rattle.plan_report.specs.PlansAsked.{goal_of}
use Rattle.plan_report.proofs.extraction.best_at.Goals as goal

-- every goal of the query has an answer
pub unreachable-requires : goal.unreachable-requires
unreachable-requires g c =
    c.in-None.ensures.none (subst (Contains (words_told (g.S.AnswerSource.answers c.args.source.now)))
    (sym c.word-goal.ensures.number) (c.requires.answers.complete (goal_of c.args.at) c.requires.goal))

-- what is told under the goal's word is the answer of this goal and of no other
pub returns : goal.returns
returns g c =
    let q = c.args.query.now in
    let here = goal_of c.args.at in
    let (place, near, at) = c.in-Some.ensures.found.0 in
    let found : TellsAnswer q c.in-Some.told =
    subst (TellsAnswer q) at (c.requires.answers.sound place c.in-Some.told near) in
    let is = found.1 in
    let few = c.goals_are_known.ensures.words q c.requires.props.few_lists c.requires.props.few_orders in
    let word : goal_word found.0 ≡ goal_word here = is.names.number ∙ ap (λ g. g.0) c.in-Some.ensures.found.1
    ∙ c.word-goal.ensures.number in
    let same = c.goal_kinds_are_one.ensures.one found.0 here (few found.0 is.names.is_goal) (few here c.requires.goal)
    word in
    let best = subst (λ k. IsAnswerTo q k is.answer) same is.is_answer in
    subst (IsBest q c.args.at.group c.args.at.wanted all_nodes) (sym (c.best_in.ensures q found.0 is)) best
