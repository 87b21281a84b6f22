-- What is finished on the board are the answers of the search.
use Rattle.std.proofs.Common.{sym, subst, ap}
use Rattle.std.specs.List.{Contains}
use Rattle.plan_tree.specs.declared.answers.Answered.{Answered}
use Rattle.job_outcome.specs.Searched.{answers_of}
use Rattle.job_outcome.proofs.LookedUp.{found_told, told_finished}
use Rattle.job_outcome.proofs.searched.SearchedAnswerSource.answer.Goals as goal

pub returns-in-Some-clause-found : goal.returns-in-Some-clause-found
returns-in-Some-clause-found c = (
  subst (Contains (answers_of c.args.self.now)) (sym c.told.ensures)
      (found_told c.args.self.now c.args.goal.0 c.in-Some.answer c.in-Some.ensures.found),
  ap (λ (told : Answered). told.goal) c.told.ensures,
)

pub returns-in-None-clause-none : goal.returns-in-None-clause-none
returns-in-None-clause-none c has = c.in-None.ensures.none (told_finished c.args.self.now c.args.goal.0 has)
