-- The board's rules are those of the query, and it has as many cells as the engine says.
use Rattle.std.proofs.Common.{ℕ, ◌<◌, subst, ◌∙◌}
use Rattle.goal_board.specs.Seats.{hands}
use Rattle.goal_rules.specs.declared.rules.Rules.{Rules}
use Rattle.job_turns.specs.Searches.{rules_mean}
use Rattle.job_scheduler.specs.Steps.{Steps, StepsAlone}
use Rattle.job_scheduler.specs.Workers.{ShowsGoal}
use Rattle.job_engine.specs.Searching.{StepsIn}
use Rattle.job_engine.proofs.Shown.{full_again}
use Rattle.job_engine.proofs.engine.Engine.step.Goals as goal

steps_in : (c : goal.After-step) → StepsIn c.args.self.now c.args.worker.now.number (hands c.args.worker.now.seat)
    c.step.result (hands c.step.new.worker.seat)
steps_in c =
    let e = c.args.self.now in
    let v = hands c.args.worker.now.seat in
    let w = hands c.step.new.worker.seat in
    let n = c.args.worker.now.number in
    subst (λ (r : Rules). Steps (rules_mean r) e.cells e.scheduler.root n v c.step.result w) e.of_rules
    (subst (λ (cells : ℕ). Steps (rules_mean e.scheduler.board.setup.rules) cells e.scheduler.root n v c.step.result w)
    e.same_cells c.step.ensures.steps)

pub returns-clause-steps : goal.returns-clause-steps
returns-clause-steps c = steps_in c

pub returns-clause-alone : goal.returns-clause-alone
returns-clause-alone c =
    let e = c.args.self.now in
    let v = hands c.args.worker.now.seat in
    let w = hands c.step.new.worker.seat in
    subst (λ (r : Rules). StepsAlone (rules_mean r) e.cells v c.step.result w) e.of_rules
    (subst (λ (cells : ℕ). StepsAlone (rules_mean e.scheduler.board.setup.rules) cells v c.step.result w) e.same_cells
    c.step.ensures.alone)

-- what was seen set stays so
pub returns-clause-full : goal.returns-clause-full
returns-clause-full c full =
    let e = c.args.self.now in
    let q = e.rules.query.now in
    let root = e.scheduler.root in
    let w = hands c.step.new.worker.seat in
    let near = subst (λ (cells : ℕ). root < cells) e.same_cells e.scheduler.near in
    let shown = subst (λ (r : Rules). ShowsGoal (rules_mean r) w.looks root e.scheduler.goal) e.of_rules
    c.step.ensures.worker.its.root_shown in
    full_again q e.cells root c.args.worker.now.number near (c.goals_ask_for_members.ensures.all q)
    (hands c.args.worker.now.seat) w c.step.result full
    c.step.ensures.keeps.looks (subst (ShowsGoal (rules_mean e.rules) w.looks root) (e.same_goal ∙ e.its_root) shown)
    (steps_in c) (c.step.ensures.full full)
