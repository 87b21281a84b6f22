use Rattle.std.proofs.Common.{◌≡◌, [], ◌∷◌, ◌++◌, Some, None, sym, subst}
use Rattle.plan_tree.specs.declared.plan.Found.TheVariants as founds
use Rattle.stage_plan.specs.SoFar.{HaveRun, IsFoundIn}
use Rattle.stage_plan.specs.StagedRuns.{IsStagedRun}
use Rattle.stage_plan.specs.declared.staged.Staged.TheVariants.{Least}
use Rattle.stage_plan.proofs.Taken.{ends_enough, ends_full, takes_none, takes_plan, plan_found}
use Rattle.stage_plan.proofs.so_far.SoFar.take_in.Goals as goal

-- the query has too many entries in the stage
pub returns-in-None : goal.returns-in-None
returns-in-None c = λ q capacity stages rest its.
    ends_full c.least_is_one.ensures q its.limits capacity stages c.args.self.now.ran c.args.self.now.least its.have_run
    c.args.stage rest c.args.number its.its_number
    (subst (λ found. IsFoundIn q capacity c.args.stage found) c.in-None.is its.is_found)

-- it has no plan in the stage
pub returns-in_ok-push-in-Some-NoPlan : goal.returns-in_ok-push-in-Some-NoPlan
returns-in_ok-push-in-Some-NoPlan c = λ q capacity stages its.
    let is : c.args.found ≡ Some founds.NoPlan = cc in
    let found = subst (λ found. IsFoundIn q capacity c.args.stage found) is its.is_found in
    let pushed : c.push.new.self ≡ c.args.self.now.ran ++ None ∷ [] = c.in_ok-push-in-Some-NoPlan.ensures.ok in
    subst (λ ran. HaveRun q capacity (stages ++ c.args.stage ∷ []) ran c.args.self.now.least) (sym pushed)
    (takes_none c.least_is_one.ensures q its.limits capacity stages c.args.self.now.ran c.args.self.now.least
    its.have_run
    c.args.stage found.0 found.1)

-- the plan is enough
pub returns-then-is_enough : goal.returns-then-is_enough
returns-then-is_enough c = λ q capacity stages rest its.
    let is : c.args.found ≡ Some (founds.Least c.in-Some-Least.plan c.in-Some-Least.cost) = cc in
    let found = subst (λ found. IsFoundIn q capacity c.args.stage found) is its.is_found in
    let pushed : c.push-in-Some-Least.new.self ≡ c.args.self.now.ran ++ Some c.in-Some-Least.cost ∷ [] =
    c.in_ok-push-in-Some-Least.ensures.ok in
    let enough = c.is_enough.ensures.0 c.if-is_enough.true in
    let answer : c.answer_of.result ≡ Least c.args.number c.in-Some-Least.plan c.in-Some-Least.cost =
    c.answer_of.ensures in
    subst (λ ran. IsStagedRun q capacity (stages ++ c.args.stage ∷ rest)
    (record { found = c.answer_of.result; ran = ran }))
    (sym pushed)
    (subst (λ told. IsStagedRun q capacity (stages ++ c.args.stage ∷ rest)
    (record { found = told; ran = c.args.self.now.ran ++ Some c.in-Some-Least.cost ∷ [] })) (sym answer)
    (ends_enough c.least_is_one.ensures q its.limits capacity stages c.args.self.now.ran c.args.self.now.least
    its.have_run
    c.args.stage rest c.args.number its.its_number found.0 c.in-Some-Least.plan c.in-Some-Least.cost
    (plan_found q c.args.stage c.in-Some-Least.plan c.in-Some-Least.cost found.1) enough.0 enough.1 enough.2))

-- it isn't
pub returns-in_ok-keep_lesser-in-Some-Least : goal.returns-in_ok-keep_lesser-in-Some-Least
returns-in_ok-keep_lesser-in-Some-Least c = λ q capacity stages its.
    let is : c.args.found ≡ Some (founds.Least c.in-Some-Least.plan c.in-Some-Least.cost) = cc in
    let found = subst (λ found. IsFoundIn q capacity c.args.stage found) is its.is_found in
    let pushed : c.push-in-Some-Least.new.self ≡ c.args.self.now.ran ++ Some c.in-Some-Least.cost ∷ [] =
    c.in_ok-push-in-Some-Least.ensures.ok in
    subst (λ ran. HaveRun q capacity (stages ++ c.args.stage ∷ []) ran c.keep_lesser.new.least) (sym pushed)
    (takes_plan c.least_is_one.ensures q its.limits capacity stages c.args.self.now.ran c.args.self.now.least
    its.have_run
    c.args.stage c.args.number its.its_number c.in-Some-Least.plan c.in-Some-Least.cost
    (plan_found q c.args.stage c.in-Some-Least.plan c.in-Some-Least.cost found.1) found.0
    (λ threshold is_threshold less.
    let yes = c.is_enough.ensures.1 (threshold, is_threshold, less) in
    let no = c.if-is_enough.false in
    cc)
    c.keep_lesser.new.least c.in_ok-keep_lesser-in-Some-Least.ensures)
