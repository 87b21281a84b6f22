-- From the last line up, each fits over the plans that were made of the lines below it, or is the last misfit.
use Rattle.std.proofs.Common.{◌≡◌, [], ◌∷◌, ◌++◌, reverse, refl, sym, ap, ◌∙◌, subst}
use Rattle.std.proofs.lemmas.List.{nil_from_length, reverse-append}
use Rattle.std.proofs.lemmas.Option.{MatchOption-at_none, MatchOption-at_some}
use Rattle.text_check.specs.Grown.{AreOf, kids_list}
use Rattle.text_check.proofs.GrownKids.{grown_kids_range}
use Rattle.text_check.proofs.Steps.{at_line, forest_at, made_next, misfit_many, misfit_over, plan_whole}
use Rattle.text_check.proofs.grow.plan_of.Goals as goal

-- three plans or more are below the line
pub returns-in_default-take_kids-clause-fault : goal.returns-in_default-take_kids-clause-fault
returns-in_default-take_kids-clause-fault c =
    let q = c.args.query.now in
    let one = c.outlines_are_one.ensures q in
    let at = at_line q one c.args.lines.now c.requires.in_place _ _ _ _ c.loop-line.invariant c.in-Some.ensures.cases.0 in
    misfit_many q one _ c.requires.in_place _ _ _ at (reverse c.take_kids.new.grown.items) _
    c.in_default-take_kids.ensures refl

pub over-requires-clause-form : goal.over-requires-clause-form
over-requires-clause-form c =
    let q = c.args.query.now in
    let one = c.outlines_are_one.ensures q in
    (at_line q one c.args.lines.now c.requires.in_place _ _ _ _ c.loop-line.invariant c.in-Some.ensures.cases.0).form

pub over-requires-clause-groups : goal.over-requires-clause-groups
over-requires-clause-groups c =
    let q = c.args.query.now in
    let one = c.outlines_are_one.ensures q in
    let at = at_line q one c.args.lines.now c.requires.in_place _ _ _ _ c.loop-line.invariant c.in-Some.ensures.cases.0 in
    let forest = forest_at q one _ c.requires.in_place _ _ _ at _ _ c.in-Some-take_kids.ensures in
    grown_kids_range q (c.groups_are_known.ensures.in_range q) (kids_list c.in-Some-take_kids.kids) forest.trees
    forest.grown

-- the line's node stands over none
pub returns-in_default-2-clause-fault : goal.returns-in_default-2-clause-fault
returns-in_default-2-clause-fault c =
    let q = c.args.query.now in
    let one = c.outlines_are_one.ensures q in
    let at = at_line q one c.args.lines.now c.requires.in_place _ _ _ _ c.loop-line.invariant c.in-Some.ensures.cases.0 in
    let taken = c.in-Some-take_kids.ensures in
    let forest = forest_at q one _ c.requires.in_place _ _ _ at _ _ taken in
    misfit_over q one _ c.requires.in_place _ _ _ at _ _ _ taken
    (MatchOption-at_none _ _ c.in_default-2.is (c.in_ok-plan.ensures forest.trees forest.grown)) refl

-- or its plan comes first
pub loop-line-preserved : goal.loop-line-preserved
loop-line-preserved c =
    let q = c.args.query.now in
    let one = c.outlines_are_one.ensures q in
    let at = at_line q one c.args.lines.now c.requires.in_place _ _ _ _ c.loop-line.invariant c.in-Some.ensures.cases.0 in
    let taken = c.in-Some-take_kids.ensures in
    let forest = forest_at q one _ c.requires.in_place _ _ _ at _ _ taken in
    made_next q one _ c.requires.in_place _ _ _ at c.take_kids.new.grown.items c.push.new.self.items _ _ taken
    (MatchOption-at_some _ _ _ c.in-Some-2.is (c.in_ok-plan.ensures forest.trees forest.grown)) c.in_ok-push.ensures.items

-- no line is left, and the plan of the first is that of all
pub returns-clause-ok : goal.returns-clause-ok
returns-clause-ok c =
    let q = c.args.query.now in
    let lines = c.args.lines.now in
    let made = c.loop-line.invariant in
    let gs = reverse c.loop-line.grown.items in
    let none : c.loop-line.rest.now ≡ [] = nil_from_length c.loop-line.rest.now c.in_default.ensures.cases in
    let all : lines ≡ made.done = made.parts ∙ ap (λ ls. ls ++ made.done) none in
    let popped = c.in-Some-pop.ensures.items in
    let turned : gs ≡ c.in-Some-pop.root ∷ reverse c.pop.new.self.items =
    ap reverse popped ∙ reverse-append c.pop.new.self.items (c.in-Some-pop.root ∷ []) in
    plan_whole q (c.outlines_are_one.ensures q) lines c.requires.in_place gs c.in-Some-pop.root
    (reverse c.pop.new.self.items) c.requires.some (subst (AreOf q gs) (sym all) made.plans) turned
