-- For each condition what its own test says.
use Rattle.std.proofs.Common.{refl, subst, sym, IsTrue, true}
use Rattle.xform_rules.specs.declared.rules.Condition.TheVariants.{Always, Equated, Grouping}
use Rattle.xform_rules.specs.Forms.{Finds}
use Rattle.xform_rules.specs.Implemented.{IsAllowed, IsFirst}
use Rattle.xform_rules.proofs.Findings.{finds_as}
use Rattle.xform_rules.proofs.implemented.allowed.Goals as goal

pub returns-in-Always : goal.returns-in-Always
returns-in-Always c =
    let allows = IsAllowed c.args.query.now c.args.group c.args.from in
    subst (λ k. Finds (allows k c.args.n) c.first_if.result) (sym c.in-Always.is)
    (finds_as (λ index. IsFirst c.args.n index × IsTrue true) (allows Always c.args.n) (λ index both. both.0)
    (λ index first. (first, refl)) c.first_if.result c.first_if.ensures)

pub returns-in-Equated : goal.returns-in-Equated
returns-in-Equated c =
    let allows = IsAllowed c.args.query.now c.args.group c.args.from in
    subst (λ k. Finds (allows k c.args.n) c.first_if-in-Equated.result) (sym c.in-Equated.is)
    (finds_as (λ index. IsFirst c.args.n index × IsTrue c.is_equated.result) (allows Equated c.args.n)
    (λ index both. (both.0, c.is_equated.ensures.0 both.1))
    (λ index both. (both.0, c.is_equated.ensures.1 both.1))
    c.first_if-in-Equated.result c.first_if-in-Equated.ensures)

pub returns-in-Grouping : goal.returns-in-Grouping
returns-in-Grouping c =
    let allows = IsAllowed c.args.query.now c.args.group c.args.from in
    subst (λ k. Finds (allows k c.args.n) c.first_if-in-Grouping.result) (sym c.in-Grouping.is)
    (finds_as (λ index. IsFirst c.args.n index × IsTrue c.is_grouping.result) (allows Grouping c.args.n)
    (λ index both. (both.0, c.is_grouping.ensures.0 both.1))
    (λ index both. (both.0, c.is_grouping.ensures.1 both.1))
    c.first_if-in-Grouping.result c.first_if-in-Grouping.ensures)

pub returns-in-OwnIndex : goal.returns-in-OwnIndex
returns-in-OwnIndex c =
    subst (λ k. Finds (IsAllowed c.args.query.now c.args.group c.args.from k c.args.n) c.own_index.result)
    (sym c.in-OwnIndex.is) c.own_index.ensures

pub returns-in-UsableIndex : goal.returns-in-UsableIndex
returns-in-UsableIndex c =
    subst (λ k. Finds (IsAllowed c.args.query.now c.args.group c.args.from k c.args.n) c.usable_index.result)
    (sym c.in-UsableIndex.is) c.usable_index.ensures
