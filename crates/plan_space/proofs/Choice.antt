-- What is at most all that its nodes make of least plans is at most every valid plan, however many enforcers that has.
use Rattle.std.proofs.Common.{◌≡◌, ℕ, List, [], ◌∷◌, inl, inr, sym, subst}
use Rattle.std.specs.Prelude.{Option, Some, None}
use Rattle.query_core.specs.Expressions.{expr_of, physical_children, IsCandidate}
use Rattle.query_core.specs.declared.query.Query.{Query}
use Rattle.query_core.specs.declared.words.KeyParts.{KeyParts}
use Rattle.query_core.specs.declared.expressions.ExprParts.{ExprParts}
use Rattle.query_core.specs.declared.expressions.PhysicalExpr.{PhysicalExpr}
use Rattle.request_props.specs.Satisfied.{Satisfies}
use Rattle.request_props.specs.declared.request.Request.{Request}
use Rattle.request_props.specs.Fitting.{Fits}
use Rattle.plan_space.specs.Nodes.{Tree, leaf, over, two}
use Rattle.plan_space.specs.declared.nodes.NodeKind.TheVariants as nodes
use Rattle.plan_space.specs.declared.nodes.Enforcer.{Enforcer}
use Rattle.plan_space.specs.Lines.{line_of}
use Rattle.plan_space.specs.declared.lines.Line.{Line}
use Rattle.plan_space.specs.Gives.{kid_of, gives, native_gives}
use Rattle.plan_space.specs.Valid.{NativeFits, IsValid}
use Rattle.plan_space.specs.Alternatives.{asked_of, KidsServe}
use Rattle.plan_space.specs.Least.{Serves, IsAnswer}
use Rattle.plan_space.specs.Choices.{groups_of, IsNodeOver, Beats, BeatsLine}
use Rattle.plan_space.specs.Choices.{BeatsMode, BeatsAll, BestServesAtRoot, IsAnswerAtRoot}
use Rattle.plan_space.specs.Laws.{GivenFits, AreOf, SatisfactionSplits}
use Rattle.plan_space.proofs.Plans.{IsAtMost-not_less}
use Rattle.plan_space.proofs.Exchange.{IsOrdered, exchange}
use Rattle.plan_space.proofs.Kids.{sights, AreValid, kids_fit, AreAlike, kids_of_children}
use Rattle.plan_space.proofs.LeastBelow.{Beats-over, LeastAreAtMost, AreAtMost, lacks_kids, least_kids}
use Rattle.plan_space.proofs.LeastBelow.{at_leaf, at_one, at_two, at_replaced}

module _ (Member : ExprParts → Type 0) (q : Query) (at_most_each : LeastAreAtMost Member q) (group : KeyParts)
    (wanted : Request)
    (best : Option Tree) (fits : Fits q group wanted) (candidates : (e : ExprParts) → Member e → IsCandidate q e)
    (given_fits : (plan : Tree) → IsValid Member q plan → GivenFits q (kid_of q plan).group (gives q plan))
    (splits : SatisfactionSplits q) where
  -- least plans for what the line asks by which an expression at the root serves
  record IsFoundBelow (e : PhysicalExpr) (mode : ℕ) (kids : List Tree) : Type 0 where
    plans : List Tree
    plan : Tree
    at_most : AreAtMost q plans kids
    alike : AreAlike (sights q plans) (sights q kids)
    over_plans : IsNodeOver (nodes.Native e mode) plans plan
    beats : Beats q best plan

  beats_below : (e : PhysicalExpr) (mode : ℕ) (kids : List Tree) (line : Line)
      → AreOf (groups_of (physical_children e.operator)) (sights q kids)
      → KidsServe q (sights q kids) (asked_of line wanted) → AreValid Member q kids
      → BeatsLine Member q e mode line wanted best
      → IsFoundBelow e mode kids
  beats_below e mode kids line of_children serve valid (inl (plans, plan, least, over_plans, beats)) =
      let facts = least_kids Member q at_most_each (groups_of (physical_children e.operator))
      (asked_of line wanted) plans
      kids least of_children serve valid in
      record {
        plans = plans;
        plan = plan;
        at_most = facts.0;
        alike = facts.1;
        over_plans = over_plans;
        beats = beats;
      }
  beats_below e mode kids line of_children serve valid (inr lacks) =
      absurd (lacks_kids Member q at_most_each (groups_of (physical_children e.operator)) (asked_of line wanted) kids
      of_children serve valid lacks)

  found_below : (e : PhysicalExpr) (mode : ℕ) (kids : List Tree) → Member (expr_of e) → e.group ≡ group
      → AreValid Member q kids
      → NativeFits q e mode (sights q kids) → Satisfies q (native_gives q e mode (sights q kids)) wanted
      → BeatsMode Member q wanted e mode best → IsFoundBelow e mode kids
  found_below e mode kids member of_group valid native_fits satisfies beats =
      let e_fits = subst (λ (g : KeyParts). Fits q g wanted) (sym of_group) fits in
      let split = splits e mode (sights q kids) wanted (candidates (expr_of e) member)
      (kids_fit Member q given_fits kids valid) e_fits native_fits satisfies in
      let of_children = kids_of_children q (physical_children e.operator) (line_of q e mode) (sights q kids)
      native_fits in
      beats_below e mode kids split.0 of_children split.2 valid (beats split.0 split.1)

  root_leaf : (e : PhysicalExpr) (mode : ℕ) → Serves Member q group wanted (leaf (nodes.Native e mode))
      → BeatsMode Member q wanted e mode best → Beats q best (leaf (nodes.Native e mode))
  root_leaf e mode serves beats =
      let found = found_below e mode [] serves.valid.0 serves.of_group tt serves.valid.1 serves.satisfies beats
      in
      at_leaf q best e mode found.plans found.plan found.at_most found.over_plans found.beats

  root_over : (e : PhysicalExpr) (mode : ℕ) (kid : Tree)
      → Serves Member q group wanted (over (nodes.Native e mode) kid)
      → BeatsMode Member q wanted e mode best → Beats q best (over (nodes.Native e mode) kid)
  root_over e mode kid serves beats =
      let found = found_below e mode (kid ∷ []) serves.valid.1.0 serves.of_group (serves.valid.0, tt)
      serves.valid.1.1 serves.satisfies beats in
      at_one q best e mode kid found.plans found.plan found.at_most found.alike found.over_plans found.beats

  root_two : (e : PhysicalExpr) (mode : ℕ) (left right : Tree)
      → Serves Member q group wanted (two (nodes.Native e mode) left right)
      → BeatsMode Member q wanted e mode best → Beats q best (two (nodes.Native e mode) left right)
  root_two e mode left right serves beats =
      let found = found_below e mode (left ∷ right ∷ []) serves.valid.2.0 serves.of_group
      (serves.valid.0, (serves.valid.1, tt)) serves.valid.2.1 serves.satisfies beats in
      at_two q best e mode left right found.plans found.plan found.at_most found.alike found.over_plans found.beats

  -- the best is at most every plan that serves with this root, where it beats its mode
  at_root : (e : PhysicalExpr) (mode : ℕ) (kids : List Tree) (plan : Tree)
      → IsNodeOver (nodes.Native e mode) kids plan → Serves Member q group wanted plan
      → BeatsMode Member q wanted e mode best → Beats q best plan
  at_root e mode [] plan is serves beats =
      subst (Beats q best) (sym is)
      (root_leaf e mode (subst (Serves Member q group wanted) is serves) beats)
  at_root e mode (kid ∷ []) plan is serves beats =
      subst (Beats q best) (sym is)
      (root_over e mode kid (subst (Serves Member q group wanted) is serves) beats)
  at_root e mode (left ∷ right ∷ []) plan is serves beats =
      subst (Beats q best) (sym is)
      (root_two e mode left right (subst (Serves Member q group wanted) is serves) beats)
  at_root e mode (left ∷ right ∷ other ∷ others) plan is serves beats = absurd is

  module _ (ordered : IsOrdered q) (is : BeatsAll Member q group wanted best) where
    at_enforcer : (node : Enforcer) (kid : Tree) → (Serves Member q group wanted kid → Beats q best kid)
        → Serves Member q group wanted (over (nodes.Enforcer node) kid)
        → Beats q best (over (nodes.Enforcer node) kid)
    at_enforcer node kid wins serves =
        elim (exchange q ordered (kid_of q kid) node wanted serves.valid.1 fits.numbered serves.satisfies) [
          | inl satisfies ↦ Beats-over q best (nodes.Enforcer node) kid
              (wins (record { valid = serves.valid.0; of_group = serves.of_group; satisfies = satisfies }))
          | inr (e, replaces) ↦
              at_replaced Member q at_most_each group wanted best node kid e replaces (record {
                valid = serves.valid.0;
                of_group = serves.of_group;
                satisfies = replaces.satisfies;
              })
              (is.enforcers e replaces.among)
        ]

    -- the best is at most every plan that serves
    at_most_all : (plan : Tree) → Serves Member q group wanted plan → Beats q best plan
    at_most_all (leaf (nodes.Native e mode)) serves =
        root_leaf e mode serves (is.members e mode serves.valid.0 serves.of_group)
    at_most_all (leaf (nodes.Enforcer node)) serves = absurd serves.valid
    at_most_all (over (nodes.Native e mode) kid) serves =
        root_over e mode kid serves (is.members e mode serves.valid.1.0 serves.of_group)
    at_most_all (over (nodes.Enforcer node) kid) serves = at_enforcer node kid (at_most_all kid) serves
    at_most_all (two (nodes.Native e mode) left right) serves =
        root_two e mode left right serves (is.members e mode serves.valid.2.0 serves.of_group)
    at_most_all (two (nodes.Enforcer node) left right) serves = absurd serves.valid.2

module _ (Member : ExprParts → Type 0) (q : Query) (at_most_each : LeastAreAtMost Member q) (ordered : IsOrdered q)
    (candidates : (e : ExprParts) → Member e → IsCandidate q e)
    (given_fits : (plan : Tree) → IsValid Member q plan → GivenFits q (kid_of q plan).group (gives q plan))
    (splits : SatisfactionSplits q) where
  -- the best is the least plan, and where there is none there is no plan
  pub best_of_all_is_least : (group : KeyParts) (wanted : Request) (best : Option Tree) → Fits q group wanted
      → BeatsAll Member q group wanted best
      → IsAnswer Member q group wanted best
  best_of_all_is_least group wanted None fits is = λ plan serves.
      at_most_all Member q at_most_each group wanted None fits candidates given_fits splits ordered is plan serves
  best_of_all_is_least group wanted (Some best) fits is = record {
    serves = is.best_serves;
    none_less = λ other serves.
        IsAtMost-not_less q best other (at_most_all Member q at_most_each group wanted (Some best) fits candidates
        given_fits splits ordered is other serves);
  }

  -- the same of the plans with one expression at the root, where the best beats its modes
  pub root_best_is_least : (e : PhysicalExpr) (wanted : Request) (best : Option Tree) → Fits q e.group wanted
      → BestServesAtRoot Member q e wanted best → ((mode : ℕ) → BeatsMode Member q wanted e mode best)
      → IsAnswerAtRoot Member q e wanted best
  root_best_is_least e wanted None fits serves is = λ plan other.
      at_root Member q at_most_each e.group wanted None fits candidates given_fits splits e other.mode other.kids plan
      other.is_over other.serves (is other.mode)
  root_best_is_least e wanted (Some best) fits serves is = (
    serves,
    λ plan other.
        IsAtMost-not_less q best plan
        (at_root Member q at_most_each e.group wanted (Some best) fits candidates given_fits
        splits e other.mode other.kids plan other.is_over other.serves (is other.mode)),
  )
