-- A valid plan with a physical expression at its root: it meets a request exactly where the expression over its kids
-- does.
use Rattle.std.proofs.Common.{◌≡◌, ◌↔◌, ℕ, List, [], ◌∷◌, refl, ap, sym, subst}
use Rattle.std.specs.Prelude.{map}
use Rattle.query_core.specs.Expressions.{expr_of, physical_children, IsCandidate}
use Rattle.query_core.specs.declared.query.Query.{Query}
use Rattle.query_core.specs.declared.expressions.ExprParts.{ExprParts}
use Rattle.query_core.specs.declared.expressions.PhysicalExpr.{PhysicalExpr}
use Rattle.request_props.specs.Satisfied.{Satisfies}
use Rattle.request_props.specs.declared.given.Given.{Given}
use Rattle.request_props.specs.declared.request.Request.{Request}
use Rattle.request_props.specs.Fitting.{Fits}
use Rattle.plan_space.specs.Nodes.{Tree}
use Rattle.plan_space.specs.declared.nodes.NodeKind.TheVariants as nodes
use Rattle.plan_space.specs.Lines.{line_of}
use Rattle.plan_space.specs.declared.lines.Line.{Line}
use Rattle.plan_space.specs.declared.seen.Kid.{Kid}
use Rattle.plan_space.specs.Gives.{kid_of, gives, native_gives}
use Rattle.plan_space.specs.Valid.{NativeFits, IsValid}
use Rattle.plan_space.specs.Alternatives.{asked_of, IsAlternative, KidsServe}
use Rattle.plan_space.specs.Choices.{IsNodeOver}
use Rattle.plan_space.specs.Laws.{GivenFits, SatisfactionSplits, SatisfactionJoins}
use Rattle.plan_space.proofs.Kids.{sights, AreValid, kids_fit, kids_of_children}

seen_by_map : (q : Query) (kids : List Tree) → sights q kids ≡ map (kid_of q) kids
seen_by_map q [] = refl
seen_by_map q (kid ∷ kids) = ap (λ (seen : List Kid). kid_of q kid ∷ seen) (seen_by_map q kids)

module _ (Member : ExprParts → Type 0) (q : Query) where
  -- the expression may stand over the kids, which are valid, and the plan gives what it gives over them
  record IsValidOver (e : PhysicalExpr) (mode : ℕ) (kids : List Tree) (plan : Tree) : Type 0 where
    member : Member (expr_of e)
    valid : AreValid Member q kids
    fits : NativeFits q e mode (sights q kids)
    same : gives q plan ≡ native_gives q e mode (sights q kids)

  over_kids : (e : PhysicalExpr) (mode : ℕ) (kids : List Tree) (plan : Tree) → IsValid Member q plan
      → IsNodeOver (nodes.Native e mode) kids plan → IsValidOver e mode kids plan
  over_kids e mode [] plan valid is =
      let own = subst (IsValid Member q) is valid in
      record { member = own.0; valid = tt; fits = own.1; same = ap (gives q) is }
  over_kids e mode (kid ∷ []) plan valid is =
      let own = subst (IsValid Member q) is valid in
      record { member = own.1.0; valid = (own.0, tt); fits = own.1.1; same = ap (gives q) is }
  over_kids e mode (left ∷ right ∷ []) plan valid is =
      let own = subst (IsValid Member q) is valid in
      record { member = own.2.0; valid = (own.0, (own.1, tt)); fits = own.2.1; same = ap (gives q) is }
  over_kids e mode (left ∷ right ∷ other ∷ others) plan valid is = absurd is

  module _ (candidates : (e : ExprParts) → Member e → IsCandidate q e)
      (given_fits : (plan : Tree) → IsValid Member q plan → GivenFits q (kid_of q plan).group (gives q plan))
      (splits : SatisfactionSplits q) (joins : SatisfactionJoins q) where
    pub splits_at_root : (e : PhysicalExpr) (mode : ℕ) (kids : List Tree) (plan : Tree) (wanted : Request)
        → IsValid Member q plan → IsNodeOver (nodes.Native e mode) kids plan → Fits q e.group wanted
        → Satisfies q (gives q plan) wanted
        ↔ ((line : Line) × IsAlternative q e wanted mode line × KidsServe q (map (kid_of q) kids) (asked_of line wanted))
    splits_at_root e mode kids plan wanted valid is fits =
        let over = over_kids e mode kids plan valid is in
        let seen = seen_by_map q kids in (
          λ satisfies.
              let split = splits e mode (sights q kids) wanted (candidates (expr_of e) over.member)
              (kids_fit Member q given_fits kids over.valid) fits over.fits
              (subst (λ (given : Given). Satisfies q given wanted) over.same satisfies) in
              (split.0, split.1, subst (λ (ks : List Kid). KidsServe q ks (asked_of split.0 wanted)) seen split.2),
          λ (line, alternative, serve).
              let of_children = kids_of_children q (physical_children e.operator) (line_of q e mode) (sights q kids)
              over.fits in
              let joined = joins e mode line (sights q kids) wanted alternative of_children
              (subst (λ (ks : List Kid). KidsServe q ks (asked_of line wanted)) (sym seen) serve) in
              subst (λ (given : Given). Satisfies q given wanted) (sym over.same) joined.1,
        )
