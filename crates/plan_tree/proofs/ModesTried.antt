-- The modes of an expression that are there for a request, by its way of working.
use Rattle.std.proofs.Common.{◌≡◌, ◌∙◌, ◌↔◌, ℕ, ◌<◌, ◌≤◌, Option, None, Some, ap, sym, subst, inl, inr}
use Rattle.std.proofs.lemmas.Bool.{cases_lt}
use Rattle.query_core.specs.Expressions.{IsCandidate, expr_of, physical_children}
use Rattle.query_core.specs.declared.expressions.Children.{Children}
use Rattle.query_core.specs.declared.expressions.PhysicalExpr.{PhysicalExpr}
use Rattle.query_core.specs.declared.query.Query.{Query}
use Rattle.query_core.specs.declared.words.KeyParts.{KeyParts}
use Rattle.request_props.specs.declared.request.Request.{Request}
use Rattle.plan_space.specs.Alternatives.{IsAlternative, LineServes}
use Rattle.plan_space.specs.Laws.{CrossingsFit}
use Rattle.plan_space.specs.Lines.{line_of, way_line}
use Rattle.plan_space.specs.Modes.{HasModeIn, mode_at}
use Rattle.plan_space.specs.Ways.{way_of}
use Rattle.plan_space.specs.declared.lines.Line.{Line}
use Rattle.plan_space.specs.declared.modes.Mode.{Mode}
use Rattle.plan_space.specs.declared.modes.ModeSets.{ModeSets}
use Rattle.plan_space.specs.declared.ways.JoinBy.{JoinBy}
use Rattle.plan_space.specs.declared.ways.Way.{Way}
use Rattle.plan_space.specs.declared.ways.Way.TheVariants.{Joins}
use Rattle.plan_space.proofs.WayShapes.{children_same, way_children}
use Rattle.plan_tree.specs.Alternatives.{HasAlternative}
use Rattle.plan_tree.specs.ServingModes.{AreFittingLeft, AreJoinModes, AreToTry, DistSuits, IsNextServing, MayServe}
use Rattle.plan_tree.specs.ServingModes.{OrderSuits, ServesBy}
use Rattle.plan_tree.specs.Walks.{IsNextOf}
use Rattle.plan_tree.proofs.JoinNeeds.{join_needs}
use Rattle.plan_tree.proofs.JoinSuits.{needs_suit, suit_needs}

module _ (q : Query) (e : PhysicalExpr) (wanted : Request) where
  -- what serves in a mode serves with the line of that
  own_line : (mode : ℕ) (line : Line) → line_of q e mode ≡ Some line → HasAlternative q e wanted mode
      → IsAlternative q e wanted mode line
  own_line mode line is has =
      let both : Some has.0 ≡ Some line = sym has.1.is_line ∙ is in
      let same : has.0 ≡ line = cc in
      subst (IsAlternative q e wanted mode) same has.1

  -- the first of the modes to try is the first that serves
  pub next_serving : (modes : ModeSets) → AreToTry q e wanted modes → IsCandidate q (expr_of e) → (from : ℕ)
      → (found : Option (ℕ × Line)) → IsNextOf q e modes from found → IsNextServing q e wanted from found
  next_serving modes are candidate from None none = λ mode above has. none mode above (are.all mode has)
  next_serving modes are candidate from (Some (mode, line)) next = (
    next.0,
    next.1,
    λ m above below has. next.2 m above below (are.all m has),
    own_line mode line next.3 (are.only candidate mode next.4),
  )

  -- where none is left from the number on, all are below it
  pub all_below : (from : ℕ) → ((mode : ℕ) → from ≤ mode → HasAlternative q e wanted mode → ⊥) → (mode : ℕ)
      → HasAlternative q e wanted mode → mode < from
  all_below from after mode has = elim (cases_lt mode from) [
    | inl less ↦ less
    | inr most ↦ absurd (after mode most has)
  ]

  -- the way of working has a line in the mode that serves
  abbrev pub ServesIn : Way → Mode → Type 0
  ServesIn way mode = ServesBy q (way_line q e.group way mode) (way_children way) wanted

  module _ (way : Way) (is : way_of e.operator ≡ way) where
    children_are : physical_children e.operator ≡ way_children way
    children_are = children_same e.operator ∙ ap way_children is

    pub way_serves : (mode : ℕ) → HasAlternative q e wanted mode → ServesIn way (mode_at mode)
    way_serves mode (line, has) = (
      line,
      subst (λ (w : Way). way_line q e.group w (mode_at mode) ≡ Some line) is has.is_line,
      subst (λ (c : Children). LineServes q line c wanted) children_are has.serves,
    )

    pub serves_way : (mode : ℕ) → ServesIn way (mode_at mode) → HasAlternative q e wanted mode
    serves_way mode (line, found, serves) = (
      line,
      record {
        is_line = subst (λ (w : Way). way_line q e.group w (mode_at mode) ≡ Some line) (sym is) found;
        serves = subst (λ (c : Children). LineServes q line c wanted) (sym children_are) serves;
      },
    )

    -- the modes in which its way of working serves are those to try
    pub to_try_by : (modes : ModeSets) → ((mode : Mode) → HasModeIn modes mode ↔ ServesIn way mode)
        → AreToTry q e wanted modes
    to_try_by modes exact = record {
      all = λ mode has. (exact (mode_at mode)).1 (way_serves mode has);
      only = λ candidate mode has. serves_way mode ((exact (mode_at mode)).0 has);
    }

  module _ (by : JoinBy) (left right : KeyParts) (is : way_of e.operator ≡ Joins by left right)
      (crossings : CrossingsFit q) where
    -- of a join that a group can hold, the columns fit the left child
    fitting : IsCandidate q (expr_of e) → AreFittingLeft q left right
    fitting candidate pred a b crosses =
        crossings e left right pred a b candidate (children_are (Joins by left right) is) crosses

    pub join_to_try : (modes : ModeSets) → AreJoinModes q by left right wanted modes → AreToTry q e wanted modes
    join_to_try modes are = record {
      all = λ mode has. are.all (mode_at mode) (way_serves (Joins by left right) is mode has);
      only = λ candidate mode has. serves_way (Joins by left right) is mode
          (are.only (fitting candidate) (mode_at mode) has);
    }

    -- it may serve exactly where it can give the distribution and the order
    pub suits_serve : IsCandidate q (expr_of e)
        → DistSuits q left wanted.dist × OrderSuits q by left right wanted.order → MayServe q e wanted
    suits_serve candidate (suits, ordered) =
        let (mode, needs) = suit_needs q left right wanted (fitting candidate) by suits ordered in
        (mode, serves_way (Joins by left right) is mode ((join_needs q left right wanted by (mode_at mode)).1 needs))

    pub serve_suits : MayServe q e wanted → DistSuits q left wanted.dist × OrderSuits q by left right wanted.order
    serve_suits (mode, has) = needs_suit q left right wanted by (mode_at mode)
        ((join_needs q left right wanted by (mode_at mode)).0 (way_serves (Joins by left right) is mode has))
