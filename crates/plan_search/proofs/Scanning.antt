-- The best plan so far, from node to node.
use Rattle.std.proofs.Common.{◌≡◌, ℕ, ◌<◌, ◌≤◌, ◌+◌, ap, refl, subst, inl, inr, arith}
use Rattle.std.specs.Prelude.{Option, None, Some}
use Rattle.std.proofs.Math.Nat.{eq-or-lt_of_le}
use Rattle.std.proofs.lemmas.Bool.{cases_lt, cond_below, cond_above}
use Rattle.query_core.specs.declared.query.Query.{Query}
use Rattle.query_core.specs.declared.words.KeyParts.{KeyParts}
use Rattle.request_props.specs.declared.request.Request.{Request}
use Rattle.query_core.specs.declared.expressions.PhysicalExpr.{PhysicalExpr}
use Rattle.xform_rules.specs.Closure.{IsMember}
use Rattle.plan_space.specs.Enforcers.{EnforcedBy}
use Rattle.plan_space.specs.declared.nodes.NodeKind.{NodeKind}
use Rattle.plan_space.specs.declared.nodes.NodeKind.TheVariants as nodes
use Rattle.plan_space.specs.Nodes.{node_number, Tree, leaf, over, two, code_of}
use Rattle.plan_space.specs.Cost.{cost_of}
use Rattle.plan_space.specs.Order.{AtMost, IsAtMost}
use Rattle.plan_space.specs.Choices.{Beats, BeatsMode, BeatsEnforcer}
use Rattle.plan_search.specs.declared.choice.KidPlaces.{KidPlaces}
use Rattle.plan_search.specs.declared.choice.KidPlaces.TheVariants as kids
use Rattle.plan_search.specs.declared.kept_plans.KeptPlans.{KeptPlans}
use Rattle.plan_search.specs.declared.choice.Choice.{Choice}
use Rattle.plan_search.specs.Places.{place_of}
use Rattle.plan_search.specs.BestSoFar.{IsBuilt, IsMade, IsChosen, IsRootBelow, root_number, Improves, IsLater, Goes}
use Rattle.plan_search.specs.BestSoFar.{cheaper_of}

-- plans are in order
pub record IsOrder (q : Query) : Type 0 where
  pub itself : (a : Tree) → IsAtMost q a a
  pub along : (a b c : Tree) → IsAtMost q a b → IsAtMost q b c → IsAtMost q a c

-- a fact on the best so far that a better one keeps
abbrev pub IsStable : Query → (Option Tree → Type 0) → Type 0
IsStable q Fact = (best other : Option Tree) → Improves q best other → Fact best → Fact other

-- at equal cost the lesser root comes first
pub root_first : (a b : Tree) → root_number a < root_number b → AtMost (code_of a) (code_of b)
root_first (leaf m) (leaf n) less = inl less
root_first (leaf m) (over n k) less = inl less
root_first (leaf m) (two n k l) less = inl less
root_first (over m i) (leaf n) less = inl less
root_first (over m i) (over n k) less = inl less
root_first (over m i) (two n k l) less = inl less
root_first (two m i j) (leaf n) less = inl less
root_first (two m i j) (over n k) less = inl less
root_first (two m i j) (two n k l) less = inl less

module _ (q : Query) where
  -- a plan with a lesser root that costs no more is at most the other
  pub no_more : (a b : Tree) → cost_of q a ≤ cost_of q b → root_number a < root_number b → IsAtMost q a b
  no_more a b cost root = elim (eq-or-lt_of_le cost) [
    | inl same ↦ inr (same, root_first a b root)
    | inr less ↦ inl less
  ]

  module _ (order : IsOrder q) where
    pub beats_along : (best : Option Tree) → (a b : Tree) → Beats q best a → IsAtMost q a b → Beats q best b
    beats_along None a b beats at_most = absurd beats
    beats_along (Some best) a b beats at_most = order.along best a b beats at_most

    -- a plan that is at most the best so far is better
    pub at_most_improves : (best : Tree) → (before : Option Tree) → Improves q before (Some best) → (plan : Tree)
        → Beats q before plan → IsAtMost q best plan
    at_most_improves best before improves plan beats = improves plan beats

  pub improves_itself : (best : Option Tree) → Improves q best best
  improves_itself best plan beats = beats

  pub improves_on : (a b c : Option Tree) → Improves q a b → Improves q b c → Improves q a c
  improves_on a b c first second plan beats = second plan (first plan beats)

  module _ (answers : KeptPlans) (group : KeyParts) (wanted : Request) where
    -- after some nodes and then some more
    pub goes_on : (from mid to : ℕ) → (First Second : Option Tree → Type 0) → (old new newer : Option Choice)
        → IsStable q First
        → Goes q answers group wanted from mid First old new → Goes q answers group wanted mid to Second new newer
        → Goes q answers group wanted from to (λ best. First best × Second best) old newer
    goes_on from mid to First Second old new newer stable first second before is below =
        let one = first before is below in
        let two = second one.0 one.1.is_best one.1.root_below in (
          two.0,
          record {
            is_best = two.1.is_best;
            improves = improves_on before one.0 two.0 one.1.improves two.1.improves;
            root_below = two.1.root_below;
            done = (stable one.0 two.0 two.1.improves one.1.done, two.1.done);
          },
        )

    -- the same fact in other words
    pub goes_as : (from to : ℕ) → (First Second : Option Tree → Type 0) → (old new : Option Choice)
        → ((best : Option Tree) → First best → Second best)
        → Goes q answers group wanted from to First old new → Goes q answers group wanted from to Second old new
    goes_as from to First Second old new other_words goes before is below =
        let one = goes before is below in (
          one.0,
          record {
            is_best = one.1.is_best;
            improves = one.1.improves;
            root_below = one.1.root_below;
            done = other_words one.0 one.1.done;
          },
        )

    root_below_more : (best : Option Tree) → (from to : ℕ) → from ≤ to → IsRootBelow best from → IsRootBelow best to
    root_below_more None from to more below = tt
    root_below_more (Some tree) from to more below = omega (arith, more, below)

    -- the same with a greater bound at the end
    pub goes_to : (from mid to : ℕ) → (Fact : Option Tree → Type 0) → (old new : Option Choice) → mid ≤ to
        → Goes q answers group wanted from mid Fact old new → Goes q answers group wanted from to Fact old new
    goes_to from mid to Fact old new more goes before is below =
        let one = goes before is below in (
          one.0,
          record {
            is_best = one.1.is_best;
            improves = one.1.improves;
            root_below = root_below_more one.0 mid to more one.1.root_below;
            done = one.1.done;
          },
        )

    -- the same from a lesser bound
    pub goes_from : (lesser from to : ℕ) → (Fact : Option Tree → Type 0) → (old new : Option Choice) → lesser ≤ from
        → Goes q answers group wanted from to Fact old new → Goes q answers group wanted lesser to Fact old new
    goes_from lesser from to Fact old new less goes before is below =
        goes before is (root_below_more before lesser from less below)

    -- where nothing is offered
    pub goes_not : (from to : ℕ) → (Fact : Option Tree → Type 0) → (best : Option Choice) → from ≤ to
        → ((tree : Option Tree) → Fact tree)
        → Goes q answers group wanted from to Fact best best
    goes_not from to Fact best more fact before is below = (
      before,
      record {
        is_best = is;
        improves = improves_itself before;
        root_below = root_below_more before from to more below;
        done = fact before;
      },
    )

    -- a choice is offered, whose root has a greater number than the best so far
    pub goes_by_one : IsOrder q → (from : ℕ) → (node : NodeKind) → (choice : Choice) → (tree : Tree)
        → (old : Option Choice)
        → IsChosen q answers group wanted choice node tree → root_number tree ≡ from
        → Goes q answers group wanted from (from + 1) (λ best. Beats q best tree) old (Some (cheaper_of old choice))
    goes_by_one order from node choice tree None chosen root None is below = (
      Some tree,
      record {
        is_best = (node, chosen);
        improves = λ plan beats. absurd beats;
        root_below = omega (arith, root);
        done = order.itself tree;
      },
    )
    goes_by_one order from node choice tree None chosen root (Some before) is below = absurd is
    goes_by_one order from node choice tree (Some best) chosen root None is below = absurd is
    goes_by_one order from node choice tree (Some best) chosen root (Some before) is below =
        elim (cases_lt choice.cost best.cost) [
          | inl less ↦ subst (λ c. (after : Option Tree)
              × IsLater q answers group wanted (Some before) (from + 1) (λ b. Beats q b tree) (Some c) after)
              (cond_below choice.cost best.cost choice best less) (
                Some tree,
                record {
                  is_best = (node, chosen);
                  improves = λ plan beats. order.along tree before plan
                      (inl (omega (arith, less, chosen.cost, is.1.cost)))
                      beats;
                  root_below = omega (arith, root);
                  done = order.itself tree;
                },
              )
          | inr more ↦ subst (λ c. (after : Option Tree)
              × IsLater q answers group wanted (Some before) (from + 1) (λ b. Beats q b tree) (Some c) after)
              (cond_above choice.cost best.cost choice best best more refl) (
                Some before,
                record {
                  is_best = is;
                  improves = improves_itself (Some before);
                  root_below = omega (arith, below);
                  done = no_more before tree (omega (arith, more, chosen.cost, is.1.cost)) (omega (arith, below, root));
                },
              )
        ]

-- the number at the root of a plan that is built so
pub built_root : (answers : KeptPlans) (bound : ℕ) (below : KidPlaces) (node : NodeKind) (tree : Tree)
    → IsBuilt answers bound below node tree → root_number tree ≡ node_number node
built_root answers bound kids.Zero node tree is = ap root_number is
built_root answers bound (kids.One place) node tree (kid, before, stands, is) = ap root_number is
built_root answers bound (kids.Two first second) node tree (left, right, before, other_before, stands, also, is) =
    ap root_number is

module _ (q : Query) (order : IsOrder q) (answers : KeptPlans) where
  -- a member in a mode is offered, over least plans
  pub made_goes : (e : PhysicalExpr) (wanted : Request) (mode : ℕ) (choice : Choice) (old : Option Choice)
      → IsMade q answers wanted e mode choice
      → Goes q answers e.group wanted (node_number (nodes.Native e mode)) (node_number (nodes.Native e mode) + 1)
      (BeatsMode (IsMember q) q wanted e mode) old (Some (cheaper_of old choice))
  made_goes e wanted mode choice old (tree, chosen, least) =
      let node = nodes.Native e mode in
      goes_as q answers e.group wanted (node_number node) (node_number node + 1) (λ best. Beats q best tree)
      (BeatsMode (IsMember q) q wanted e mode) old (Some (cheaper_of old choice))
      (λ best beats line alternative. let over_kids = least line alternative in
      inl (over_kids.0, tree, over_kids.1, over_kids.2, beats))
      (goes_by_one q answers e.group wanted order (node_number node) node choice tree old chosen
      (built_root answers (place_of e.group wanted) choice.kids node tree chosen.built))

-- what the best beats, a better plan beats
pub mode_stable : (q : Query) (wanted : Request) (e : PhysicalExpr) (mode : ℕ)
    → IsStable q (BeatsMode (IsMember q) q wanted e mode)
mode_stable q wanted e mode best other improves beats line alternative = elim (beats line alternative) [
  | inl (plans, plan, least, over_plans, beats) ↦ inl (plans, plan, least, over_plans, improves plan beats)
  | inr lacks ↦ inr lacks
]

pub enforcer_stable : (q : Query) (group : KeyParts) (e : EnforcedBy)
    → IsStable q (BeatsEnforcer (IsMember q) q group e)
enforcer_stable q group e best other improves (inl (kid, least, beats)) =
    inl (kid, least, improves (over (nodes.Enforcer e.node) kid) beats)
enforcer_stable q group e best other improves (inr none) = inr none
