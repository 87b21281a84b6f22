-- The least of the choices with a root in a set of nodes is at most each of them, and one answer is the best.
use Rattle.std.proofs.Common.{◌≡◌, ℕ, inl, inr, refl, ap, sym, ◌∙◌, subst, arith}
use Rattle.std.specs.Prelude.{List, [], ◌∷◌, Option, None, Some, option_map}
use Rattle.query_core.specs.Expressions.{physical_children}
use Rattle.query_core.specs.declared.query.Query.{Query}
use Rattle.query_core.specs.declared.words.KeyParts.{KeyParts}
use Rattle.query_core.specs.declared.expressions.PhysicalExpr.{PhysicalExpr}
use Rattle.xform_rules.specs.Closure.{IsMember}
use Rattle.request_props.specs.declared.request.Request.{Request}
use Rattle.plan_space.specs.Nodes.{node_number, Tree, over, code_of}
use Rattle.plan_space.specs.declared.nodes.NodeKind.TheVariants as nodes
use Rattle.plan_space.specs.declared.lines.Line.{Line}
use Rattle.plan_space.specs.Alternatives.{IsAlternative, asked_of}
use Rattle.plan_space.specs.Enforcers.{EnforcedBy}
use Rattle.plan_space.specs.Order.{AtMost, IsAtMost}
use Rattle.plan_space.specs.Least.{IsLeast}
use Rattle.plan_space.specs.Choices.{groups_of, AreLeast, IsNodeOver, IsChoice, enforced_choice, native_choice, Beats}
use Rattle.plan_space.specs.Choices.{BeatsEnforcer, LacksOne, BeatsLine}
use Rattle.plan_tree.specs.Seen.{root_node}
use Rattle.best_answers.specs.Nodes.{Nodes, IsIn}
use Rattle.best_answers.specs.Answers.{answer_of}
use Rattle.best_answers.specs.Best.{IsLeastIn, IsBest}
use Rattle.best_answers.specs.declared.best.Best.{Best}
use Rattle.best_answers.proofs.Roots.{code_begins, root_over}
use Rattle.best_answers.proofs.OneChoice.{AreTold, native_one}

-- ---- the least is at most each choice

lacks_none : (q : Query) (groups : List KeyParts) (wishes : List Request) (kids : List Tree)
    → AreLeast (IsMember q) q groups wishes kids → LacksOne (IsMember q) q groups wishes → ⊥
lacks_none q [] wishes kids least lacks = absurd lacks
lacks_none q (group ∷ groups) [] kids least lacks = absurd lacks
lacks_none q (group ∷ groups) (wanted ∷ wishes) [] least lacks = absurd least
lacks_none q (group ∷ groups) (wanted ∷ wishes) (kid ∷ kids) least (inl none) = none kid least.0.serves
lacks_none q (group ∷ groups) (wanted ∷ wishes) (kid ∷ kids) least (inr lacks) =
    lacks_none q groups wishes kids least.1 lacks

module _ (q : Query) (told : AreTold q) (group : KeyParts) (wanted : Request) where
  enforcer_beats : (best : Option Tree) (e : EnforcedBy) (kid : Tree) → IsLeast (IsMember q) q group e.below kid
      → BeatsEnforcer (IsMember q) q group e best
      → Beats q best (over (nodes.Enforcer e.node) kid)
  enforcer_beats best e kid least (inl (other, least_too, beats)) =
      subst (λ t. Beats q best (over (nodes.Enforcer e.node) t))
      (told.least_one group e.below kid other least least_too) beats
  enforcer_beats best e kid least (inr none) = absurd (none kid least.serves)

  line_beats : (best : Option Tree) (e : PhysicalExpr) (mode : ℕ) (line : Line) (kids : List Tree) (plan : Tree)
      → IsAlternative q e wanted mode line
      → AreLeast (IsMember q) q (groups_of (physical_children e.operator)) (asked_of line wanted) kids
      → IsNodeOver (nodes.Native e mode) kids plan
      → BeatsLine (IsMember q) q e mode line wanted best → Beats q best plan
  line_beats best e mode line kids plan alternative least is (inl (others, other, least_too, also, beats)) =
      subst (Beats q best) (native_one q told e mode wanted line line kids others plan other alternative alternative
      least least_too is also) beats
  line_beats best e mode line kids plan alternative least is (inr lacks) =
      absurd (lacks_none q (groups_of (physical_children e.operator)) (asked_of line wanted) kids least lacks)

  module _ (set : Nodes) (best : Option Tree) (is_least : IsLeastIn q group wanted set best) where
    beats_choice : (plan : Tree) → IsChoice (IsMember q) q group wanted plan → IsIn set (root_node plan)
        → Beats q best plan
    beats_choice plan (enforced_choice e kid among least is) within =
        subst (Beats q best) (sym is) (enforcer_beats best e kid least
        (is_least.enforcers e among (subst (IsIn set) (ap root_node is) within)))
    beats_choice plan (native_choice e mode line kids member of_group alternative least is) within =
        line_beats best e mode line kids plan alternative least is
        (is_least.members e mode member of_group
        (subst (IsIn set) (root_over (nodes.Native e mode) kids plan is) within) line alternative)

  -- ---- one answer is the best

  codes_begin_alike : (a b : ℕ) (xs ys : List ℕ) → AtMost (a ∷ xs) (b ∷ ys) → AtMost (b ∷ ys) (a ∷ xs) → a ≡ b
  codes_begin_alike a b xs ys (inl x) (inl y) = omega (arith, x, y)
  codes_begin_alike a b xs ys (inl x) (inr y) = omega (arith, x, y.0)
  codes_begin_alike a b xs ys (inr x) y = x.0

  same_answers : (s t : Tree) → IsAtMost q s t → IsAtMost q t s → answer_of q s ≡ answer_of q t
  same_answers s t (inl x) (inl y) = absurd (omega (arith, x, y))
  same_answers s t (inl x) (inr y) = absurd (omega (arith, x, y.0))
  same_answers s t (inr x) (inl y) = absurd (omega (arith, x.0, y))
  same_answers s t (inr x) (inr y) =
      let first = code_begins s in
      let second = code_begins t in
      let cost = x.0 in
      let there = subst (λ c. AtMost c (node_number (root_node t) ∷ second.0)) first.1
      (subst (AtMost (code_of s)) second.1 x.1) in
      let back = subst (λ c. AtMost c (node_number (root_node s) ∷ first.0)) second.1
      (subst (AtMost (code_of t)) first.1 y.1) in
      let node = codes_begin_alike (node_number (root_node s))
      (node_number (root_node t)) first.0 second.0 there back in
      cc

  one_by : (set : Nodes) (a b : Option Tree) → IsLeastIn q group wanted set a → IsLeastIn q group wanted set b
      → option_map (answer_of q) a ≡ option_map (answer_of q) b
  one_by set None None x y = refl
  one_by set None (Some t) x y = absurd (beats_choice set None x t y.choice.0 y.choice.1)
  one_by set (Some s) None x y = absurd (beats_choice set None y s x.choice.0 x.choice.1)
  one_by set (Some s) (Some t) x y =
      ap (λ answer. Some answer) (same_answers s t (beats_choice set (Some s) x t y.choice.0 y.choice.1)
      (beats_choice set (Some t) y s x.choice.0 x.choice.1))

  -- for a request and a set of nodes one answer is the best
  pub best_one : (set : Nodes) (answer other : Option Best) → IsBest q group wanted set answer
      → IsBest q group wanted set other → answer ≡ other
  best_one set answer other (a, x, is) (b, y, also) = is ∙ one_by set a b x y ∙ sym also
