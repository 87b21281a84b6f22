-- The least of the choices with a root in a set of nodes.
use Rattle.std.proofs.Common.{◌≡◌, ℕ, true, false, ◌<◌, ◌≤◌, inl, inr, refl, ap, sym, subst}
use Rattle.std.specs.Prelude.{◌∷◌, cond, Option, None, Some, option_map}
use Rattle.std.proofs.Math.Nat.{eq-or-lt_of_le}
use Rattle.std.proofs.lemmas.Bool.{cases_Bool}
use Rattle.query_core.specs.Expressions.{expr_of}
use Rattle.query_core.specs.declared.query.Query.{Query}
use Rattle.query_core.specs.declared.words.KeyParts.{KeyParts}
use Rattle.query_core.specs.declared.expressions.PhysicalExpr.{PhysicalExpr}
use Rattle.xform_rules.specs.Closure.{IsMember}
use Rattle.request_props.specs.declared.request.Request.{Request}
use Rattle.request_props.specs.Fitting.{Fits}
use Rattle.plan_space.specs.Nodes.{node_number, Tree, code_of}
use Rattle.plan_space.specs.declared.nodes.NodeKind.TheVariants as nodes
use Rattle.plan_space.specs.declared.lines.Line.{Line}
use Rattle.plan_space.specs.Enforcers.{EnforcedBy, enforcers_of, Among}
use Rattle.plan_space.specs.Cost.{cost_of}
use Rattle.plan_space.specs.Order.{AtMost, IsAtMost}
use Rattle.plan_space.specs.Choices.{IsChoice, Beats}
use Rattle.plan_space.specs.Choices.{BeatsEnforcer, BeatsLine, BeatsMode}
use Rattle.plan_tree.specs.Seen.{root_node}
use Rattle.best_answers.specs.Nodes.{Nodes, no_nodes, both_of, IsIn}
use Rattle.best_answers.specs.Answers.{answer_of, is_lesser, lesser}
use Rattle.best_answers.specs.Best.{IsChoiceIn, IsLeastIn, IsBest}
use Rattle.best_answers.specs.Laws.{Covers}
use Rattle.best_answers.specs.declared.best.Best.{Best}
use Rattle.best_answers.proofs.Roots.{code_begins}
use Rattle.best_answers.proofs.OneChoice.{AreTold, choice_one}
use Rattle.best_answers.proofs.Pairs.{less_by, not_less_by}

-- plans are in order
pub record AreOrdered (q : Query) : Type 0 where
  pub itself : (a : Tree) → IsAtMost q a a
  pub along : (a b c : Tree) → IsAtMost q a b → IsAtMost q b c → IsAtMost q a c

-- ---- what the best beats, a better one beats

-- the other is at most whatever the first is at most
abbrev Improves : Query → Option Tree → Option Tree → Type 0
Improves q best other = (plan : Tree) → Beats q best plan → Beats q other plan

enforcer_stays : (q : Query) (group : KeyParts) (e : EnforcedBy) (best other : Option Tree) → Improves q best other
    → BeatsEnforcer (IsMember q) q group e best
    → BeatsEnforcer (IsMember q) q group e other
enforcer_stays q group e best other improves (inl (kid, least, beats)) = inl (kid, least, improves _ beats)
enforcer_stays q group e best other improves (inr none) = inr none

line_stays : (q : Query) (e : PhysicalExpr) (mode : ℕ) (line : Line) (wanted : Request) (best other : Option Tree)
    → Improves q best other
    → BeatsLine (IsMember q) q e mode line wanted best → BeatsLine (IsMember q) q e mode line wanted other
line_stays q e mode line wanted best other improves (inl (kids, plan, least, is, beats)) =
    inl (kids, plan, least, is, improves plan beats)
line_stays q e mode line wanted best other improves (inr lacks) = inr lacks

-- ---- the lesser of two

module _ (q : Query) (told : AreTold q) (group : KeyParts) (wanted : Request) (order : AreOrdered q)
    (fits : Fits q group wanted) where
  begins_less : (s t : Tree) → node_number (root_node s) < node_number (root_node t) → AtMost (code_of s) (code_of t)
  begins_less s t less =
      let first = code_begins s in
      let second = code_begins t in
      subst (λ c. AtMost c (code_of t)) (sym first.1)
      (subst (AtMost (node_number (root_node s) ∷ first.0)) (sym second.1) (inl less))

  -- a choice that costs the same at a node that isn't greater is at most the other
  begins_at_most : (s t : Tree) → IsChoice (IsMember q) q group wanted s → IsChoice (IsMember q) q group wanted t
      → cost_of q s ≡ cost_of q t
      → node_number (root_node s) ≤ node_number (root_node t) → IsAtMost q s t
  begins_at_most s t x y cost most = elim (eq-or-lt_of_le most) [
    | inl same ↦ subst (IsAtMost q s) (sym (choice_one q told group wanted s t fits x y (sym same))) (order.itself s)
    | inr less ↦ inr (cost, begins_less s t less)
  ]

  lesser_at_most : (s t : Tree) → is_lesser (answer_of q s) (answer_of q t) ≡ true → IsAtMost q s t
  lesser_at_most s t is = elim (less_by (cost_of q s) (node_number (root_node s)) (cost_of q t)
      (node_number (root_node t)) is) [
        | inl less ↦ inl less
        | inr (same, less) ↦ inr (same, begins_less s t less)
      ]

  not_lesser_at_most : (s t : Tree) → IsChoice (IsMember q) q group wanted s → IsChoice (IsMember q) q group wanted t
      → is_lesser (answer_of q t) (answer_of q s) ≡ false
      → IsAtMost q s t
  not_lesser_at_most s t x y is = elim (not_less_by (cost_of q t) (node_number (root_node t)) (cost_of q s)
      (node_number (root_node s)) is) [
        | inl less ↦ inl less
        | inr (same, most) ↦ begins_at_most s t x y same most
      ]

  -- the one of the two plans that is at most the other is the least in both sets
  module _ (some others : Nodes) where
    both_by : (a b best : Option Tree) → IsLeastIn q group wanted some a → IsLeastIn q group wanted others b
        → IsChoiceIn q group wanted (both_of some others) best
        → Improves q a best → Improves q b best → IsLeastIn q group wanted (both_of some others) best
    both_by a b best x y choice first second = record {
      choice = choice;
      enforcers = enforcers;
      members = members;
    }
      where
        enforcers : (e : EnforcedBy) → Among e (enforcers_of wanted)
            → IsIn (both_of some others) (nodes.Enforcer e.node) → BeatsEnforcer (IsMember q) q group e best
        enforcers e among (inl within) = enforcer_stays q group e a best first (x.enforcers e among within)
        enforcers e among (inr within) = enforcer_stays q group e b best second (y.enforcers e among within)

        members : (e : PhysicalExpr) (mode : ℕ) → IsMember q (expr_of e) → e.group ≡ group
            → IsIn (both_of some others) (nodes.Native e mode) → BeatsMode (IsMember q) q wanted e mode best
        members e mode member of_group (inl within) line alternative =
            line_stays q e mode line wanted a best first (x.members e mode member of_group within line alternative)
        members e mode member of_group (inr within) line alternative =
            line_stays q e mode line wanted b best second (y.members e mode member of_group within line alternative)

    lesser_of_plans : (s t : Tree) → IsLeastIn q group wanted some (Some s) → IsLeastIn q group wanted others (Some t)
        → IsBest q group wanted (both_of some others) (lesser (Some (answer_of q s)) (Some (answer_of q t)))
    lesser_of_plans s t x y = elim (cases_Bool (is_lesser (answer_of q t) (answer_of q s))) [
      | inl is ↦ (
        Some t,
        both_by (Some s) (Some t) (Some t) x y (y.choice.0, inr y.choice.1)
            (λ plan beats. order.along t s plan (lesser_at_most t s is) beats) (λ plan beats. beats),
        ap (λ b. cond b (Some (answer_of q t)) (Some (answer_of q s))) is,
      )
      | inr is ↦ (
        Some s,
        both_by (Some s) (Some t) (Some s) x y (x.choice.0, inl x.choice.1) (λ plan beats. beats)
            (λ plan beats. order.along s t plan (not_lesser_at_most s t x.choice.0 y.choice.0 is) beats),
        ap (λ b. cond b (Some (answer_of q t)) (Some (answer_of q s))) is,
      )
    ]

    lesser_by : (a b : Option Tree) → IsLeastIn q group wanted some a → IsLeastIn q group wanted others b
        → IsBest q group wanted (both_of some others)
        (lesser (option_map (answer_of q) a) (option_map (answer_of q) b))
    lesser_by None None x y = (None, both_by None None None x y tt (λ plan beats. beats) (λ plan beats. beats), refl)
    lesser_by None (Some t) x y = (
      Some t,
      both_by None (Some t) (Some t) x y (y.choice.0, inr y.choice.1)
          (λ plan beats. absurd beats) (λ plan beats. beats),
      refl,
    )
    lesser_by (Some s) None x y = (
      Some s,
      both_by (Some s) None (Some s) x y (x.choice.0, inl x.choice.1)
          (λ plan beats. beats) (λ plan beats. absurd beats),
      refl,
    )
    lesser_by (Some s) (Some t) x y = lesser_of_plans s t x y

    -- the lesser of the best of two sets is the best of both
    pub lesser_best : (first second : Option Best) → IsBest q group wanted some first
        → IsBest q group wanted others second
        → IsBest q group wanted (both_of some others) (lesser first second)
    lesser_best first second (a, x, is) (b, y, also) =
        subst (λ f. IsBest q group wanted (both_of some others) (lesser f second)) (sym is)
        (subst (λ s. IsBest q group wanted (both_of some others) (lesser (option_map (answer_of q) a) s)) (sym also)
        (lesser_by a b x y))

-- ---- no nodes, and nodes that can't serve

pub none_best : (q : Query) (group : KeyParts) (wanted : Request) → IsBest q group wanted no_nodes None
none_best q group wanted = (
  None,
  record {
    choice = tt;
    enforcers = λ e among within. absurd within;
    members = λ e mode member of_group within. absurd within;
  },
  refl,
)

choice_within : (q : Query) (group : KeyParts) (wanted : Request) (smaller larger : Nodes) (plan : Option Tree)
    → Covers q group wanted smaller larger
    → IsChoiceIn q group wanted smaller plan → IsChoiceIn q group wanted larger plan
choice_within q group wanted smaller larger None covers choice = tt
choice_within q group wanted smaller larger (Some plan) covers choice =
    (choice.0, covers.within (root_node plan) choice.1)

pub covered_best : (q : Query) (group : KeyParts) (wanted : Request) (smaller larger : Nodes) (answer : Option Best)
    → Covers q group wanted smaller larger
    → IsBest q group wanted smaller answer → IsBest q group wanted larger answer
covered_best q group wanted smaller larger answer covers (plan, least, is) = (
  plan,
  record {
    choice = choice_within q group wanted smaller larger plan covers least.choice;
    enforcers = λ e among within. least.enforcers e among (covers.enforcers e among within);
    members = λ e mode member of_group within line alternative.
        least.members e mode member of_group (covers.members e mode line member of_group within alternative) line
        alternative;
  },
  is,
)
