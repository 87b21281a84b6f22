-- A node that is found for a request is there for it.
use Rattle.std.proofs.Common.{◌≡◌, ℕ, zero, suc, List, [], ◌∷◌, inl, inr, refl, subst, slice_get}
use Rattle.std.specs.Prelude.{Option, None, Some, IfSome}
use Rattle.query_core.specs.Expressions.{expr_of, IsCandidate}
use Rattle.query_core.specs.declared.query.Query.{Query}
use Rattle.query_core.specs.declared.words.KeyParts.{KeyParts}
use Rattle.query_core.specs.declared.expressions.PhysicalExpr.{PhysicalExpr}
use Rattle.request_props.specs.declared.request.Request.{Request}
use Rattle.plan_space.specs.declared.nodes.NodeKind.TheVariants as nodes
use Rattle.plan_space.specs.Enforcers.{EnforcedBy, enforcers_of, Among}
use Rattle.plan_tree.specs.Alternatives.{IsAltOf, IsAltAt}
use Rattle.plan_tree.specs.Enforcers.{AreFitting, IsEnforced, AreBoth}
use Rattle.plan_tree.specs.NodeCosts.{IsThere}
use Rattle.plan_tree.specs.declared.alternatives.Alt.{Alt}
use Rattle.plan_tree.specs.declared.enforcers.Enforced.{Enforced}

is_some : (alt : Alt) → Some alt ≡ None → ⊥
is_some alt is = cc

alt_of_mode : (q : Query) (e : PhysicalExpr) (wanted : Request) (at : Option ℕ) (alt : Alt) → IsCandidate q (expr_of e)
    → IsAltOf q e wanted at (Some alt) → IsThere q wanted alt.node
alt_of_mode q e wanted None alt candidate is = absurd (is_some alt is)
alt_of_mode q e wanted (Some mode) alt candidate is =
    (nodes.Native e mode, is.1.is_node, (candidate, (is.0, is.1.is_alternative)))

-- an alternative is there
pub alt_is_there : (q : Query) (e : PhysicalExpr) (wanted : Request) (place : ℕ) (found : Option Alt)
    → IsCandidate q (expr_of e) → IsAltAt q e wanted place found → IfSome found (λ alt. IsThere q wanted alt.node)
alt_is_there q e wanted place None candidate is = tt
alt_is_there q e wanted place (Some alt) candidate is =
    alt_of_mode q e wanted (slice_get is.modes place) alt candidate is.at_place

-- each enforcer that is kept is one of all
kept_among : (q : Query) (group : KeyParts) (all kept : List EnforcedBy) (e : EnforcedBy) → AreFitting q group all kept
    → Among e kept → Among e all
kept_among q group [] kept e is among = subst (Among e) is among
kept_among q group (first ∷ others) kept e (inl (lies, (rest, are, same))) among =
    elim (subst (Among e) same among) [
      | inl is ↦ inl is
      | inr later ↦ inr (kept_among q group others rest e are later)
    ]
kept_among q group (first ∷ others) kept e (inr (lies_not, are)) among =
    inr (kept_among q group others kept e are among)

-- the enforcer at a place is one of the list
enforced_among : (q : Query) (wanted : Request) (kept : List EnforcedBy) (place : ℕ) (found : Enforced)
    → ((e : EnforcedBy) → Among e kept → Among e (enforcers_of wanted))
    → IsEnforced (Some found) (slice_get kept place) → IsThere q wanted found.node
enforced_among q wanted [] zero found all is = absurd is
enforced_among q wanted [] (suc place) found all is = absurd is
enforced_among q wanted (first ∷ kept) zero found all is =
    (nodes.Enforcer first.node, is.0, (first, all first (inl refl), refl))
enforced_among q wanted (first ∷ kept) (suc place) found all is =
    enforced_among q wanted kept place found (λ e among. all e (inr among)) is

enforcer_at : (q : Query) (group : KeyParts) (wanted : Request) (kept : List EnforcedBy) (place : ℕ)
    (found : Option Enforced)
    → AreFitting q group (enforcers_of wanted) kept → IsEnforced found (slice_get kept place)
    → IfSome found (λ f. IsThere q wanted f.node)
enforcer_at q group wanted kept place None are is = tt
enforcer_at q group wanted kept place (Some found) are is =
    enforced_among q wanted kept place found (λ e. kept_among q group (enforcers_of wanted) kept e are) is

pub first_is_there : (q : Query) (group : KeyParts) (wanted : Request) (first second : Option Enforced)
    → AreBoth q group (enforcers_of wanted) first second → IfSome first (λ f. IsThere q wanted f.node)
first_is_there q group wanted first second both =
    enforcer_at q group wanted both.kept 0 first both.are_kept both.is_first

pub second_is_there : (q : Query) (group : KeyParts) (wanted : Request) (first second : Option Enforced)
    → AreBoth q group (enforcers_of wanted) first second → IfSome second (λ f. IsThere q wanted f.node)
second_is_there q group wanted first second both =
    enforcer_at q group wanted both.kept 1 second both.are_kept both.is_second
