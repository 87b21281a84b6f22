-- What enforcers ask for, as the program finds it.
use Rattle.std.proofs.Common.{◌≡◌, ℕ, ◌≤◌, ◌↔◌, List, [], ◌∷◌, Option, None, Some, length, slice_get, refl, sym, subst}
use Rattle.std.proofs.Common.{ap, ◌∙◌, ◌⊎◌, inl, inr, zero, suc, arith}
use Rattle.std.specs.Prelude.{IfSome}
use Rattle.std.specs.Option.{option_map}
use Rattle.query_core.specs.declared.query.Query.{Query}
use Rattle.query_core.specs.declared.words.KeyParts.{KeyParts}
use Rattle.request_props.specs.Numbered.{lists_of, orders_of}
use Rattle.request_props.specs.Requests.{IsRequestInRange}
use Rattle.request_props.specs.declared.request.Request.{Request}
use Rattle.plan_space.specs.Enforcers.{EnforcedBy, enforcers_of, Among}
use Rattle.plan_space.proofs.Enforcers.{few_by}
use Rattle.plan_tree.specs.Enforcers.{AreFitting, IsEnforced, IsEnforcerAt, LiesIn}
use Rattle.plan_tree.specs.declared.enforcers.Enforced.{Enforced}
use Rattle.goal_space.specs.declared.goals.GoalKind.{GoalKind}
use Rattle.goal_space.specs.declared.goals.GoalKind.TheVariants.{Opt}
use Rattle.goal_children.specs.Over.{IsNumberedRequest}
use Rattle.goal_children.specs.Choices.{IsOfEnforcer, IsOfRequest}
use Rattle.goal_children.proofs.Asking.{enforcer_numbered}
use Rattle.goal_children.proofs.OverChildren.{request_in_range}

-- ---- enforcers that fit the group

module _ (q : Query) (group : KeyParts) where
  -- the enforcers that are kept are one list
  kept_one : (all kept others : List EnforcedBy) → AreFitting q group all kept → AreFitting q group all others
      → kept ≡ others
  kept_one [] kept others are also = are ∙ sym also
  kept_one (first ∷ all) kept others (inl (lies, (rest, are, is))) (inl (lies_too, (other_rest, also, is_too))) =
      is ∙ ap (λ es. first ∷ es) (kept_one all rest other_rest are also) ∙ sym is_too
  kept_one (first ∷ all) kept others (inl (lies, (rest, are, is))) (inr (not, also)) = absurd (not lies)
  kept_one (first ∷ all) kept others (inr (not, are)) (inl (lies, (rest, also, is))) = absurd (not lies)
  kept_one (first ∷ all) kept others (inr (not, are)) (inr (not_too, also)) = kept_one all kept others are also

  -- no more are kept than there are
  kept_few : (all kept : List EnforcedBy) → AreFitting q group all kept → length kept ≤ length all
  kept_few [] kept are = omega (arith, ap length are)
  kept_few (first ∷ all) kept (inl (lies, (rest, are, is))) = omega (arith, ap length is, kept_few all rest are)
  kept_few (first ∷ all) kept (inr (not, are)) = omega (arith, kept_few all kept are)

  -- one that is kept is one of all, and lies in the group
  kept_of : (all kept : List EnforcedBy) (e : EnforcedBy) → AreFitting q group all kept → Among e kept → Among e all
      × LiesIn q group e.node
  kept_of [] kept e are among = absurd (subst (Among e) are among)
  kept_of (first ∷ all) kept e (inl (lies, (rest, are, is))) among = elim (subst (Among e) is among) [
    | inl same ↦ (inl same, subst (λ (x : EnforcedBy). LiesIn q group x.node) (sym same) lies)
    | inr later ↦ let (there, in_group) = kept_of all rest e are later in (inr there, in_group)
  ]
  kept_of (first ∷ all) kept e (inr (not, are)) among = let (there, in_group) = kept_of all kept e are among in
      (inr there, in_group)

  -- and each that lies in the group is kept
  of_kept : (all kept : List EnforcedBy) (e : EnforcedBy) → AreFitting q group all kept → Among e all
      → LiesIn q group e.node → Among e kept
  of_kept [] kept e are among lies_in = absurd among
  of_kept (first ∷ all) kept e (inl (lies, (rest, are, is))) (inl same) lies_in = subst (Among e) (sym is) (inl same)
  of_kept (first ∷ all) kept e (inl (lies, (rest, are, is))) (inr later) lies_in =
      subst (Among e) (sym is) (inr (of_kept all rest e are later lies_in))
  of_kept (first ∷ all) kept e (inr (not, are)) (inl same) lies_in =
      absurd (not (subst (λ (x : EnforcedBy). LiesIn q group x.node) same lies_in))
  of_kept (first ∷ all) kept e (inr (not, are)) (inr later) lies_in = of_kept all kept e are later lies_in

-- what the program found is what the enforcer asks for
asked_below : (found : Option Enforced) (e : Option EnforcedBy) → IsEnforced found e
    → option_map (λ x. x.below) found ≡ option_map (λ x. x.below) e
asked_below None None is = refl
asked_below None (Some e) is = absurd is
asked_below (Some found) None is = absurd is
asked_below (Some found) (Some e) is = ap Some is.1

-- the goal for what an enforcer that is kept asks for
one_as : (q : Query) (group : KeyParts) (wanted : Request) (kept : List EnforcedBy)
    → AreFitting q group (enforcers_of wanted) kept → (e : EnforcedBy) → Among e kept
    → (goal : GoalKind) → IsOfRequest group (Some e.below) goal → IsOfEnforcer q group wanted goal
one_as q group wanted kept are e among goal (below, same, is) =
    let at : e.below ≡ below = cc in
    let (there, in_group) = kept_of q group (enforcers_of wanted) kept e are among in
    (e, record { among = there; lies_in = in_group }, is ∙ ap (Opt group) (sym at))

-- the same of the first two that are kept
both_as : (q : Query) (group : KeyParts) (wanted : Request) (kept : List EnforcedBy)
    → AreFitting q group (enforcers_of wanted) kept → (goal : GoalKind)
    → IsOfRequest group (option_map (λ x. x.below) (slice_get kept 0)) goal
    ⊎ IsOfRequest group (option_map (λ x. x.below) (slice_get kept 1)) goal
    → IsOfEnforcer q group wanted goal
both_as q group wanted [] are goal (inl (below, same, is)) = absurd (cc)
both_as q group wanted [] are goal (inr (below, same, is)) = absurd (cc)
both_as q group wanted (first ∷ []) are goal (inl of_first) =
    one_as q group wanted (first ∷ []) are first (inl refl) goal of_first
both_as q group wanted (first ∷ []) are goal (inr (below, same, is)) = absurd (cc)
both_as q group wanted (first ∷ second ∷ rest) are goal (inl of_first) =
    one_as q group wanted (first ∷ second ∷ rest) are first (inl refl) goal of_first
both_as q group wanted (first ∷ second ∷ rest) are goal (inr of_second) =
    one_as q group wanted (first ∷ second ∷ rest) are second (inr (inl refl)) goal of_second

-- the goal for an enforcer of two at most
of_two : (group : KeyParts) (kept : List EnforcedBy) → length kept ≤ 2 → (e : EnforcedBy) → Among e kept
    → (goal : GoalKind) → goal ≡ Opt group e.below
    → IsOfRequest group (option_map (λ x. x.below) (slice_get kept 0)) goal
    ⊎ IsOfRequest group (option_map (λ x. x.below) (slice_get kept 1)) goal
of_two group [] few e among goal is = absurd among
of_two group (first ∷ rest) few e (inl same) goal is =
    inl (e.below, ap (λ (x : EnforcedBy). Some x.below) (sym same), is)
of_two group (first ∷ []) few e (inr among) goal is = absurd among
of_two group (first ∷ second ∷ rest) few e (inr (inl same)) goal is =
    inr (e.below, ap (λ (x : EnforcedBy). Some x.below) (sym same), is)
of_two group (first ∷ second ∷ []) few e (inr (inr among)) goal is = absurd among
of_two group (first ∷ second ∷ third ∷ rest) few e (inr (inr among)) goal is = absurd (omega (arith, few))

as_both : (q : Query) (group : KeyParts) (wanted : Request) (kept : List EnforcedBy)
    → AreFitting q group (enforcers_of wanted) kept → (goal : GoalKind)
    → IsOfEnforcer q group wanted goal
    → IsOfRequest group (option_map (λ x. x.below) (slice_get kept 0)) goal
    ⊎ IsOfRequest group (option_map (λ x. x.below) (slice_get kept 1)) goal
as_both q group wanted kept are goal (e, can, is) =
    let few : length kept ≤ 2 = omega (
      arith,
      kept_few q group (enforcers_of wanted) kept are,
      few_by wanted.dist wanted.order,
    ) in
    of_two group kept few e (of_kept q group (enforcers_of wanted) kept e are can.among can.lies_in) goal is

-- what the first and the second enforcer ask for is all
pub enforced_exact : (q : Query) (group : KeyParts) (wanted : Request) (first second : Option Enforced)
    (below other : Option Request)
    → IsEnforcerAt q group wanted 0 first → IsEnforcerAt q group wanted 1 second
    → below ≡ option_map (λ x. x.below) first → other ≡ option_map (λ x. x.below) second
    → (goal : GoalKind) → IsOfEnforcer q group wanted goal
    ↔ (IsOfRequest group below goal ⊎ IsOfRequest group other goal)
enforced_exact q group wanted first second below other is_first is_second is_below is_other goal =
    let kept = is_first.kept in
    let same : is_second.kept ≡ kept = kept_one q group (enforcers_of wanted) is_second.kept kept is_second.are_kept
    is_first.are_kept in
    let one : below ≡ option_map (λ x. x.below) (slice_get kept 0) = is_below
    ∙ asked_below first (slice_get kept 0) is_first.at_place in
    let two : other ≡ option_map (λ x. x.below) (slice_get kept 1) =
    is_other ∙ asked_below second (slice_get is_second.kept 1) is_second.at_place
    ∙ ap (λ es. option_map (λ x. x.below) (slice_get es 1)) same in
    let First = IsOfRequest group (option_map (λ (x : EnforcedBy). x.below) (slice_get kept 0)) in
    subst (λ (r : Option Request). IsOfEnforcer q group wanted goal
    ↔ (IsOfRequest group r goal ⊎ IsOfRequest group other goal)) (sym one)
    (subst (λ (r : Option Request). IsOfEnforcer q group wanted goal ↔ (First goal ⊎ IsOfRequest group r goal))
    (sym two)
    (as_both q group wanted kept is_first.are_kept goal, both_as q group wanted kept is_first.are_kept goal))

-- what was found stands at a place
among_at : (kept : List EnforcedBy) (place : ℕ) (found : Enforced) → IsEnforced (Some found) (slice_get kept place)
    → (e : EnforcedBy) × Among e kept × (found.below ≡ e.below)
among_at [] zero found is = absurd is
among_at [] (suc place) found is = absurd is
among_at (e ∷ kept) zero found is = (e, inl refl, is.1)
among_at (e ∷ kept) (suc place) found is = let (other, among, same) = among_at kept place found is in
    (other, inr among, same)

module _ (q : Query) (few_lists : length (lists_of q) ≤ 60) (few_orders : length (orders_of q) ≤ 60) where
  below_by : (group : KeyParts) (wanted : Request) (place : ℕ) (found : Option Enforced) → IsNumberedRequest q wanted
      → IsEnforcerAt q group wanted place found
      → IfSome (option_map (λ x. x.below) found) IsRequestInRange
  below_by group wanted place None numbered is = tt
  below_by group wanted place (Some found) numbered is =
      let (e, among, same) = among_at is.kept place found is.at_place in
      let there = (kept_of q group (enforcers_of wanted) is.kept e is.are_kept among).0 in
      subst IsRequestInRange (sym same) (request_in_range q few_lists few_orders e.below
      (enforcer_numbered q wanted e numbered there))

  -- what an enforcer asks for has a code
  pub below_in_range : (group : KeyParts) (wanted : Request) (place : ℕ) (found : Option Enforced)
      (below : Option Request) → IsNumberedRequest q wanted
      → IsEnforcerAt q group wanted place found → below ≡ option_map (λ x. x.below) found
      → IfSome below IsRequestInRange
  below_in_range group wanted place found below numbered is same =
      subst (λ (r : Option Request). IfSome r IsRequestInRange) (sym same)
      (below_by group wanted place found numbered is)
