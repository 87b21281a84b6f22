-- What alternatives ask for, as the program finds it.
use Rattle.std.proofs.Common.{◌≡◌, ℕ, ◌+◌, ◌<◌, ◌≤◌, List, [], ◌∷◌, Option, None, Some, length, refl, sym, subst, ap}
use Rattle.std.proofs.Common.{◌∙◌, ◌↔◌, ◌⊎◌, inl, inr, arith}
use Rattle.std.specs.Prelude.{IfSome}
use Rattle.std.proofs.lemmas.Bool.{cases_lt}
use Rattle.std.specs.Option.{option_map}
use Rattle.query_core.specs.Expressions.{expr_of, physical_children, IsCandidate}
use Rattle.query_core.specs.declared.words.Key.{Key}
use Rattle.query_core.specs.declared.query.Query.{Query}
use Rattle.query_core.specs.declared.words.KeyParts.{KeyParts}
use Rattle.query_core.specs.declared.expressions.Children.{Children}
use Rattle.query_core.specs.declared.expressions.Children.TheVariants as arities
use Rattle.query_core.specs.declared.expressions.PhysicalExpr.{PhysicalExpr}
use Rattle.request_props.specs.Numbered.{lists_of, orders_of}
use Rattle.request_props.specs.Requests.{IsRequestInRange}
use Rattle.request_props.specs.declared.request.Request.{Request}
use Rattle.plan_space.specs.Alternatives.{asked_of}
use Rattle.plan_space.specs.Choices.{groups_of}
use Rattle.plan_space.specs.declared.lines.Line.{Line}
use Rattle.plan_space.specs.Laws.{AsksWhatFits}
use Rattle.plan_tree.specs.ServingModes.{NoneServes}
use Rattle.plan_tree.specs.Alternatives.{AreAsked, Asks, HasAlternative, IsAltBy}
use Rattle.plan_tree.specs.declared.alternatives.Alt.{Alt}
use Rattle.goal_space.specs.Children.{IsAsked}
use Rattle.goal_space.specs.declared.goals.GoalKind.{GoalKind}
use Rattle.goal_space.specs.declared.goals.GoalKind.TheVariants.{Opt}
use Rattle.goal_children.specs.Over.{IsNumberedRequest}
use Rattle.goal_children.specs.Choices.{IsOfAlternatives, IsOfAsked, IsOfMode, IsOfModesBelow, IsOfRequest, IsOfWishes}
use Rattle.goal_children.specs.Finding.{FindsFrom, sooner_of}
use Rattle.goal_children.proofs.Asking.{asks_numbered}
use Rattle.goal_children.proofs.Finds.{finds_as, sooner_is}
use Rattle.goal_children.proofs.OverChildren.{request_in_range}

-- what is asked has a code, if each such request has one
asked_in_range : (asked : Option (Key × Request)) (found : Option Request) → found ≡ option_map (λ a. a.1) asked
    → ((ask : Key × Request) → asked ≡ Some ask → IsRequestInRange ask.1)
    → IfSome found IsRequestInRange
asked_in_range None found is each = subst (λ (r : Option Request). IfSome r IsRequestInRange) (sym is) tt
asked_in_range (Some ask) found is each =
    subst (λ (r : Option Request). IfSome r IsRequestInRange) (sym is) (each ask refl)

module _ (q : Query) where
  -- the goal for what is asked of a group
  asks_as : (asked : Option (Key × Request)) (group : KeyParts) (wanted : Request) (goal : GoalKind)
      → Asks q asked group wanted
      → IsOfRequest group (option_map (λ a. a.1) asked) goal → goal ≡ Opt group wanted
  asks_as None group wanted goal asks is = absurd asks
  asks_as (Some ask) group wanted goal asks (below, same, is) = let at : ask.1 ≡ below = cc in is
      ∙ ap (Opt group) (sym at ∙ asks.1)

  as_asks : (asked : Option (Key × Request)) (group : KeyParts) (wanted : Request) (goal : GoalKind)
      → Asks q asked group wanted → goal ≡ Opt group wanted
      → IsOfRequest group (option_map (λ a. a.1) asked) goal
  as_asks None group wanted goal asks is = absurd asks
  as_asks (Some ask) group wanted goal asks is = (wanted, ap Some asks.1, is)

  module _ (alt : Alt) where
    -- the goal of a child for what the alternative asks of it
    abbrev IsOfAlt : Children → GoalKind → Type 0
    IsOfAlt children goal = IsOfAsked children (option_map (λ a. a.1) alt.left) (option_map (λ a. a.1) alt.right) goal

    alt_as : (children : Children) (wishes : List Request) → AreAsked q alt (groups_of children) wishes
        → (goal : GoalKind) → IsOfAlt children goal
        → IsOfWishes (groups_of children) wishes goal
    alt_as arities.Zero wishes are goal is = absurd is
    alt_as (arities.One child) [] are goal is = absurd are
    alt_as (arities.One child) (wanted ∷ []) are goal is =
        (child, wanted, inl (refl, refl), asks_as alt.left child wanted goal are.0 is)
    alt_as (arities.One child) (wanted ∷ other ∷ wishes) are goal is = absurd are
    alt_as (arities.Two left right) [] are goal is = absurd are
    alt_as (arities.Two left right) (wanted ∷ []) are goal is = absurd are
    alt_as (arities.Two left right) (wanted ∷ other ∷ []) are goal (inl is) =
        (left, wanted, inl (refl, refl), asks_as alt.left left wanted goal are.0 is)
    alt_as (arities.Two left right) (wanted ∷ other ∷ []) are goal (inr is) =
        (right, other, inr (inl (refl, refl)), asks_as alt.right right other goal are.1 is)
    alt_as (arities.Two left right) (wanted ∷ other ∷ third ∷ wishes) are goal is = absurd are

    as_alt : (children : Children) (wishes : List Request) → AreAsked q alt (groups_of children) wishes
        → (goal : GoalKind) → IsOfWishes (groups_of children) wishes goal
        → IsOfAlt children goal
    as_alt arities.Zero wishes are goal (group, below, asked, is) = absurd asked
    as_alt (arities.One child) [] are goal (group, below, asked, is) = absurd asked
    as_alt (arities.One child) (wanted ∷ []) are goal (group, below, inl (at, same), is) =
        as_asks alt.left child wanted goal are.0 (is ∙ ap (λ g. Opt g below) at ∙ ap (Opt child) same)
    as_alt (arities.One child) (wanted ∷ []) are goal (group, below, inr none, is) = absurd none
    as_alt (arities.One child) (wanted ∷ other ∷ wishes) are goal (group, below, asked, is) = absurd are
    as_alt (arities.Two left right) [] are goal (group, below, asked, is) = absurd asked
    as_alt (arities.Two left right) (wanted ∷ []) are goal (group, below, asked, is) = absurd are
    as_alt (arities.Two left right) (wanted ∷ other ∷ []) are goal (group, below, inl (at, same), is) =
        inl (as_asks alt.left left wanted goal are.0 (is ∙ ap (λ g. Opt g below) at ∙ ap (Opt left) same))
    as_alt (arities.Two left right) (wanted ∷ other ∷ []) are goal (group, below, inr (inl (at, same)), is) =
        inr (as_asks alt.right right other goal are.1 (is ∙ ap (λ g. Opt g below) at ∙ ap (Opt right) same))
    as_alt (arities.Two left right) (wanted ∷ other ∷ []) are goal (group, below, inr (inr none), is) = absurd none
    as_alt (arities.Two left right) (wanted ∷ other ∷ third ∷ wishes) are goal (group, below, asked, is) = absurd are

    -- each thing that is asked is asked of a child
    left_is_asked : (children : Children) (wishes : List Request) → AreAsked q alt (groups_of children) wishes
        → (ask : Key × Request) → alt.left ≡ Some ask
        → (group : KeyParts) × IsAsked (groups_of children) wishes group ask.1
    left_is_asked arities.Zero [] are ask is = absurd (let none : alt.left ≡ None = are.0 in cc)
    left_is_asked arities.Zero (wanted ∷ wishes) are ask is = absurd are
    left_is_asked (arities.One child) [] are ask is = absurd are
    left_is_asked (arities.One child) (wanted ∷ []) are ask is =
        (child, inl (refl, (subst (λ (a : Option (Key × Request)). Asks q a child wanted) is are.0).1))
    left_is_asked (arities.One child) (wanted ∷ other ∷ wishes) are ask is = absurd are
    left_is_asked (arities.Two left right) [] are ask is = absurd are
    left_is_asked (arities.Two left right) (wanted ∷ []) are ask is = absurd are
    left_is_asked (arities.Two left right) (wanted ∷ other ∷ []) are ask is =
        (left, inl (refl, (subst (λ (a : Option (Key × Request)). Asks q a left wanted) is are.0).1))
    left_is_asked (arities.Two left right) (wanted ∷ other ∷ third ∷ wishes) are ask is = absurd are

    right_is_asked : (children : Children) (wishes : List Request) → AreAsked q alt (groups_of children) wishes
        → (ask : Key × Request) → alt.right ≡ Some ask
        → (group : KeyParts) × IsAsked (groups_of children) wishes group ask.1
    right_is_asked arities.Zero [] are ask is = absurd (let none : alt.right ≡ None = are.1 in cc)
    right_is_asked arities.Zero (wanted ∷ wishes) are ask is = absurd are
    right_is_asked (arities.One child) [] are ask is = absurd are
    right_is_asked (arities.One child) (wanted ∷ []) are ask is = absurd (let none : alt.right ≡ None = are.1 in cc)
    right_is_asked (arities.One child) (wanted ∷ other ∷ wishes) are ask is = absurd are
    right_is_asked (arities.Two left right) [] are ask is = absurd are
    right_is_asked (arities.Two left right) (wanted ∷ []) are ask is = absurd are
    right_is_asked (arities.Two left right) (wanted ∷ other ∷ []) are ask is =
        (right, inr (inl (refl, (subst (λ (a : Option (Key × Request)). Asks q a right other) is are.1).1)))
    right_is_asked (arities.Two left right) (wanted ∷ other ∷ third ∷ wishes) are ask is = absurd are

    module _ (e : PhysicalExpr) (wanted : Request) (mode : ℕ) (line : Line) (by : IsAltBy q e wanted mode alt line)
      where
        mode_as : (goal : GoalKind) → IsOfAlt (physical_children e.operator) goal → IsOfMode q e wanted mode goal
        mode_as goal is = (
          line,
          by.is_alternative,
          alt_as (physical_children e.operator) (asked_of line wanted) by.asks goal is,
        )

        as_mode : (goal : GoalKind) → IsOfMode q e wanted mode goal → IsOfAlt (physical_children e.operator) goal
        as_mode goal (other, is_other, of_wishes) =
            let ours = by.is_alternative.is_line in
            let theirs = is_other.is_line in
            let same : other ≡ line = cc in
            as_alt (physical_children e.operator) (asked_of line wanted) by.asks goal
            (subst (λ (l : Line). IsOfWishes (groups_of (physical_children e.operator)) (asked_of l wanted) goal) same
            of_wishes)

        -- the mode asks for what the alternative asks for
        pub mode_exact : (first second : Option Request) → first ≡ option_map (λ a. a.1) alt.left
            → second ≡ option_map (λ a. a.1) alt.right → (goal : GoalKind)
            → IsOfMode q e wanted mode goal ↔ IsOfAsked (physical_children e.operator) first second goal
        mode_exact first second is_first is_second goal =
            subst (λ (r : Option Request). IsOfMode q e wanted mode goal
            ↔ IsOfAsked (physical_children e.operator) r second goal) (sym is_first)
            (subst (λ (r : Option Request). IsOfMode q e wanted mode goal
            ↔ IsOfAsked (physical_children e.operator) (option_map (λ a. a.1) alt.left) r goal) (sym is_second)
            (as_mode goal, mode_as goal))

        -- which has a code
        module _ (few_lists : length (lists_of q) ≤ 60) (few_orders : length (orders_of q) ≤ 60)
            (asks_what_fits : AsksWhatFits q) (candidate : IsCandidate q (expr_of e))
            (numbered : IsNumberedRequest q wanted) where
          ask_in_range : (group : KeyParts) (below : Request)
              → IsAsked (groups_of (physical_children e.operator)) (asked_of line wanted) group below
              → IsRequestInRange below
          ask_in_range group below is_asked =
              request_in_range q few_lists few_orders below
              (asks_numbered q asks_what_fits e wanted group below candidate numbered (record {
                mode = mode;
                line = line;
                is_alternative = by.is_alternative;
                is_asked = is_asked;
              }))

          pub first_in_range : (first : Option Request) → first ≡ option_map (λ a. a.1) alt.left
              → IfSome first IsRequestInRange
          first_in_range first is_first = asked_in_range alt.left first is_first (λ ask is.
              let (group, is_asked) = left_is_asked (physical_children e.operator) (asked_of line wanted) by.asks ask
              is in ask_in_range group ask.1 is_asked)

          pub second_in_range : (second : Option Request) → second ≡ option_map (λ a. a.1) alt.right
              → IfSome second IsRequestInRange
          second_in_range second is_second = asked_in_range alt.right second is_second (λ ask is.
              let (group, is_asked) = right_is_asked (physical_children e.operator) (asked_of line wanted) by.asks ask
              is in ask_in_range group ask.1 is_asked)

-- of two children it is the sooner one
pub two_asked : (children : Children) (first second : Option Request) (left right : KeyParts) (bound : ℕ)
    (a b found : Option GoalKind) → children ≡ arities.Two left right
    → found ≡ sooner_of a b → FindsFrom (IsOfRequest left first) bound a → FindsFrom (IsOfRequest right second) bound b
    → FindsFrom (IsOfAsked children first second) bound found
two_asked children first second left right bound a b found are is at_left at_right =
    subst (λ (x : Children). FindsFrom (IsOfAsked x first second) bound found) (sym are)
    (sooner_is (IsOfRequest left first) (IsOfRequest right second) bound a b found is at_left at_right)

-- ---- one mode after the other

module _ (q : Query) (e : PhysicalExpr) (wanted : Request) (bound : ℕ) where
  -- there is no mode below the first
  pub no_modes : FindsFrom (IsOfModesBelow q e wanted 0) bound None
  no_modes goal (mode, less, is) above = omega (arith, less)

  -- ---- goals of the modes up to the next one that has a line

  module _ (from mode : ℕ) (order : from ≤ mode) (none : NoneServes q e wanted from mode) where
    pub mode_there : (k : GoalKind) → IsOfModesBelow q e wanted from k ⊎ IsOfMode q e wanted mode k
        → IsOfModesBelow q e wanted (mode + 1) k
    mode_there k (inl (m, less, of_mode)) = (m, omega (arith, less, order), of_mode)
    mode_there k (inr of_mode) = (mode, omega arith, of_mode)

    pub mode_cases : (k : GoalKind) → IsOfModesBelow q e wanted (mode + 1) k → IsOfModesBelow q e wanted from k
        ⊎ IsOfMode q e wanted mode k
    mode_cases k (m, less, (line, alternative, wishes)) = elim (cases_lt m from) [
      | inl earlier ↦ inl (m, earlier, (line, alternative, wishes))
      | inr not_earlier ↦ elim (cases_lt m mode) [
        | inl skipped ↦ absurd (none m not_earlier skipped (line, alternative))
        | inr not_skipped ↦
            let same : m ≡ mode = omega (arith, less, not_skipped) in
            inr (subst (λ j. IsOfMode q e wanted j k) same (line, alternative, wishes))
      ]
    ]

    -- the first of them
    pub mode_more : (before this found : Option GoalKind) → found ≡ sooner_of before this
        → FindsFrom (IsOfModesBelow q e wanted from) bound before
        → FindsFrom (IsOfMode q e wanted mode) bound this → FindsFrom (IsOfModesBelow q e wanted (mode + 1)) bound found
    mode_more before this found is first second =
        finds_as (λ k. IsOfModesBelow q e wanted from k ⊎ IsOfMode q e wanted mode k)
        (IsOfModesBelow q e wanted (mode + 1)) bound found mode_there mode_cases
        (sooner_is (IsOfModesBelow q e wanted from) (IsOfMode q e wanted mode) bound before this found is first second)

  -- ---- where all modes that are there for the request are below the number, these are the goals of all modes

  pub mode_asks : (from : ℕ) (k : GoalKind) → IsOfModesBelow q e wanted from k → IsOfAlternatives q e wanted k
  mode_asks from k (m, less, (line, alternative, (group, below, asked, is))) =
      (group, below, record { mode = m; line = line; is_alternative = alternative; is_asked = asked }, is)

  pub asks_among : (from : ℕ) → ((m : ℕ) → HasAlternative q e wanted m → m < from) → (k : GoalKind)
      → IsOfAlternatives q e wanted k → IsOfModesBelow q e wanted from k
  asks_among from below k (group, wish, asks, is) = (
    asks.mode,
    below asks.mode (asks.line, asks.is_alternative),
    (asks.line, asks.is_alternative, (group, wish, asks.is_asked, is)),
  )

  pub all_modes : (from : ℕ) (found : Option GoalKind) → ((m : ℕ) → HasAlternative q e wanted m → m < from)
      → FindsFrom (IsOfModesBelow q e wanted from) bound found
      → FindsFrom (IsOfAlternatives q e wanted) bound found
  all_modes from found below finds = finds_as (IsOfModesBelow q e wanted from) (IsOfAlternatives q e wanted) bound found
      (mode_asks from) (asks_among from below) finds
