-- Words go by kind, so a goal of a lesser kind comes first.
use Rattle.std.proofs.Common.{◌≡◌, ℕ, ◌<◌, ◌≤◌, List, Option, None, Some, ◌⊎◌, inl, inr, sym, subst, ap, arith}
use Rattle.query_core.specs.Goals.{kind_of, FitsGoal}
use Rattle.query_core.proofs.GoalLemmas.{kinds_rise}
use Rattle.query_core.specs.declared.query.Query.{Query}
use Rattle.query_core.specs.declared.words.KeyParts.{KeyParts}
use Rattle.request_props.specs.declared.request.Request.{Request}
use Rattle.goal_space.specs.Words.{goal_word, parts_of}
use Rattle.goal_space.specs.declared.goals.GoalKind.{GoalKind}
use Rattle.goal_space.specs.declared.goals.GoalKind.TheVariants.{Exp, Imp, Opt}
use Rattle.goal_children.specs.declared.jobs.MemberJob.TheVariants.{Serve, Transform}
use Rattle.goal_space.specs.declared.phase.Phase.TheVariants.{Implementation}
use Rattle.goal_children.specs.Children.{IsChildIn}
use Rattle.goal_children.specs.Choices.{IsBesideMembers, IsOfEnforcer}
use Rattle.goal_children.specs.Finding.{AppendsGoals, FindsFrom, InsertsGoals, IsLeastFrom, IsOfMembers}
use Rattle.goal_children.proofs.Appending.{appends_both, appends_inserted, appends_more}
use Rattle.goal_children.proofs.Finds.{finds_as, finds_left, finds_right}

-- the number of the goal's kind
abbrev kind_number : GoalKind → ℕ
kind_number goal = kind_of (parts_of goal)

-- a lesser kind has a lesser word
kind_before : (k l : GoalKind) → FitsGoal (parts_of k) → kind_number k < kind_number l → goal_word k < goal_word l
kind_before k l fits less = kinds_rise (parts_of k) (parts_of l) fits less

kind_first : (k l : GoalKind) → FitsGoal (parts_of k) → kind_number k < kind_number l → goal_word k ≤ goal_word l
kind_first k l fits less = omega (arith, kind_before k l fits less)

module _ (q : Query) (words : List ℕ) (group : KeyParts) (wanted : Request) (bound : ℕ) where
  -- the members that serve, and what enforcers ask for
  abbrev Served : GoalKind → Type 0
  Served = IsOfMembers q words group (Serve wanted)

  abbrev Enforced : GoalKind → Type 0
  Enforced = IsOfEnforcer q group wanted

  served_kind : (k : GoalKind) → Served k → kind_number k ≡ 6
  served_kind k (e, can, is) = ap kind_number is

  enforced_kind : (k : GoalKind) → Enforced k → kind_number k ≡ 5
  enforced_kind k (e, can, is) = ap kind_number is

  -- the implementation comes before both
  pub imp_is_first : (goal : GoalKind) → FitsGoal (parts_of goal) → IsLeastFrom (λ k. k ≡ Imp group) bound goal
      → IsLeastFrom (IsChildIn q words (Opt group wanted)) bound goal
  imp_is_first goal fits first =
      let kind : kind_number goal ≡ 3 = ap kind_number first.is in
      finds_left (λ k. k ≡ Imp group) (λ k. Served k ⊎ Enforced k) bound goal first (λ k cases above. elim cases [
        | inl served ↦ kind_first goal k fits (omega (arith, kind, served_kind k served))
        | inr enforced ↦ kind_first goal k fits (omega (arith, kind, enforced_kind k enforced))
      ])

  -- what is asked for comes before members
  pub request_is_first : (goal : GoalKind) → FitsGoal (parts_of goal) → FindsFrom (λ k. k ≡ Imp group) bound None
      → IsLeastFrom Enforced bound goal
      → IsLeastFrom (IsChildIn q words (Opt group wanted)) bound goal
  request_is_first goal fits none first =
      let kind : kind_number goal ≡ 5 = enforced_kind goal first.is in
      let early : IsLeastFrom (λ k. Enforced k ⊎ Served k) bound goal =
      finds_left Enforced Served bound goal first
      (λ k served above. kind_first goal k fits (omega (arith, kind, served_kind k served))) in
      finds_right (λ k. k ≡ Imp group) (λ k. Served k ⊎ Enforced k) bound (Some goal) none
      (finds_as (λ k. Enforced k ⊎ Served k) (λ k. Served k ⊎ Enforced k) bound (Some goal)
      (λ k cases. elim cases [ inl is ↦ inr is | inr is ↦ inl is ])
      (λ k cases. elim cases [ inl is ↦ inr is | inr is ↦ inl is ]) early)

  -- and members come last
  pub member_is_first : (found : Option GoalKind) → FindsFrom (λ k. k ≡ Imp group) bound None
      → FindsFrom Enforced bound None → FindsFrom Served bound found
      → FindsFrom (IsChildIn q words (Opt group wanted)) bound found
  member_is_first found none nothing first =
      finds_right (λ k. k ≡ Imp group) (λ k. Served k ⊎ Enforced k) bound found none
      (finds_as (λ k. Enforced k ⊎ Served k) (λ k. Served k ⊎ Enforced k) bound found
      (λ k cases. elim cases [ inl is ↦ inr is | inr is ↦ inl is ])
      (λ k cases. elim cases [ inl is ↦ inr is | inr is ↦ inl is ])
      (finds_right Enforced Served bound found nothing first))

-- ---- kinds of children that come to a list, one behind the other

module _ (q : Query) (words : List ℕ) (group : KeyParts) where
  -- the exploration of a group, and the members that it implements
  pub implemented_added : (old middle new : List GoalKind) → FitsGoal (parts_of (Exp group))
      → AppendsGoals (λ k. k ≡ Exp group) old middle
      → AppendsGoals (IsOfMembers q words group (Transform Implementation)) middle new
      → AppendsGoals (IsChildIn q words (Imp group)) old new
  implemented_added old middle new fits first second =
      appends_more (λ k. k ≡ Exp group) (IsOfMembers q words group (Transform Implementation))
      (IsChildIn q words (Imp group)) old middle new
      (λ k l is (e, is_in, also). kind_before k l (subst (λ (g : GoalKind). FitsGoal (parts_of g)) (sym is) fits)
      (omega (arith, ap kind_number is, ap kind_number also)))
      (λ k cases. cases) (λ k cases. cases) first second

  module _ (wanted : Request) (fits : (k : GoalKind) → IsChildIn q words (Opt group wanted) k → FitsGoal (parts_of k))
    where
      -- what stands beside the members, and the members that serve
      pub chosen_added : (old middle new : List GoalKind) → AppendsGoals (IsBesideMembers q group wanted) old middle
          → AppendsGoals (IsOfMembers q words group (Serve wanted)) middle new
          → AppendsGoals (IsChildIn q words (Opt group wanted)) old new
      chosen_added old middle new beside served =
          let Child = IsChildIn q words (Opt group wanted) in
          let Served = IsOfMembers q words group (Serve wanted) in
          let Beside = IsBesideMembers q group wanted in
          appends_more Beside Served Child old middle new
          (λ k l early (e, can, also). elim early [
            | inl is ↦ kind_before k l (fits k (inl is)) (omega (arith, ap kind_number is, ap kind_number also))
            | inr (f, may, is) ↦ kind_before k l (fits k (inr (inr (f, may, is))))
                (omega (arith, ap kind_number is, ap kind_number also))
          ])
          (λ k cases. elim cases as (λ _. Child k) [
            | inl early ↦ elim early as (λ _. Child k) [ inl is ↦ inl is | inr asked ↦ inr (inr asked) ]
            | inr serves ↦ inr (inl serves)
          ])
          (λ k is. elim is as (λ _. Beside k ⊎ Served k) [
            | inl same ↦ inl (inl same)
            | inr later ↦ elim later as (λ _. Beside k ⊎ Served k) [
              | inl serves ↦ inr serves
              | inr asked ↦
                  inl (inr asked)
            ]
          ])
          beside served

-- the implementation of a group, and what enforcers ask for
pub beside_added : (q : Query) (group : KeyParts) (wanted : Request) (old middle new : List GoalKind)
    → FitsGoal (parts_of (Imp group)) → AppendsGoals (λ k. k ≡ Imp group) old middle
    → InsertsGoals (IsOfEnforcer q group wanted) middle new → AppendsGoals (IsBesideMembers q group wanted) old new
beside_added q group wanted old middle new fits imp enforced =
    appends_both (λ k. k ≡ Imp group) (IsOfEnforcer q group wanted) old middle new
    (λ k l is (e, can, also). kind_before k l (subst (λ (g : GoalKind). FitsGoal (parts_of g)) (sym is) fits)
    (omega (arith, ap kind_number is, ap kind_number also)))
    imp (appends_inserted (IsOfEnforcer q group wanted) middle new enforced)
