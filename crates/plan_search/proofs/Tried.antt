-- The members of a list in their modes, offered one after the other.
use Rattle.std.proofs.Common.{◌≡◌, ℕ, zero, suc, ◌<◌, ◌≤◌, ◌+◌, refl, subst, sym, ◌∙◌, ap, inl, inr, ◌⊎◌, arith, get_or}
use Rattle.std.proofs.Common.{take_all}
use Rattle.std.specs.Prelude.{◌^◌, List, [], ◌∷◌, ◌++◌, length, take, drop, Option}
use Rattle.std.proofs.Math.Seq.{drop-cons}
use Rattle.std.proofs.lemmas.List.{drop_all}
use Rattle.query_core.specs.declared.query.Query.{Query}
use Rattle.query_core.specs.declared.words.KeyParts.{KeyParts}
use Rattle.xform_rules.specs.Closure.{IsMember}
use Rattle.request_props.specs.declared.request.Request.{Request}
use Rattle.plan_space.specs.Nodes.{Tree}
use Rattle.plan_space.specs.Choices.{BeatsMode}
use Rattle.plan_search.specs.declared.kept_plans.KeptPlans.{KeptPlans}
use Rattle.plan_search.specs.declared.choice.Choice.{Choice}
use Rattle.plan_search.specs.declared.native.NativeNode.{NativeNode}
use Rattle.plan_search.specs.Natives.{IsNative, AreNative, RisesFrom, mode_number, IsIn}
use Rattle.plan_search.specs.BestSoFar.{BeatsModes, Goes, GoesOver, GoesOverAll}
use Rattle.plan_search.proofs.Scanning.{IsStable, goes_on, goes_to, goes_as, goes_not, mode_stable}

-- each of the list is such a member
pub is_native_at : (q : Query) (group : KeyParts) (list : List NativeNode) (i : ℕ) (d : NativeNode) → i < length list
    → AreNative q group list → IsNative q group (get_or list i d)
is_native_at q group [] i d within are = absurd (omega (arith, within))
is_native_at q group (p ∷ ps) zero d within are = are.0
is_native_at q group (p ∷ ps) (suc i) d within are = is_native_at q group ps i d (omega (arith, within)) are.1

-- and of its own group
pub of_own_group : (q : Query) (group : KeyParts) (p : NativeNode) → IsNative q group p → IsNative q p.expr.group p
of_own_group q group p is = record {
  member = is.member;
  of_group = refl;
  line = is.line;
  rows = is.rows;
  few = is.few;
  small = is.small;
}

-- the number of the first, or one that is above all
abbrev pub next_number : List NativeNode → ℕ
next_number [] = 2 ^ 57
next_number (p ∷ ps) = mode_number p

-- numbers that rise from a bound rise from each lesser one
pub rises_less : (bound lesser : ℕ) (list : List NativeNode) → lesser ≤ bound → RisesFrom bound list
    → RisesFrom lesser list
rises_less bound lesser [] less rises = tt
rises_less bound lesser (p ∷ ps) less rises = (omega (arith, less, rises.0), rises.1)

-- the first is not below the bound
pub first_from : (bound : ℕ) (list : List NativeNode) → bound ≤ 2 ^ 57 → RisesFrom bound list → bound ≤ next_number list
first_from bound [] most rises = most
first_from bound (p ∷ ps) most rises = rises.0

-- one more of a list's first elements
pub take_more : (list : List NativeNode) (i : ℕ) (d : NativeNode) → i < length list
    → take (suc i) list ≡ take i list ++ get_or list i d ∷ []
take_more [] i d within = absurd (omega (arith, within))
take_more (p ∷ ps) zero d within = refl
take_more (p ∷ ps) (suc i) d within = ap (λ x. p ∷ x) (take_more ps i d (omega (arith, within)))

in_append : (p last : NativeNode) (list : List NativeNode) → IsIn p (list ++ last ∷ []) → IsIn p list ⊎ (p ≡ last)
in_append p last [] (inl is) = inr is
in_append p last [] (inr none) = absurd none
in_append p last (first ∷ others) (inl is) = inl (inl is)
in_append p last (first ∷ others) (inr later) = elim (in_append p last others later) [
  | inl among ↦ inl (inr among)
  | inr is ↦ inr is
]

module _ (q : Query) (wanted : Request) where
  pub modes_stable : (list : List NativeNode) → IsStable q (BeatsModes q wanted list)
  modes_stable list best other improves beats p among =
      mode_stable q wanted p.expr p.mode best other improves (beats p among)

  beats_more : (list : List NativeNode) (last : NativeNode) (best : Option Tree) → BeatsModes q wanted list best
      × BeatsMode (IsMember q) q wanted last.expr last.mode best
      → BeatsModes q wanted (list ++ last ∷ []) best
  beats_more list last best beats p among = elim (in_append p last list among) [
    | inl before ↦ beats.0 p before
    | inr is ↦ subst (λ x. BeatsMode (IsMember q) q wanted x.expr x.mode best) (sym is) beats.1
  ]

  module _ (answers : KeptPlans) (group : KeyParts) (list : List NativeNode) where
    -- the bests so far, which beat the first so many of the list
    pub record AreTried (i : ℕ) (old new : Option Choice) : Type 0 where
      pub goes : Goes q answers group wanted (2 ^ 56) (next_number (drop i list)) (BeatsModes q wanted (take i list))
          old new
      pub rises : RisesFrom 0 (drop i list)

    pub tried_none : (best : Option Choice) → RisesFrom (2 ^ 56) list → AreTried 0 best best
    tried_none best rises = record {
      goes = goes_not q answers group wanted (2 ^ 56) (next_number list) (BeatsModes q wanted []) best
          (first_from (2 ^ 56) list (omega arith) rises) (λ tree p among. absurd among);
      rises = rises_less (2 ^ 56) 0 list (omega arith) rises;
    }

    tried_next : (i : ℕ) (d p : NativeNode) (old new newer : Option Choice) → i < length list → p ≡ get_or list i d
        → IsNative q group p → AreTried i old new
        → GoesOver q answers p wanted new newer → AreTried (suc i) old newer
    tried_next i d p old new newer within is physical tried goes =
        let here : drop i list ≡ p ∷ drop (suc i) list = drop-cons list i d within
        ∙ ap (λ x. x ∷ drop (suc i) list) (sym is) in
        let rises : RisesFrom 0 (p ∷ drop (suc i) list) = subst (RisesFrom 0) here tried.rises in
        let before : Goes q answers group wanted (2 ^ 56) (mode_number p) (BeatsModes q wanted (take i list)) old
        new =
        subst (λ l. Goes q answers group wanted (2 ^ 56) (next_number l) (BeatsModes q wanted (take i list)) old new)
        here tried.goes in
        let this : Goes q answers group wanted (mode_number p) (mode_number p + 1)
        (BeatsMode (IsMember q) q wanted p.expr p.mode) new newer =
        subst (λ g. Goes q answers g wanted (mode_number p) (mode_number p + 1)
        (BeatsMode (IsMember q) q wanted p.expr p.mode) new newer) physical.of_group goes in
        let taken : take (suc i) list ≡ take i list ++ p ∷ [] = take_more list i d within
        ∙ ap (λ x. take i list ++ x ∷ []) (sym is) in
        record {
          goes = subst (λ l. Goes q answers group wanted (2 ^ 56) (next_number (drop (suc i) list))
              (BeatsModes q wanted l) old newer) (sym taken)
              (goes_to q answers group wanted (2 ^ 56) (mode_number p + 1) (next_number (drop (suc i) list))
              (BeatsModes q wanted (take i list ++ p ∷ [])) old newer
              (first_from (mode_number p + 1) (drop (suc i) list) physical.small rises.1)
              (goes_as q answers group wanted (2 ^ 56) (mode_number p + 1)
              (λ best. BeatsModes q wanted (take i list) best
              × BeatsMode (IsMember q) q wanted p.expr p.mode best)
              (BeatsModes q wanted (take i list ++ p ∷ [])) old newer (beats_more (take i list) p)
              (goes_on q answers group wanted (2 ^ 56) (mode_number p) (mode_number p + 1)
              (BeatsModes q wanted (take i list)) (BeatsMode (IsMember q) q wanted p.expr p.mode)
              old new newer (modes_stable (take i list)) before this)));
          rises = rises_less (mode_number p + 1) 0 (drop (suc i) list) (omega arith) rises.1;
        }

    pub tried_more : (i : ℕ) (d : NativeNode) (old new newer : Option Choice) → i < length list → AreNative q group list
        → AreTried i old new
        → GoesOver q answers (get_or list i d) wanted new newer → AreTried (i + 1) old newer
    tried_more i d old new newer within are tried goes =
        let next : suc i ≡ i + 1 = omega arith in
        subst (λ n. AreTried n old newer) next (tried_next i d (get_or list i d) old new newer within refl
        (is_native_at q group list i d within are) tried goes)

    -- at the end the best beats each of the list
    pub tried_all : (i : ℕ) (old new : Option Choice) → length list ≤ i → AreTried i old new
        → GoesOverAll q answers group wanted list old new
    tried_all i old new end tried =
        subst (λ l. Goes q answers group wanted (2 ^ 56) (2 ^ 57) (BeatsModes q wanted l) old new)
        (take_all i list end)
        (subst (λ l. Goes q answers group wanted (2 ^ 56) (next_number l) (BeatsModes q wanted (take i list)) old new)
        (drop_all i list end) tried.goes)
