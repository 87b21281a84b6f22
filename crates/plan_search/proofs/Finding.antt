-- The least plan for one request, and what it adds to the answers.
use Rattle.std.proofs.Common.{◌≡◌, ℕ, false, ◌<◌, ◌+◌, ◌*◌, refl, subst, sym, ◌∙◌, ap, inl, inr, arith}
use Rattle.std.specs.Prelude.{◌^◌, List, Option, None, Some}
use Rattle.std.specs.Ordering.{nat_cmp, is_eq}
use Rattle.std.specs.BTreeMap.{Updates}
use Rattle.std.specs.Cmp.{nat_cmp_is}
use Rattle.std.specs.declared.cmp.Ordering.TheVariants.{Less, Greater}
use Rattle.std.proofs.lemmas.Bool.{cases_eq, cases_order}
use Rattle.query_core.specs.Keys.{key_number, IsGroup, IsGroupInRange}
use Rattle.query_core.specs.declared.query.Query.{Query}
use Rattle.query_core.specs.declared.words.KeyParts.{KeyParts}
use Rattle.query_core.specs.declared.expressions.PhysicalExpr.{PhysicalExpr}
use Rattle.xform_rules.specs.Closure.{IsMember}
use Rattle.request_props.specs.Numbered.{IsProps}
use Rattle.request_props.specs.declared.props.Props.{Props}
use Rattle.request_props.specs.declared.request.Dist.{Dist}
use Rattle.request_props.specs.declared.request.Request.{Request}
use Rattle.request_props.specs.Fitting.{Fits}
use Rattle.plan_space.specs.Nodes.{Tree}
use Rattle.plan_space.specs.Least.{HasNoPlan}
use Rattle.plan_space.specs.Enforcers.{enforcers_of}
use Rattle.plan_space.specs.Choices.{BestServes, BeatsMode}
use Rattle.plan_space.specs.Laws.{BestOfAllIsLeast}
use Rattle.plan_search.proofs.Answered.{none_case, some_case}
use Rattle.plan_search.specs.declared.kept_plans.KeptPlans.{KeptPlans}
use Rattle.plan_search.specs.declared.choice.Choice.{Choice}
use Rattle.plan_search.specs.declared.native.NativeNode.{NativeNode}
use Rattle.plan_search.specs.Places.{DISTS, ORDERS, dist_place, request_place, first_place, place_of}
use Rattle.plan_search.specs.KeptPlans.{kept_at, IsKept, IsAnswerFor, IsAnswered, answer_at, AreAnswered}
use Rattle.plan_search.specs.Natives.{AreListedFor, HasMode}
use Rattle.plan_search.specs.BestSoFar.{IsBestChoice, IsBestSoFar, GoesOverEnforcers, GoesOverAll, BeatsEnforcers}
use Rattle.plan_search.specs.BestSoFar.{BeatsModes}
use Rattle.plan_search.proofs.RequestPlaces.{request_small, dist_is_one}
use Rattle.plan_search.proofs.Able.{serves_gives}
use Rattle.plan_search.proofs.Standing.{stands_on, built_stands}
use Rattle.plan_search.proofs.Scanning.{IsStable, goes_on, enforcer_stable}
use Rattle.query_core.specs.Expressions.{physical_children}

module _ (q : Query) (answers : KeptPlans) (group : KeyParts) (wanted : Request) where
  -- the best so far meets the request
  best_serves : (choice : Option Choice) (best : Option Tree) → IsBestSoFar q answers group wanted choice best
      → BestServes (IsMember q) q group wanted best
  best_serves None None is = tt
  best_serves None (Some tree) is = absurd is
  best_serves (Some choice) None is = absurd is
  best_serves (Some choice) (Some tree) (node, chosen) = chosen.serves

  enforcers_stable : IsStable q (BeatsEnforcers q group (enforcers_of wanted))
  enforcers_stable best other improves beats e among = enforcer_stable q group e best other improves (beats e among)

  -- the best beats a mode that the list has
  beats_at : (list : List NativeNode) (best : Option Tree) (e : PhysicalExpr) (mode : ℕ)
      → BeatsModes q wanted list best
      → HasMode e mode list
      → BeatsMode (IsMember q) q wanted e mode best
  beats_at list best e mode beats (p, among, is_expr, is_mode) =
      subst (λ f. BeatsMode (IsMember q) q wanted f mode best) is_expr
      (subst (λ m. BeatsMode (IsMember q) q wanted p.expr m best) is_mode (beats p among))

  -- once all nodes are offered, the best is the least plan, and where there is none there is no plan
  pub best_is_answer : (list : List NativeNode) (some all : Option Choice) → BestOfAllIsLeast q → Fits q group wanted
      → AreListedFor q group wanted.dist list
      → GoesOverEnforcers q answers group wanted None some → GoesOverAll q answers group wanted list some all
      → IsBestChoice q answers group wanted all
  best_is_answer list some all least fits listed first second =
      let both = goes_on q answers group wanted 0 (2 ^ 56) (2 ^ 57) (BeatsEnforcers q group (enforcers_of wanted))
      (BeatsModes q wanted list) None some all enforcers_stable first second None tt tt in
      let best = both.0 in (
        best,
        both.1.is_best,
        least group wanted best fits (record {
          best_serves = best_serves all best both.1.is_best;
          enforcers = both.1.done.0;
          members = λ e mode member of_group line alternative.
              beats_at list best e mode both.1.done.1
              (listed.complete e mode line member of_group alternative.is_line
              (serves_gives q line (physical_children e.operator) wanted alternative.serves)) line alternative;
        }),
      )

  -- the best choice, put at the request's place, is its answer
  pub best_answers : (new : KeptPlans) (choice : Option Choice)
      → ((place : ℕ) → place < place_of group wanted → answer_at new place ≡ answer_at answers place)
      → answer_at new (place_of group wanted) ≡ Some choice → IsBestChoice q answers group wanted choice
      → IsAnswerFor q new group wanted choice
  best_answers new None kept at (None, is, answer) = answer
  best_answers new None kept at (Some tree, is, answer) = absurd is
  best_answers new (Some choice) kept at (None, is, answer) = absurd is
  best_answers new (Some choice) kept at (Some tree, (node, chosen), answer) = (
    tree,
    record {
      stands = built_stands answers new (place_of group wanted) kept choice choice.kids node tree refl
          (record { at = at; is_node = chosen.is_node }) chosen.built;
      least = answer;
      cost = chosen.cost;
    },
  )

-- an answer stays one where what stands before a greater place stays
answer_stays : (q : Query) (old new : KeptPlans) (bound : ℕ)
    → ((place : ℕ) → place < bound → answer_at new place ≡ answer_at old place) → (g : KeyParts) (r : Request)
    → place_of g r < bound → (answer : Option Choice) → IsAnswerFor q old g r answer → IsAnswerFor q new g r answer
answer_stays q old new bound kept g r before None is = is
answer_stays q old new bound kept g r before (Some choice) (tree, is) = (
  tree,
  record {
    stands = stands_on old new bound kept tree (place_of g r) before is.stands;
    least = is.least;
    cost = is.cost;
  },
)

differ : (x y : ℕ) → (x ≡ y → ⊥) → is_eq (nat_cmp x y) ≡ false
differ x y not_same = elim (cases_order x y) [
  | inl same ↦ absurd (not_same same)
  | inr (inl less) ↦ ap is_eq (sym (nat_cmp_is x y Less less))
  | inr (inr more) ↦ ap is_eq (sym (nat_cmp_is x y Greater more))
]

-- ---- places are one to one

-- a place among those of a group is that of one request
pub request_is_one : (r s : Request) → r.order < ORDERS → s.order < ORDERS → request_place r ≡ request_place s → r ≡ s
request_is_one r s few also is =
    let order : r.order ≡ s.order = omega (arith, few, also, is) in
    let place : dist_place r.dist ≡ dist_place s.dist = omega (arith, few, also, is) in
    let dist : r.dist ≡ s.dist = dist_is_one r.dist s.dist place in
    let make : Dist → ℕ → Request = λ d o. record { dist = d; order = o } in
    ap (λ d. make d r.order) dist ∙ ap (λ o. make s.dist o) order

module _ (q : Query) (props : Props) (is_props : IsProps q props) (in_range : (g : KeyParts) → IsGroup q g
    → IsGroupInRange g)
    (groups_one : (p g : KeyParts) → IsGroupInRange p → IsGroupInRange g → key_number p ≡ key_number g → p ≡ g) where
  -- a place is that of one group and one request
  pub place_is_one : (g h : KeyParts) (r s : Request) → IsGroup q g → IsGroup q h → Fits q g r → Fits q h s
      → place_of g r ≡ place_of h s → (g ≡ h) × (r ≡ s)
  place_is_one g h r s known also fits fits_too is =
      let small = request_small q g props r is_props fits in
      let small_too = request_small q h props s is_props fits_too in
      let key : key_number g ≡ key_number h = omega (arith, small, small_too, is) in
      let place : request_place r ≡ request_place s = omega (arith, key, is) in (
        groups_one g h (in_range g known) (in_range h also) key,
        request_is_one r s (omega (arith, fits.numbered, is_props.few_orders))
            (omega (arith, fits_too.numbered, is_props.few_orders)) place,
      )

  -- one more answer
  pub answered_more : (old new : KeptPlans) (group : KeyParts) (wanted : Request) (choice : Option Choice)
      → IsGroup q group → Fits q group wanted → AreAnswered q old (place_of group wanted)
      → IsBestChoice q old group wanted choice → Updates nat_cmp old.map new.map (place_of group wanted) (Some choice)
      → AreAnswered q new (place_of group wanted + 1)
  answered_more old new group wanted choice known fits answered best updates g r known_too fits_too less =
      let others : (place : ℕ) → place < place_of group wanted → answer_at new place ≡ answer_at old place =
      λ place before. updates.2 place (differ (place_of group wanted) place (λ is. omega (arith, before, is))) in
      elim (cases_eq (place_of g r) (place_of group wanted)) [
        | inl same ↦
            let one = place_is_one g group r wanted known_too known fits_too fits same in
            let is = best_answers q old group wanted new choice others updates.1 best in (
              choice,
              ap (λ p. answer_at new p) same ∙ updates.1,
              subst (λ h. IsAnswerFor q new h r choice) (sym one.0)
                  (subst (λ s. IsAnswerFor q new group s choice) (sym one.1) is),
            )
        | inr other ↦
            let earlier : place_of g r < place_of group wanted = omega (arith, less, other) in
            let before = answered g r known_too fits_too earlier in (
              before.0,
              others (place_of g r) earlier
                  ∙ before.1,
              answer_stays q old new (place_of group wanted) others g r earlier before.0 before.2,
            )
      ]

  -- a request that doesn't fit has a place that no other has, so all before the next place are answered
  pub answered_past : (answers : KeptPlans) (group : KeyParts) (at : Request) → IsGroup q group
      → request_place at < DISTS * ORDERS → at.order < ORDERS
      → (Fits q group at → ⊥) → AreAnswered q answers (place_of group at)
      → AreAnswered q answers (place_of group at + 1)
  answered_past answers group at known few small fits_not answered g r known_too fits less =
      let small_too = request_small q g props r is_props fits in
      elim (cases_eq (place_of g r) (place_of group at)) [
        | inl same ↦
            let key : key_number g ≡ key_number group = omega (arith, small_too, few, same) in
            let equal : g ≡ group = groups_one g group (in_range g known_too) (in_range group known) key in
            let request : r ≡ at = request_is_one r at (omega (arith, fits.numbered, is_props.few_orders)) small
            (omega (arith, same, key)) in
            absurd (fits_not (subst (λ h. Fits q h at) equal (subst (λ s. Fits q g s) request fits)))
        | inr other ↦ answered g r known_too fits (omega (arith, less, other))
      ]

-- ---- all requests

-- where all requests of groups with keys below a bound are answered, each of them is
all_answered : (q : Query) (props : Props) → IsProps q props
    → (answers : KeptPlans) (group : KeyParts) (wanted : Request) (bound : ℕ) → key_number group < bound
    → AreAnswered q answers (first_place bound) → IsGroup q group → Fits q group wanted
    → IsAnswered q answers group wanted
all_answered q props is_props answers group wanted bound below answered known fits =
    let small = request_small q group props wanted is_props fits in
    answered group wanted known fits (omega (arith, small, below))

-- so the plan that is kept at its place is the least for it
pub kept_found : (q : Query) (props : Props) → IsProps q props
    → (answers : KeptPlans) (kept : Choice) (group : KeyParts) (wanted : Request) (bound : ℕ)
    → key_number group < bound → AreAnswered q answers (first_place bound) → IsGroup q group → Fits q group wanted
    → kept_at answers (place_of group wanted) ≡ Some kept
    → (tree : Tree) × IsKept q answers group wanted kept tree
kept_found q props is_props answers kept group wanted bound below answered known fits at =
    some_case q answers group wanted kept (all_answered q props is_props answers group wanted bound below answered known
    fits) at

-- and where none is kept there is none
pub none_found : (q : Query) (props : Props) → IsProps q props
    → (answers : KeptPlans) (group : KeyParts) (wanted : Request) (bound : ℕ) → key_number group < bound
    → AreAnswered q answers (first_place bound) → IsGroup q group → Fits q group wanted
    → kept_at answers (place_of group wanted) ≡ None
    → HasNoPlan (IsMember q) q group wanted
none_found q props is_props answers group wanted bound below answered known fits at =
    none_case q answers group wanted (all_answered q props is_props answers group wanted bound below answered known
    fits) at
