-- A plan has one outcome.
use Rattle.std.proofs.Common.{◌≡◌, ◌↔◌, ℕ, Result, Ok, Err, refl, sym, ap, subst, ◌∙◌, arith}
use Rattle.std.specs.List.{All}
use Rattle.query_core.specs.Expressions.{IsCandidate}
use Rattle.query_core.specs.declared.query.Query.{Query}
use Rattle.request_props.specs.Satisfied.{Satisfies}
use Rattle.request_props.specs.declared.request.Request.{Request}
use Rattle.plan_space.specs.Nodes.{Tree}
use Rattle.plan_space.specs.Gives.{gives}
use Rattle.plan_space.specs.Valid.{IsValid}
use Rattle.plan_space.specs.Cost.{cost_of}
use Rattle.plan_tree.specs.declared.plan.Plan.{Plan}
use Rattle.plan_check.specs.Places.{IsFirstWithout, IsLastWithout}
use Rattle.plan_check.specs.Preorder.{nodes_of, plans_in}
use Rattle.plan_check.specs.Nodes.{IsNodeOf}
use Rattle.plan_check.specs.Kids.{RootHasKids, RootFits}
use Rattle.plan_check.specs.Outcome.{IsSmall, IsTooLarge, HasShapeFault, IsTreeOf, HasKidsFault, HasNeedsFault}
use Rattle.plan_check.specs.Outcome.{IsUnsatisfied, IsGood, HasFault, IsOutcome}
use Rattle.plan_check.specs.declared.fault.PlanFault.{PlanFault}
use Rattle.plan_check.specs.declared.fault.PlanFault.TheVariants.{TooLarge, Shape, Kids, Needs, Unsatisfied}
use Rattle.plan_check.proofs.FirstAndLast.{first_not_all, last_not_all, first_one, last_one}
use Rattle.plan_check.proofs.OneTree.{NodesAreOne, one_tree}
use Rattle.plan_check.proofs.Validity.{valid_fits, valid_kids}

module _ (one : NodesAreOne) (q : Query) (plan : Plan) (request : Request) where
  -- the plan is one tree
  same_tree : (tree other : Tree) → IsTreeOf q plan tree → IsTreeOf q plan other → tree ≡ other
  same_tree tree other x y = one_tree one plan tree other x.spells y.spells

  -- each fault lacks what those behind it have
  large_not_small : (nodes : ℕ) → IsTooLarge plan nodes → IsSmall plan → ⊥
  large_not_small nodes large small = let many = large.many in omega arith

  shape_not_known : (node : ℕ) (tree : Tree) → HasShapeFault q plan node → IsTreeOf q plan tree → ⊥
  shape_not_known node tree fault is_tree = first_not_all (IsNodeOf q) (nodes_of plan) node fault.first is_tree.known

  kids_not_right : (node : ℕ) (tree : Tree) → HasKidsFault q plan node → IsTreeOf q plan tree
      → All (RootHasKids q) (plans_in tree) → ⊥
  kids_not_right node tree fault is_tree all =
      let same = same_tree tree fault.tree is_tree fault.is_tree in
      last_not_all (RootHasKids q) (plans_in fault.tree) node fault.last
      (subst (λ (t : Tree). All (RootHasKids q) (plans_in t)) same all)

  needs_not_met : (node : ℕ) (tree : Tree) → HasNeedsFault q plan node → IsTreeOf q plan tree
      → IsValid (IsCandidate q) q tree → ⊥
  needs_not_met node tree fault is_tree valid =
      let same = same_tree tree fault.tree is_tree fault.is_tree in
      first_not_all (RootFits q) (plans_in fault.tree) node fault.first
      (subst (λ (t : Tree). All (RootFits q) (plans_in t)) same (valid_fits q tree valid))

  unmet_not_met : (tree : Tree) → IsUnsatisfied q plan request → IsTreeOf q plan tree
      → Satisfies q (gives q tree) request → ⊥
  unmet_not_met tree fault is_tree met =
      fault.unmet (subst (λ (t : Tree). Satisfies q (gives q t) request)
      (same_tree tree fault.tree is_tree fault.is_tree) met)

  -- a fault is told at one node, and there is one cost
  kids_one : (node other : ℕ) → HasKidsFault q plan node → HasKidsFault q plan other → node ≡ other
  kids_one node other x y =
      let same = same_tree x.tree y.tree x.is_tree y.is_tree in
      last_one (RootHasKids q) (plans_in y.tree) node other
      (subst (λ (t : Tree). IsLastWithout (RootHasKids q) (plans_in t) node) same x.last) y.last

  needs_one : (node other : ℕ) → HasNeedsFault q plan node → HasNeedsFault q plan other → node ≡ other
  needs_one node other x y =
      let same = same_tree x.tree y.tree x.is_tree y.is_tree in
      first_one (RootFits q) (plans_in y.tree) node other
      (subst (λ (t : Tree). IsFirstWithout (RootFits q) (plans_in t) node) same x.first) y.first

  cost_one : (cost other : ℕ) → IsGood q plan request cost → IsGood q plan request other → cost ≡ other
  cost_one cost other x y = x.costs ∙ ap (cost_of q) (same_tree x.tree y.tree x.is_tree y.is_tree) ∙ sym y.costs

  -- two faults of one plan are the same
  one_fault : (fault other : PlanFault) → HasFault q plan request fault → HasFault q plan request other → fault ≡ other
  one_fault (TooLarge n) (TooLarge m) x y = ap TooLarge (x.told ∙ sym y.told)
  one_fault (TooLarge n) (Shape m) x y = absurd (large_not_small n x y.small)
  one_fault (TooLarge n) (Kids m) x y = absurd (large_not_small n x y.is_tree.small)
  one_fault (TooLarge n) (Needs m) x y = absurd (large_not_small n x y.is_tree.small)
  one_fault (TooLarge n) Unsatisfied x y = absurd (large_not_small n x y.is_tree.small)
  one_fault (Shape n) (TooLarge m) x y = absurd (large_not_small m y x.small)
  one_fault (Shape n) (Shape m) x y = ap Shape (first_one (IsNodeOf q) (nodes_of plan) n m x.first y.first)
  one_fault (Shape n) (Kids m) x y = absurd (shape_not_known n y.tree x y.is_tree)
  one_fault (Shape n) (Needs m) x y = absurd (shape_not_known n y.tree x y.is_tree)
  one_fault (Shape n) Unsatisfied x y = absurd (shape_not_known n y.tree x y.is_tree)
  one_fault (Kids n) (TooLarge m) x y = absurd (large_not_small m y x.is_tree.small)
  one_fault (Kids n) (Shape m) x y = absurd (shape_not_known m x.tree y x.is_tree)
  one_fault (Kids n) (Kids m) x y = ap Kids (kids_one n m x y)
  one_fault (Kids n) (Needs m) x y = absurd (kids_not_right n y.tree x y.is_tree y.kids)
  one_fault (Kids n) Unsatisfied x y = absurd (kids_not_right n y.tree x y.is_tree (valid_kids q y.tree y.valid))
  one_fault (Needs n) (TooLarge m) x y = absurd (large_not_small m y x.is_tree.small)
  one_fault (Needs n) (Shape m) x y = absurd (shape_not_known m x.tree y x.is_tree)
  one_fault (Needs n) (Kids m) x y = absurd (kids_not_right m x.tree y x.is_tree x.kids)
  one_fault (Needs n) (Needs m) x y = ap Needs (needs_one n m x y)
  one_fault (Needs n) Unsatisfied x y = absurd (needs_not_met n y.tree x y.is_tree y.valid)
  one_fault Unsatisfied (TooLarge m) x y = absurd (large_not_small m y x.is_tree.small)
  one_fault Unsatisfied (Shape m) x y = absurd (shape_not_known m x.tree y x.is_tree)
  one_fault Unsatisfied (Kids m) x y = absurd (kids_not_right m x.tree y x.is_tree (valid_kids q x.tree x.valid))
  one_fault Unsatisfied (Needs m) x y = absurd (needs_not_met m x.tree y x.is_tree x.valid)
  one_fault Unsatisfied Unsatisfied x y = refl

  -- a good plan has no fault
  good_no_fault : (cost : ℕ) (fault : PlanFault) → IsGood q plan request cost → HasFault q plan request fault → ⊥
  good_no_fault cost (TooLarge n) x y = large_not_small n y x.is_tree.small
  good_no_fault cost (Shape n) x y = shape_not_known n x.tree y x.is_tree
  good_no_fault cost (Kids n) x y = kids_not_right n x.tree y x.is_tree (valid_kids q x.tree x.valid)
  good_no_fault cost (Needs n) x y = needs_not_met n x.tree y x.is_tree x.valid
  good_no_fault cost Unsatisfied x y = unmet_not_met x.tree y x.is_tree x.satisfies

  -- so there is one outcome
  one_outcome : (result other : Result ℕ PlanFault) → IsOutcome q plan request result → IsOutcome q plan request other
      → result ≡ other
  one_outcome (Ok cost) (Ok other) x y = ap Ok (cost_one cost other x y)
  one_outcome (Ok cost) (Err fault) x y = absurd (good_no_fault cost fault x y)
  one_outcome (Err fault) (Ok cost) x y = absurd (good_no_fault cost fault y x)
  one_outcome (Err fault) (Err other) x y = ap Err (one_fault fault other x y)

  -- so an answer is given exactly where it is the outcome
  pub is_outcome : (result other : Result ℕ PlanFault) → IsOutcome q plan request result → (result ≡ other)
      ↔ IsOutcome q plan request other
  is_outcome result other is = (
    λ same. subst (λ (r : Result ℕ PlanFault). IsOutcome q plan request r) same is,
    λ also.
        one_outcome result other is also,
  )
