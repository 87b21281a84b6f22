-- What is found out of the plan of a text is what is told of the text.
use Rattle.std.proofs.Common.{◌≡◌, ℕ, ◌+◌, ◌<◌, ◌≤◌, List, ◌∷◌, length, Result, Ok, Err, sym, ap, ◌∙◌, subst, arith}
use Rattle.std.proofs.Common.{length-append}
use Rattle.std.specs.List.{All}
use Rattle.std.specs.Prelude.{IfOk, IfErr}
use Rattle.query_core.specs.Expressions.{IsCandidate}
use Rattle.query_core.specs.Keys.{root_of}
use Rattle.query_core.specs.declared.query.Query.{Query}
use Rattle.xform_rules.specs.Closure.{IsMember}
use Rattle.request_props.specs.Numbered.{root_request}
use Rattle.request_props.specs.Satisfied.{Satisfies}
use Rattle.request_props.specs.declared.request.Request.{Request}
use Rattle.plan_space.specs.Cost.{cost_of}
use Rattle.plan_space.specs.Gives.{gives}
use Rattle.plan_space.specs.Least.{Serves}
use Rattle.plan_space.specs.Nodes.{Tree}
use Rattle.plan_space.specs.Valid.{IsValid}
use Rattle.plan_tree.specs.Spells.{Spells}
use Rattle.plan_tree.specs.declared.plan.Plan.{Plan}
use Rattle.plan_check.specs.Kids.{RootHasKids, RootFits}
use Rattle.plan_check.specs.Nodes.{IsNodeOf}
use Rattle.plan_check.specs.Outcome.{most_nodes, IsTooLarge, HasShapeFault, HasKidsFault, HasNeedsFault}
use Rattle.plan_check.specs.Outcome.{IsUnsatisfied as IsPlanUnsatisfied, IsGood}
use Rattle.plan_check.specs.Places.{IsFirstWithout}
use Rattle.plan_check.specs.Preorder.{nodes_of, plans_in}
use Rattle.plan_check.proofs.FirstAndLast.{first_not_all, last_not_all}
use Rattle.plan_check.proofs.OneTree.{NodesAreOne, one_tree}
use Rattle.plan_check.proofs.Trees.{as_many}
use Rattle.plan_reading.specs.Laws.{PlansAreRead, LinesAreSpelled}
use Rattle.plan_reading.specs.declared.line.NodeLine.{NodeLine}
use Rattle.text_check.specs.Blocks.{AreLinesOf}
use Rattle.text_check.specs.Outcome.{HasLines, IsTreeText, IsMemberLine, HasUnfit}
use Rattle.text_check.specs.Outcome.{IsUnsatisfied, AreOwnNumbers, IsNumberAt, HasFault, IsNumberFault, IsOutcome}
use Rattle.text_check.specs.OwnLines.{own_lines}
use Rattle.text_check.specs.declared.own.OwnLine.{OwnLine}
use Rattle.text_check.specs.declared.text_fault.TextFault.{TextFault}
use Rattle.text_check.proofs.Members.{members_valid}
use Rattle.text_check.proofs.PlanNodes.{as_many_spelled, nodes_known, kids_right}
use Rattle.text_check.proofs.Text.{good_text}

-- an element that lacks a fact stands in its list
first_within : {X : Type 0} (Fact : X → Type 0) (list : List X) (place : ℕ) → IsFirstWithout Fact list place
    → place < length list
first_within Fact list place first =
    let parts = ap length first.parts in
    let both = length-append first.before (first.element ∷ first.behind) in
    let at = first.count in
    omega (arith, parts, both, at)

module _ (q : Query) (one : NodesAreOne) (plan : Plan) (t : Tree) (spells : Spells plan t) (lines : List NodeLine)
    (few : length lines ≤ most_nodes) (spelled : AreLinesOf q lines t) where
  -- ---- what the plan's check tells

  same_tree : (other : Tree) → Spells plan other → other ≡ t
  same_tree other also = one_tree one plan other t also spells

  pub few_plans : length (plans_in t) ≤ most_nodes
  few_plans = let many = as_many_spelled 0 lines t spelled.spelled in omega (arith, many, few)

  pub not_large : (nodes : ℕ) → IsTooLarge plan nodes → ⊥
  not_large nodes large =
      let many = large.many in
      let nodes_many = as_many plan t spells in
      let plans_few = few_plans in
      omega (arith, many, nodes_many, plans_few)

  pub not_strange : (node : ℕ) → HasShapeFault q plan node → ⊥
  not_strange node fault =
      first_not_all (IsNodeOf q) (nodes_of plan) node fault.first (nodes_known q plan t spells spelled.is_tree)

  pub not_wrong : (node : ℕ) → HasKidsFault q plan node → ⊥
  not_wrong node fault =
      last_not_all (RootHasKids q) (plans_in fault.tree) node fault.last
      (subst (λ s. All (RootHasKids q) (plans_in s)) (sym (same_tree fault.tree fault.is_tree.spells))
      (kids_right q t spelled.is_tree))

  -- this is the first node that may not stand over its kids
  pub unfit_at : (node : ℕ) → HasNeedsFault q plan node → IsFirstWithout (RootFits q) (plans_in t) node
  unfit_at node fault =
      subst (λ s. IsFirstWithout (RootFits q) (plans_in s) node) (same_tree fault.tree fault.is_tree.spells) fault.first

  pub unfit_small : (node : ℕ) → HasNeedsFault q plan node → node < most_nodes
  unfit_small node fault =
      let within = first_within (RootFits q) (plans_in t) node (unfit_at node fault) in
      let plans_few = few_plans in
      omega (arith, within, plans_few)

  -- the plan is valid, and doesn't give what is asked for
  record IsShort (request : Request) : Type 0 where
    valid : IsValid (IsCandidate q) q t
    unmet : Satisfies q (gives q t) request → ⊥

  short_plan : (request : Request) → IsPlanUnsatisfied q plan request → IsShort request
  short_plan request fault =
      let same = same_tree fault.tree fault.is_tree.spells in
      record {
        valid = subst (λ s. IsValid (IsCandidate q) q s) same fault.valid;
        unmet = subst (λ s. Satisfies q (gives q s) request → ⊥) same fault.unmet;
      }

  -- or it is, gives that, and has this cost
  pub record IsServed (cost : ℕ) : Type 0 where
    pub serves : Serves (IsMember q) q (root_of q) (root_request q) t
    pub cost_is : cost ≡ cost_of q t

  module _ (members : All (IsMemberLine q) (own_lines q t)) (asked : Request) (is_root : asked ≡ root_request q) where
    pub served : (cost : ℕ) → IsGood q plan asked cost → IsServed cost
    served cost good =
        let same = same_tree good.tree good.is_tree.spells in
        record {
          serves = record {
            valid = members_valid q t (subst (λ s. IsValid (IsCandidate q) q s) same good.valid) members;
            of_group = spelled.of_root;
            satisfies = subst (λ r. Satisfies q (gives q t) r) is_root
                (subst (λ s. Satisfies q (gives q s) asked) same good.satisfies);
          };
          cost_is = good.costs ∙ ap (cost_of q) same;
        }

    -- ---- so it is told of the text

    module _ (text : List ℕ) (cost : ℕ) (has : HasLines q text cost lines) where
      is_text : IsTreeText q text cost lines t
      is_text = record { has_lines = has; few = few; spelled = spelled }

      pub told_unfit : (node line : ℕ) → HasNeedsFault q plan node → line ≡ 2 + node → HasUnfit q text line
      told_unfit node line fault at = record {
        cost = cost;
        lines = lines;
        tree = t;
        is_text = is_text;
        members = members;
        first = record { place = node; line_is = omega (arith, at); first = unfit_at node fault };
      }

      pub told_unmet : IsPlanUnsatisfied q plan asked → IsUnsatisfied q text
      told_unmet fault =
          let short = short_plan asked fault in
          record {
            cost = cost;
            lines = lines;
            tree = t;
            is_text = is_text;
            valid = members_valid q t short.valid members;
            unmet = subst (λ r. Satisfies q (gives q t) r → ⊥) is_root short.unmet;
          }

      told_number : (total : ℕ) (fault : TextFault) → IsServed total
          → IsNumberFault cost lines total (own_lines q t) fault → HasFault q text fault
      told_number total fault is (line, named, at) =
          subst (HasFault q text) (sym named) (record {
            cost = cost;
            lines = lines;
            tree = t;
            is_text = is_text;
            serves = is.serves;
            at = subst (λ n. IsNumberAt cost lines n (own_lines q t) line) is.cost_is at;
          })

      -- its cost, or the first number that isn't its own
      pub told_numbers : PlansAreRead q → LinesAreSpelled q → (total : ℕ) (own : List OwnLine) → own ≡ own_lines q t
          → IsServed total → (result : Result ℕ TextFault)
          → IfOk result (λ found. (found ≡ total) × AreOwnNumbers cost lines total own)
          → IfErr result (IsNumberFault cost lines total own) → IsOutcome q text result
      told_numbers read outlined total own own_is is (Ok found) numbers fault =
          good_text q read outlined t lines few_plans spelled text cost total found has is.serves is.cost_is numbers.0
          (subst (λ ls. AreOwnNumbers cost lines total ls) own_is numbers.1)
      told_numbers read outlined total own own_is is (Err f) numbers fault =
          told_number total f is (subst (λ ls. IsNumberFault cost lines total ls f) own_is fault)
