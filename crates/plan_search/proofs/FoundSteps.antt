-- Steps that are found stay found, and where all from all words are found, the words are those of all members.
use Rattle.std.proofs.Common.{◌≡◌, ℕ, ◌<◌, ◌≤◌, List, [], length, get_or, sym, subst, ◌∙◌, arith, inl, inr}
use Rattle.std.specs.Prelude.{slice_index_or, Option, None, Some, ◌+◌, ◌-◌}
use Rattle.std.specs.List.{All, Contains}
use Rattle.std.specs.List.Sorted.{IsStrictlyIncreasing}
use Rattle.std.proofs.lemmas.List.{get_or_default}
use Rattle.std.proofs.lemmas.List.Elements.{All-contains}
use Rattle.query_core.specs.Keys.{root_of}
use Rattle.query_core.specs.Goals.{FitsExpr}
use Rattle.query_core.specs.Expressions.{word_of, children_of, IsChild}
use Rattle.query_core.specs.declared.words.KeyParts.{KeyParts}
use Rattle.query_core.specs.declared.expressions.Children.TheVariants.{Two}
use Rattle.query_core.specs.declared.query.Query.{Query}
use Rattle.query_core.specs.declared.expressions.ExprParts.{ExprParts}
use Rattle.xform_rules.specs.declared.rules.Rule.{Rule}
use Rattle.xform_rules.specs.Forms.{IsLeftSide}
use Rattle.xform_rules.specs.Results.{HasResult}
use Rattle.xform_rules.specs.Closure.{IsMember, root_origin, child_origin, result, bound_result, IsMemberWord}
use Rattle.xform_rules.specs.Closure.{IsClosureOf}
use Rattle.plan_search.specs.Steps.{AreMembers, Grows, GrowsTo, ContainsWordOf, HasOrigin, HasOrigins, HasResultAt}
use Rattle.plan_search.specs.Steps.{HasResultsOf, HasResults, HasBoundResults, HasSteps, AreSteps, AreBoundSteps}
use Rattle.plan_search.specs.Steps.{AreOfEither, AreOthers}
use Rattle.plan_search.proofs.Growing.{Stays, grows_on}

-- ---- what is found stays found

module _ (q : Query) where
  pub result_stays : (e : ExprParts) (bound : Option ExprParts) (rule : Rule) (n : ℕ)
      → Stays q (HasResultAt q e bound rule n)
  result_stays e bound rule n xs ys grows found other has = grows.kept _ (found other has)

  pub results_stay : (e : ExprParts) (bound : Option ExprParts) → Stays q (HasResults q e bound)
  results_stay e bound xs ys grows found rule n other has = grows.kept _ (found rule n other has)

  pub bound_results_stay : (words : List ℕ) (e : ExprParts) → Stays q (HasBoundResults q words e)
  bound_results_stay words e xs ys grows found bound member there rule n other has =
      grows.kept _ (found bound member there rule n other has)

  pub steps_stay : (words : List ℕ) (e : ExprParts) → Stays q (HasSteps q words e)
  steps_stay words e xs ys grows steps = record {
    origins = λ g child. grows.kept _ (steps.origins g child);
    results = results_stay e None xs ys grows steps.results;
    bound_results = bound_results_stay words e xs ys grows steps.bound_results;
  }

  -- the results of the rule at this place are found
  abbrev pub HasResultsAt : ExprParts → Option ExprParts → List Rule → ℕ → List ℕ → Type 0
  HasResultsAt e bound list k found = (rule : Rule) → slice_index_or list k rule ≡ rule
      → HasResultsOf q e bound rule found

  pub results_at_stay : (e : ExprParts) (bound : Option ExprParts) (list : List Rule) (k : ℕ)
      → Stays q (HasResultsAt e bound list k)
  results_at_stay e bound list k xs ys grows found rule is n other has = grows.kept _ (found rule is n other has)

  -- the rule at a place is one, whatever is read where the list ends
  pub results_at : (e : ExprParts) (bound : Option ExprParts) (list : List Rule) (k : ℕ) (default : Rule)
      (xs ys : List ℕ) → k < length list
      → GrowsTo q (HasResultsOf q e bound (slice_index_or list k default)) xs ys
      → GrowsTo q (HasResultsAt e bound list k) xs ys
  results_at e bound list k default xs ys within found = record {
    grows = found.grows;
    holds = λ rule is. subst (λ r. HasResultsOf q e bound r ys) (get_or_default list k default rule within ∙ is)
        found.holds;
  }

  -- ---- the steps of a member

  -- a result of members is a member
  pub member_result : (rule : Rule) (e : ExprParts) (bound : Option ExprParts) (n : ℕ) (other : ExprParts)
      → AreMembers q e bound → HasResult q rule e bound n other
      → IsMember q other
  member_result rule e None n other members has = result e other rule n members.member has
  member_result rule e (Some bound) n other members has =
      bound_result e bound other rule n members.member members.bound_member has

  -- both origins are found, the first from before the second came
  pub two_origins : (e : ExprParts) (xs ys zs : List ℕ) (left right : KeyParts)
      → children_of e.operator ≡ Two left right → GrowsTo q (HasOrigin q left) xs ys
      → GrowsTo q (HasOrigin q right) ys zs → GrowsTo q (HasOrigins q e) xs zs
  two_origins e xs ys zs left right is first second = record {
    grows = grows_on q xs ys zs first.grows second.grows;
    holds = λ g child. elim (subst (λ x. IsChild x g) is child) [
      | inl same ↦ subst (λ x. HasOrigin q x zs) (sym same) (second.grows.kept _ first.holds)
      | inr same ↦ subst (λ x. HasOrigin q x zs) (sym same) second.holds
    ];
  }

  -- the steps of all three kinds are found
  pub all_steps : (e : ExprParts) (words ws xs ys zs : List ℕ) → GrowsTo q (HasOrigins q e) ws xs
      → GrowsTo q (HasResults q e None) xs ys
      → GrowsTo q (HasBoundResults q words e) ys zs → GrowsTo q (HasSteps q words e) ws zs
  all_steps e words ws xs ys zs first second third = record {
    grows = grows_on q ws xs zs first.grows (grows_on q xs ys zs second.grows third.grows);
    holds = record {
      origins = λ g child. third.grows.kept _ (second.grows.kept _ (first.holds g child));
      results = results_stay e None ys zs third.grows second.holds;
      bound_results = third.holds;
    };
  }

  -- ---- the steps from all words

  -- words that are among those of members are such words
  pub part_members : (words new : List ℕ) → All (IsMemberWord q) words → All (Contains words) new
      → All (IsMemberWord q) new
  part_members words new members part k d within =
      All-contains (IsMemberWord q) words (get_or new k d) members (part k d within)

  -- where nothing is done, nothing is missing
  pub none_done : (found : List ℕ) → AreSteps q [] [] found
  none_done found e member (k, within, is) = absurd (omega (arith, within))

  -- a member that was done before has all its steps once those with new members are found
  more_steps : (words done new xs ys : List ℕ) (e : ExprParts) → AreOfEither words done new → Grows q xs ys
      → HasSteps q done e xs → HasBoundResults q new e ys
      → HasSteps q words e ys
  more_steps words done new xs ys e covers grows steps results = record {
    origins = λ g child. grows.kept _ (steps.origins g child);
    results = results_stay e None xs ys grows steps.results;
    bound_results = λ bound member there rule n other has. elim (covers (word_of bound) there) [
      | inl before ↦ grows.kept _ (steps.bound_results bound member before rule n other has)
      | inr fresh ↦ results bound member fresh rule n other has
    ];
  }

  -- what was done before, and what is done from the new words, is all
  pub all_done : (words done new xs ys zs : List ℕ) → AreOthers words done new → AreSteps q done done xs
      → GrowsTo q (AreSteps q words new) xs ys
      → GrowsTo q (AreBoundSteps q new words) ys zs → GrowsTo q (AreSteps q words words) xs zs
  all_done words done new xs ys zs others before fresh bound =
      let grows = grows_on q xs ys zs fresh.grows bound.grows in
      record {
        grows = grows;
        holds = λ e member there. elim (others.covers (word_of e) there) [
          | inl old ↦ more_steps words done new xs zs e others.covers grows (before e member old)
              (bound.holds e member there)
          | inr now ↦ steps_stay words e ys zs bound.grows (fresh.holds e member now)
        ];
      }

  module _ (words : List ℕ) (root : HasOrigin q (root_of q) words) (steps : AreSteps q words words words) where
    -- where all steps from all words are found, all members are
    complete : (e : ExprParts) → IsMember q e → ContainsWordOf words e
    complete e root_origin = root
    complete e (child_origin before group member child) =
        (steps before member (complete before member)).origins group child
    complete e (result before other rule n member has) =
        (steps before member (complete before member)).results rule n e has
    complete e (bound_result before bound other rule n member member_bound has) =
        (steps before member (complete before member)).bound_results bound member_bound (complete bound member_bound)
        rule n e has

  -- so where a pass over the words found adds none, they are those of all members
  pub closed : (words old new : List ℕ) → words ≡ old → GrowsTo q (AreSteps q words words) old new
      → length new ≡ length old → All (IsMemberWord q) old
      → IsStrictlyIncreasing new → HasOrigin q (root_of q) old → IsClosureOf q words
  closed words old new read steps no_longer members ascending root =
      let same : new ≡ words = steps.grows.same (omega (arith, no_longer)) ∙ sym read in
      record {
        ascending = subst IsStrictlyIncreasing same ascending;
        sound = subst (All (IsMemberWord q)) (sym read) members;
        complete = complete words (subst (HasOrigin q (root_of q)) (sym read) root)
            (subst (AreSteps q words words) same steps.holds);
      }

-- a logical join has one left group
pub left_one : (e : ExprParts) (g h : KeyParts) → IsLeftSide e g → IsLeftSide e h → g ≡ h
left_one e g h (right, is) (other, also) = cc

-- ---- that it ends

-- words of members are small
pub all_small : (q : Query) → ((r : Query) → (e : ExprParts) → IsMember r e → FitsExpr (word_of e)) → (xs : List ℕ)
    → All (IsMemberWord q) xs
    → All FitsExpr xs
all_small q small xs members k d within =
    let (e, member, is) = members k d within in
    subst FitsExpr is (small q e member)

-- a longer list leaves less room under a bound
pub longer_smaller : (old new bound : ℕ) → new ≤ bound → old ≤ new → (new ≡ old → ⊥) → bound + 1 - new < bound + 1 - old
longer_smaller old new bound few longer differs = omega (arith, few, longer, differs)
