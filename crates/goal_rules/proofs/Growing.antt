-- Each logical member of a group is found by exploration from the group's origin.
use Rattle.std.proofs.Common.{◌≡◌, ℕ, sym, subst, ◌∙◌, inl, inr, IsTrue}
use Rattle.std.specs.Prelude.{Option, None, Some}
use Rattle.query_core.specs.Expressions.{is_logical}
use Rattle.query_core.specs.declared.query.Query.{Query}
use Rattle.query_core.specs.declared.words.KeyParts.{KeyParts}
use Rattle.query_core.specs.declared.expressions.ExprParts.{ExprParts}
use Rattle.xform_rules.specs.Rules.{explores}
use Rattle.xform_rules.specs.Results.{Applies, HasResult}
use Rattle.xform_rules.specs.Closure.{IsMember, root_origin, child_origin, result, bound_result}
use Rattle.xform_rules.specs.declared.rules.Rule.{Rule}
use Rattle.goal_space.specs.Asked.{IsResultOf}
use Rattle.goal_rules.specs.Grown.{LeadsTo, Grown, begins, grows}

module _ (q : Query) (
    applies : (rule : Rule) (e : ExprParts) (bound : Option ExprParts) (n : ℕ) (x : ExprParts)
    → HasResult q rule e bound n x → Applies q rule e
    ) (
    logical : (rule : Rule) (e : ExprParts) (bound : Option ExprParts) (n : ℕ) (x : ExprParts)
    → HasResult q rule e bound n x → IsTrue (is_logical e.operator)
    ) (
    explored : (rule : Rule) (e : ExprParts) (bound : Option ExprParts) (n : ℕ) (x : ExprParts)
    → HasResult q rule e bound n x → is_logical x.operator ≡ explores rule
    ) where
  -- a logical result of a rule that explores is found from the expression
  found_from : (rule : Rule) (e other : ExprParts) (bound : Option ExprParts) (n : ℕ) → HasResult q rule e bound n other
      → IsResultOf q rule e other
      → IsTrue (is_logical other.operator) → Grown q e.group e → Grown q other.group other
  found_from rule e other bound n has is_result is_wanted grown =
      let leads : LeadsTo q e other = record {
        rule = rule;
        exploring = sym (explored rule e bound n other has) ∙ is_wanted;
        applies = applies rule e bound n other has;
        is_result = is_result;
      } in
      subst (λ (g : KeyParts). Grown q g other) (sym has.group) (grows e other grown leads)

  pub grown : (e : ExprParts) → IsMember q e → IsTrue (is_logical e.operator) → Grown q e.group e
  grown e root_origin is_wanted = begins
  grown e (child_origin before group member child) is_wanted = begins
  grown e (result before other rule n member has) is_wanted =
      found_from rule before e None n has (inl (n, has)) is_wanted
      (grown before member (logical rule before None n e has))
  grown e (bound_result before bound other rule n member member_bound has) is_wanted =
      found_from rule before e (Some bound) n has (inr (bound, n, member_bound, has)) is_wanted
      (grown before member (logical rule before (Some bound) n e has))
