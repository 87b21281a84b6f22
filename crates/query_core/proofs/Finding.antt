-- The next expression of a group: what a group can hold, over which children, and in which order.
use Rattle.std.proofs.Common.{◌≡◌, ℕ, ◌<◌, ◌≤◌, Option, None, Some, refl, ap, sym, subst, ◌∙◌, ◌↔◌}
use Rattle.std.specs.Prelude.{MatchOption}
use Rattle.query_core.specs.Keys.{IsGroup}
use Rattle.query_core.specs.Expressions.{fields, fields_of, children_of, word_of, HasShape, IsCandidate, IsPacked}
use Rattle.query_core.specs.Expressions.{IsChildrenOf}
use Rattle.query_core.specs.Candidates.{IsAfter, IsNext, IsLast}
use Rattle.query_core.specs.Finding.{expr, operator_number, index_of, IsHeldBy, IsOver, IsMadeOf, IsAt}
use Rattle.query_core.specs.Finding.{FindsFrom}
use Rattle.query_core.specs.declared.query.Query.{Query}
use Rattle.query_core.specs.declared.words.Expr.{Expr}
use Rattle.query_core.specs.declared.words.KeyParts.{KeyParts}
use Rattle.query_core.specs.declared.expressions.Children.{Children}
use Rattle.query_core.specs.declared.expressions.Fields.{Fields}
use Rattle.query_core.specs.declared.expressions.Operator.{Operator}
use Rattle.query_core.specs.declared.expressions.ExprParts.{ExprParts}
use Rattle.query_core.proofs.CandidateLemmas.{candidate_packed}
use Rattle.query_core.proofs.ExpressionLemmas.{fields_same, operator_one, number_ordered, index_ordered}
use Rattle.query_core.proofs.Implementations.{shape_children}
use Rattle.query_core.proofs.Least.{finds_as}

module _ (q : Query) (group : KeyParts) where
  -- what a group can hold is a candidate of that group, and it holds nothing else
  pub candidate_held : (e : ExprParts) → IsCandidate q e → e.group ≡ group → IsHeldBy q group e
  candidate_held e candidate same =
      (same, subst (λ (g : KeyParts). HasShape q g e.operator) same candidate.shape)

  module _ (known : IsGroup q group) where
    pub held_candidate : (e : ExprParts) → IsHeldBy q group e → IsCandidate q e
    held_candidate e (same, shape) = record {
      known = subst (IsGroup q) (sym same) known;
      shape = subst (λ (g : KeyParts). HasShape q g e.operator) (sym same) shape;
    }

    -- its parts fit a word
    pub held_packed : (e : ExprParts) → IsHeldBy q group e → IsPacked e
    held_packed e held = candidate_packed q e (held_candidate e held)

    -- the words of what a group can hold stand in the order of the operators' numbers
    pub numbers_rise : (children : Children) (e f : ExprParts) → IsOver q group children e → IsOver q group children f
        → operator_number e < operator_number f → word_of e < word_of f
    numbers_rise children e f (held, over) (other, other_over) less =
        number_ordered e f (held_packed e held) (held.0 ∙ sym other.0) less

    -- and those of one number in the order of their indexes
    pub indexes_rise : (children : Children) (number : ℕ) (e f : ExprParts)
        → IsAt (IsOver q group children) operator_number number e
        → IsAt (IsOver q group children) operator_number number f
        → index_of e < index_of f → word_of e < word_of f
    indexes_rise children number e f ((held, over), is) ((other, other_over), other_is) less =
        index_ordered e f (held_packed e held) (held.0 ∙ sym other.0) (is ∙ sym other_is) less

    -- the least that the group can hold from the bound on is the next candidate, where the words from the bound on are
    -- those after the one before
    pub next_is : (before : Option Expr) (bound : ℕ) (found : Option Expr)
        → ((w : ℕ) → (bound ≤ w) ↔ IsAfter before w) → FindsFrom (IsHeldBy q group) bound found
        → MatchOption found (IsLast q group before) (λ next. IsNext q group before next.0)
    next_is before bound None after finds = λ w (e, candidate, same, number) later.
        finds e (candidate_held e candidate same) (subst (λ x. bound ≤ x) (sym number) ((after w).1 later))
    next_is before bound (Some found) after finds =
        let (there, held, word) = finds.there in
        record {
          candidate = (there, held_candidate there held, held.0, word);
          after = (after found.0).0 finds.from;
          least = λ w (e, candidate, same, number) later.
              subst (λ x. found.0 ≤ x) number (finds.least e (candidate_held e candidate same)
              (subst (λ x. bound ≤ x) (sym number) ((after w).1 later)));
        }

  -- what is found over all groups on which its operators may stand is all that the group can hold
  pub finds_held : (Kind : ExprParts → Type 0) (bound : ℕ) (found : Option Expr)
      → ((e : ExprParts) → Kind e → IsHeldBy q group e)
      → ((e : ExprParts) → IsHeldBy q group e → IsChildrenOf q group (children_of e.operator) → Kind e)
      → FindsFrom Kind bound found → FindsFrom (IsHeldBy q group) bound found
  finds_held Kind bound found to from =
      finds_as Kind (IsHeldBy q group) bound found to
      (λ e held. from e held (shape_children q group e.operator held.1))

  -- the one expression of an operator
  pub finds_made : (f : Fields) (o : Operator) (bound : ℕ) (found : Option Expr) → fields_of o ≡ f
      → HasShape q group o → FindsFrom (λ e. e ≡ expr group o) bound found → FindsFrom (IsMadeOf q group f) bound found
  finds_made f o bound found is shape =
      finds_as (λ e. e ≡ expr group o) (IsMadeOf q group f) bound found
      (λ e same. subst (IsMadeOf q group f) (sym same) ((refl, shape), is))
      (λ e ((same, held), of_fields).
      ap (λ (g : KeyParts). expr g e.operator) same
      ∙ ap (expr group) (operator_one e.operator o (of_fields ∙ sym is)))

  -- the same by number and index
  pub finds_numbered : (children : Children) (number index bound : ℕ) (found : Option Expr)
      → FindsFrom (IsMadeOf q group (fields number index children)) bound found
      → FindsFrom (IsAt (IsAt (IsOver q group children) operator_number number) index_of index) bound found
  finds_numbered children number index bound found =
      finds_as (IsMadeOf q group (fields number index children))
      (IsAt (IsAt (IsOver q group children) operator_number number) index_of index) bound found
      (λ e (held, is). (
        ((held, ap (λ (f : Fields). f.children) is), ap (λ (f : Fields). f.number) is),
        ap (λ (f : Fields). f.index) is,
      ))
      (λ e (((held, over), number_is), index_is).
      (held, fields_same (fields_of e.operator) (fields number index children) number_is index_is over))
