-- Of two children each has a goal.
use Rattle.std.proofs.Common.{◌≡◌, ◌↔◌, Some, refl, sym, subst, ap, inl, inr, ◌∙◌, ⊎_elim}
use Rattle.query_core.specs.declared.words.KeyParts.{KeyParts}
use Rattle.query_core.specs.declared.expressions.Children.{Children}
use Rattle.query_core.specs.declared.expressions.Children.TheVariants.{Two}
use Rattle.goal_space.specs.Phases.{phase_goal_of_group, IsOfGroups}
use Rattle.goal_space.specs.declared.goals.GoalKind.{GoalKind}
use Rattle.goal_space.specs.declared.phase.Phase.{Phase}
use Rattle.job_turns.specs.Works.{IsOneOf}
use Rattle.job_turns.proofs.expressions.group_goals.Goals as goal

one_of_two : (phase : Phase) (children : Children) (left right : KeyParts) (l r goal : GoalKind)
    → Two left right ≡ children → l ≡ phase_goal_of_group phase left → r ≡ phase_goal_of_group phase right
    → IsOneOf (Some l, Some r) goal ↔ IsOfGroups phase children goal
one_of_two phase children left right l r goal is is_l is_r =
    subst (λ groups. IsOneOf (Some l, Some r) goal ↔ IsOfGroups phase groups goal) is (
      (λ one. ⊎_elim (λ (first : Some l ≡ Some goal). let same : goal ≡ l = cc in (left, inl refl, same ∙ is_l))
          (λ (second : Some r ≡ Some goal). let same : goal ≡ r = cc in (right, inr refl, same ∙ is_r)) one),
      λ (group, child, goal_is). ⊎_elim (λ (at_left : group ≡ left).
          inl (ap Some (is_l ∙ sym (goal_is ∙ ap (phase_goal_of_group phase) at_left))))
          (λ (at_right : group ≡ right). inr (ap Some (is_r ∙ sym (goal_is ∙ ap (phase_goal_of_group phase) at_right))))
          child,
    )

pub returns-in-Two : goal.returns-in-Two
returns-in-Two c = λ goal.
    one_of_two c.args.phase _ c.in-Two.left c.in-Two.right c.of_group-in-Two.result c.of_group-in-Two-2.result goal
    c.in-Two.ensures c.of_group-in-Two.ensures c.of_group-in-Two-2.ensures
