-- Once a group is implemented, its members are the candidates that are in cells.
use Rattle.std.proofs.Common.{◌≡◌, ℕ, List, refl}
use Rattle.query_core.specs.Expressions.{expr_of, word_of}
use Rattle.query_core.specs.declared.query.Query.{Query}
use Rattle.query_core.specs.declared.expressions.PhysicalExpr.{PhysicalExpr}
use Rattle.xform_rules.specs.Closure.{IsMember}
use Rattle.board_rule.specs.Looks.{ShowsEntry, asked_by}
use Rattle.goal_space.specs.Words.{goal_word}
use Rattle.goal_space.specs.declared.goals.GoalKind.TheVariants.{Imp}
use Rattle.goal_rules.specs.Meaning.{meaning_of}
use Rattle.job_turns.specs.Requests.{IsImplemented}

-- a member of a group that is implemented is shown in a cell
pub member_shown : (q : Query) (capacity : ℕ) (looks : List (ℕ × ℕ)) (e : PhysicalExpr)
    → IsImplemented q capacity looks e.group
    → IsMember q (expr_of e) → (word : ℕ) → word_of (expr_of e) ≡ word → ShowsEntry (meaning_of q) capacity looks word
member_shown q capacity looks e implemented member word number =
    asked_by (goal_word (Imp e.group)) word implemented.finished (record {
      goal = Imp e.group;
      member = expr_of e;
      names = record { is_goal = implemented.is_goal; number = refl };
      asks = (member, refl);
      number = number;
    })
