use Rattle.std.proofs.Common.{sym, ◌∙◌, ◌≡◌, subst}
use Rattle.std.proofs.lemmas.Bool.{false≢true}
use Rattle.query_core.specs.Expressions.{FallsInto}
use Rattle.query_core.proofs.Splitting.{right_one, rest_disjoint}
use Rattle.query_core.proofs.query.Query.right_side.Goals as goal
use Rattle.query_core.proofs.query.Query.right_side.Goals.{else-union-set-via-then-union-set+then-is_side+else-is_side-2}
use Rattle.query_core.proofs.query.Query.right_side.Goals.{else-union-set-via-then-union-set+else-is_side}
use Rattle.query_core.proofs.query.Query.right_side.Goals.{else-union-set-via-else-union-set}

pub returns-then-is_side-2 : goal.returns-then-is_side-2
returns-then-is_side-2 c =
    let one = c.is_side.ensures.0 c.if-is_side.true in
    let other = c.is_side-then-is_side.ensures.0 c.if-is_side-2.true in
    record {
      whole = sym c.union.ensures.number ∙ c.if-union-set.true;
      disjoint = rest_disjoint c.args.set c.args.left c.difference-right.result c.difference-right.ensures;
      left = one.1;
      right = other.1;
      some_left = one.0;
      some_right = other.0;
    }

-- the rest is the only other side, and it isn't one
pub returns-else-union-set : goal.returns-else-union-set
returns-else-union-set c b falls =
    let rest : b ≡ c.difference-right.result =
    right_one c.args.self.now c.args.set c.args.left b _ falls c.difference-right.ensures in
    let own : FallsInto c.args.self.now c.args.set c.args.left c.difference-right.result =
    subst (FallsInto c.args.self.now c.args.set c.args.left) rest falls in
    elim c.else-union-set.branch [
      | else-union-set-via-then-union-set+then-is_side+else-is_side-2 w ↦
          false≢true (sym w.if-is_side-2.false ∙ w.is_side-then-is_side.ensures.1 (own.some_right, own.right))
      | else-union-set-via-then-union-set+else-is_side w ↦
          false≢true (sym w.if-is_side.false ∙ w.is_side.ensures.1 (own.some_left, own.left))
      | else-union-set-via-else-union-set w ↦ w.if-union-set.false (c.union.ensures.number ∙ own.whole)
    ]
