-- behind the columns of the predicates before this one come its own, if it equates two
use Rattle.std.proofs.Common.{◌<◌, ◌∙◌, ap, length, rules, sym}
use Rattle.planner.proofs.Sides.{no_columns, two_columns}
use Rattle.planner.proofs.columns.join_columns.Goals.{in-Some+in_ok-push+in_ok-push-2, in_default}
use Rattle.planner.proofs.columns.join_columns.Goals as goal

pub loop-pred-preserved : goal.loop-pred-preserved
loop-pred-preserved c =
    let q = c.args.query.now in
    let left = c.args.left in
    let right = c.args.right in
    let k = c.loop-pred.pred in
    let within : k < length q.preds = search rules in
    elim c.match-crossing_groups.branch [
      | in-Some+in_ok-push+in_ok-push-2 w ↦
          ap (λ v. v.items) w.numbers-is
          ∙ two_columns q left right k c.loop-pred.numbers.items w.push.new.self.items w.push-in-Some.new.self.items
          w.in-Some.a w.in-Some.b within (sym c.crossing_groups.ensures ∙ w.in-Some.is) c.loop-pred.invariant
          w.in_ok-push.ensures.items w.in_ok-push-2.ensures.items
      | in_default w ↦
          ap (λ v. v.items) w.numbers-is
          ∙ no_columns q left right k c.loop-pred.numbers.items within (sym c.crossing_groups.ensures ∙ w.in_default.is)
          c.loop-pred.invariant
    ]
