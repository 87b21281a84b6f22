-- With these rules on the group holds the join of any two sides into which its tables fall.
use Rattle.std.proofs.Common.{IsSome, sym, subst}
use Rattle.query_core.specs.Expressions.{HasPhysical, IsJoin}
use Rattle.query_core.specs.declared.expressions.Physical.{Physical}
use Rattle.xform_rules.specs.Forms.{physical_in}
use Rattle.xform_rules.specs.Closure.{IsMember}
use Rattle.plan_space.specs.Lines.{operator_line, merge_line}
use Rattle.plan_space.specs.Modes.{mode_at}
use Rattle.job_turns.proofs.JoinsMade.{merge_crosses, hash_member, merge_member, loop_member}
use Rattle.job_turns.proofs.made_joins.is_made.Goals as goal

pub returns-then-makes_all : goal.returns-then-makes_all
returns-then-makes_all c =
    let q = c.args.query.now in
    let g = c.args.e.group in
    let l = c.in-HashJoin.left in
    let r = c.in-HashJoin.right in
    let joins : IsJoin q g l r = (subst (HasPhysical q g) c.in-HashJoin.is c.requires.candidate.shape).0 in
    let on = c.makes_all.ensures c.if-makes_all.true in
    record {
      member = λ equated. subst (λ (o : Physical). IsMember q (physical_in g o)) (sym c.in-HashJoin.is)
          (hash_member q (c.splits_are_complete.ensures.splits q) on.0 g l r c.requires.candidate.known joins on.1
          (c.are_equated.ensures.0 equated));
    }

pub returns-in-MergeJoin : goal.returns-in-MergeJoin
returns-in-MergeJoin c =
    let q = c.args.query.now in
    let g = c.args.e.group in
    let l = c.in-MergeJoin.field-0 in
    let r = c.in-MergeJoin.field-1 in
    let joins : IsJoin q g l r = (subst (HasPhysical q g) c.in-MergeJoin.is c.requires.candidate.shape).0 in
    let mode = mode_at c.requires.has_mode.0 in
    let some : IsSome (merge_line q l r mode) =
    subst (λ (o : Physical). IsSome (operator_line q g o mode)) c.in-MergeJoin.is c.requires.has_mode.1 in
    record {
      member = λ on. subst (λ (o : Physical). IsMember q (physical_in g o)) (sym c.in-MergeJoin.is)
          (merge_member q (c.splits_are_complete.ensures.splits q) (c.makes_all-in-MergeJoin.ensures on).0 g l r
          c.requires.candidate.known joins (c.makes_all-in-MergeJoin.ensures on).1 (merge_crosses q l r mode some));
    }

pub returns-in-LoopJoin : goal.returns-in-LoopJoin
returns-in-LoopJoin c =
    let q = c.args.query.now in
    let g = c.args.e.group in
    let l = c.in-LoopJoin.field-0 in
    let r = c.in-LoopJoin.field-1 in
    let joins : IsJoin q g l r = (subst (HasPhysical q g) c.in-LoopJoin.is c.requires.candidate.shape).0 in
    record {
      member = λ on. subst (λ (o : Physical). IsMember q (physical_in g o)) (sym c.in-LoopJoin.is)
          (loop_member q (c.splits_are_complete.ensures.splits q) (c.makes_all-in-LoopJoin.ensures on).0 g l r
          c.requires.candidate.known joins (c.makes_all-in-LoopJoin.ensures on).1);
    }
