use Rattle.std.proofs.Common.{◌∙◌, [], ◌∷◌, ◌++◌, refl, arith}
use Rattle.std.proofs.lemmas.List.{length-append}
use Rattle.goal_space.specs.Words.{IsGoalInRange}
use Rattle.goal_space.specs.declared.goals.GoalKind.{GoalKind}
use Rattle.goal_children.specs.Children.{IsChildIn}
use Rattle.goal_children.proofs.Listing.{up_to_none, up_to_next, below_next, all_up_to}
use Rattle.goal_children.proofs.children.nth_child.Goals as goal

pub children-init : goal.children-init
children-init c = record {
  few = omega arith;
  passed = record {
    children = [];
    are = up_to_none c.args.memo.query.now c.args.memo.members.now c.args.goal;
    so_many = refl;
  };
}

-- one more was passed
pub children-preserved : goal.children-preserved
children-preserved c =
    let q = c.args.memo.query.now in
    let words = c.args.memo.members.now in
    let passed = c.children.invariant.passed in
    let next = c.in-Some.next in
    let in_range : (child : GoalKind) → IsChildIn q words c.args.goal child → IsGoalInRange child =
    λ child is. c.children_are_over_the_query.ensures.words q c.requires.memo.collected.few_lists
    c.requires.memo.collected.few_orders child
    (c.children_are_over_the_query.ensures.children q words c.args.goal child c.requires.goal is) in
    record {
      few = omega (arith, c.children.invariant.few, c.if-passed-n.false);
      passed = record {
        children = passed.children ++ next ∷ [];
        are = up_to_next q words c.args.goal c.children.after passed.children next c.word-in-Some.result
            c.goal_kinds_are_one.ensures.one in_range c.word-in-Some.ensures.number
            passed.are c.in-Some.ensures.next;
        so_many = length-append passed.children (next ∷ []) ∙ omega (arith, passed.so_many);
      };
    }

-- those that were passed come before it
pub returns-then-passed-n : goal.returns-then-passed-n
returns-then-passed-n c =
    let passed = c.children.invariant.passed in
    record {
      child = c.in-Some.next;
      is_child = c.in-Some.ensures.next.is_child;
      number = c.word.ensures.number;
      before = passed.children;
      are_before = below_next c.args.memo.query.now c.args.memo.members.now c.args.goal c.children.after passed.children
          c.in-Some.next passed.are c.in-Some.ensures.next;
      so_many = passed.so_many ∙ c.if-passed-n.true;
    }

-- those that were passed are all
pub returns : goal.returns
returns c =
    let passed = c.children.invariant.passed in
    record {
      children = passed.children;
      are_children = all_up_to c.args.memo.query.now c.args.memo.members.now c.args.goal c.children.after
          passed.children passed.are c.in_default.ensures.next;
      few = omega (arith, c.children.invariant.few, passed.so_many);
    }
