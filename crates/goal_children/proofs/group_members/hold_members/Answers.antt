use Rattle.query_core.specs.Expressions.{IsWord}
use Rattle.goal_children.specs.GroupMembers.{AreExpressionsOf}
use Rattle.goal_children.proofs.HeldMembers.{own_members}
use Rattle.goal_children.proofs.OfMembers.{all_among}
use Rattle.goal_children.proofs.group_members.hold_members.Goals as goal

-- the group's words are among words of expressions
pub put_expressions-requires : goal.put_expressions-requires
put_expressions-requires c = all_among IsWord c.args.words.now c.words_of.result.now c.requires.words
    c.words_of.ensures.part

-- so these are its members
pub returns-in_ok-put_expressions-in_default : goal.returns-in_ok-put_expressions-in_default
returns-in_ok-put_expressions-in_default c =
    let own : AreExpressionsOf c.args.words.now c.args.group c.put_expressions.new.list.items =
    own_members c.args.words.now c.args.group c.words_of.result.now c.put_expressions.new.list.items
    c.in_ok-put_expressions-in_default.ensures.ok
    (record {
      rises = c.words_of.ensures.rises;
      part = c.words_of.ensures.part;
      only = c.words_of.ensures.only;
      all = c.words_of.ensures.members;
    }) in
    record { ok = own; held = own }
