-- The node is the only one that may be meant, and its plan is made where it may stand there.
use Rattle.std.proofs.Common.{◌≤◌, length, refl, sym, ap, ◌∙◌, subst, arith}
use Rattle.std.proofs.lemmas.Bool.{false≢true}
use Rattle.plan_space.specs.Gives.{kid_under}
use Rattle.plan_tree.specs.Seen.{kids_seen}
use Rattle.plan_reading.specs.Named.{named_of}
use Rattle.plan_reading.specs.NodeOver.{node_over}
use Rattle.text_check.specs.Grown.{MayStand, kids_list, tree_over}
use Rattle.text_check.proofs.LineBlocks.{as_many, grown_trees}
use Rattle.text_check.proofs.GrownKids.{grown_kids_are, kids_few}
use Rattle.text_check.proofs.InRange.{node_range}
use Rattle.text_check.proofs.Trees.{kid_of_tree_over, may_stand, stands_over}
use Rattle.text_check.proofs.grow.over.Goals as goal

-- a plan that stands there has the node at its root, which may then stand there
pub returns-then-not-may_stand : goal.returns-then-not-may_stand
returns-then-not-may_stand c = λ trees are t is.
    let q = c.args.query.now in
    let line = c.args.line in
    let kids = c.kids-below.ensures ∙ grown_kids_are q (kids_list c.args.kids) trees are in
    let may = may_stand q (c.nodes_are_meant.ensures.meant q) line trees t is in
    let back = subst (λ ks. MayStand q line.level (node_over line.node ks) ks) (sym kids) may in
    let own = subst (λ n. MayStand q line.level n (kids_seen c.kids-below.result)) (sym c.node_over-kind.ensures.node) back in
    false≢true (sym c.if-not-may_stand.true ∙ c.may_stand.ensures.1 own)

pub make-requires : goal.make-requires
make-requires c =
    let may = c.may_stand.ensures.0 c.if-not-may_stand.false in
    node_range c.args.query.now c.requires.props.few_lists c.requires.props.few_orders
    (c.candidates_are_known.ensures.packed c.args.query.now) c.node_over-kind.result may.kind c.node_over-kind.ensures.mode

pub returns : goal.returns
returns c = λ trees are.
    let q = c.args.query.now in
    let line = c.args.line in
    let node = c.node_over-kind.result in
    let taken = kids_list c.args.kids in
    let kids = c.kids-below.ensures ∙ grown_kids_are q taken trees are in
    let may = c.may_stand.ensures.0 c.if-not-may_stand.false in
    let may_at = subst (λ ks. MayStand q line.level node ks) kids may in
    let named = ap named_of c.node_over-kind.ensures.node
    ∙ c.nodes_are_meant.ensures.kept q line.node (kids_seen c.kids-below.result)
    (record { few_lists = c.requires.props.few_lists; few_orders = c.requires.props.few_orders }) c.requires.form in
    let many = as_many q taken trees are in
    let two = kids_few c.args.kids in
    let few : length trees ≤ 2 = omega (arith, many, two) in
    let stands = stands_over q line node trees few (grown_trees q taken trees are) named may_at in
    record {
      tree = tree_over node trees;
      stands = stands;
      is = record {
        is_tree = stands.is_tree;
        spells = c.in_ok-plan.ensures q node trees c.make.ensures are;
        kid = c.seen_above-kid.ensures ∙ ap (kid_under q node) kids ∙ sym (kid_of_tree_over q node trees few);
      };
      level = refl;
    }
