use Rattle.std.proofs.Common.{arith, sym, subst, ap, ◌∙◌, ◌≡◌}
use Rattle.query_core.specs.declared.words.KeyParts.TheVariants.{Join}
use Rattle.query_core.specs.declared.expressions.Children.TheVariants.{Two}
use Rattle.query_core.specs.Keys.{IsGroupInRange, top_of}
use Rattle.query_core.specs.Expressions.{left_number, FallsInto}
use Rattle.query_core.specs.Finding.{left_of, FindsFrom, IsAt, IsJoined, IsOver}
use Rattle.query_core.proofs.GroupLemmas.{group_in_range}
use Rattle.query_core.proofs.Least.{finds_as}
use Rattle.query_core.proofs.Splitting.{set_one, left_within}
use Rattle.query_core.proofs.Joins.{sides_in_range, over_sides, sides_over}
use Rattle.query_core.proofs.query.Query.join_from.Goals as goal

-- no set has a group of this number
pub returns-in_err-a : goal.returns-in_err-a
returns-in_err-a c = rw c.from_residual.ensures (λ e ((held, (a, b, falls, is)), number) above.
    c.in_err-a.ensures a (omega (
      arith,
      left_within c.args.self.now c.args.set a b falls,
      group_in_range c.args.self.now (Join c.args.set) c.requires,
    )) falls.some_left (omega (arith, ap left_number is, number)))

-- the set doesn't fall into the one that has and another
pub returns-in_err-b : goal.returns-in_err-b
returns-in_err-b c = rw c.from_residual-in_err-b.ensures (λ e ((held, (a, b, falls, is)), number) above.
    let q = c.args.self.now in
    let one : a ≡ c.in_ok-a.a = set_one q a c.in_ok-a.a
    (omega (
      arith,
      left_within q c.args.set a b falls,
      group_in_range q (Join c.args.set) c.requires,
    )) c.in_ok-a.ensures.0 (omega (arith, ap left_number is, number, c.in_ok-a.ensures.1)) in
    c.in_err-b.ensures b (subst (λ x. FallsInto q c.args.set x b) one falls))

-- both sides are groups that a query can have
pub next_over-requires-clause-in_range : goal.next_over-requires-clause-in_range
next_over-requires-clause-in_range c =
    let q = c.args.self.now in
    let known = sides_in_range q c.args.set (group_in_range q (Join c.args.set) c.requires) c.in_ok-a.a c.in_ok-b.b
    c.in_ok-b.ensures in
    (subst IsGroupInRange (sym c.top_group.ensures) known.0, subst IsGroupInRange (sym c.top_group-2.ensures) known.1)

-- it falls into these, and into no others of which the left one has this number
pub returns : goal.returns
returns c =
    let q = c.args.self.now in
    let set = c.args.set in
    let small = group_in_range q (Join set) c.requires in
    let a = c.in_ok-a.a in
    let b = c.in_ok-b.b in
    let same : Two c.top_group.result c.top_group-2.result ≡ Two (top_of q a) (top_of q b) =
    ap (λ x. Two x c.top_group-2.result) c.top_group.ensures ∙ ap (Two (top_of q a)) c.top_group-2.ensures in
    finds_as (IsOver q (Join set) (Two (top_of q a) (top_of q b))) (IsAt (IsJoined q set) left_of c.args.left)
    c.args.bound c.next_over.result
    (λ e over. over_sides q set small a b c.args.left e c.in_ok-b.ensures c.in_ok-a.ensures.1 over)
    (λ e joined. sides_over q set small a b c.args.left e c.in_ok-b.ensures c.in_ok-a.ensures.1 joined)
    (subst (λ children. FindsFrom (IsOver q (Join set) children) c.args.bound c.next_over.result) same
    c.next_over.ensures)
