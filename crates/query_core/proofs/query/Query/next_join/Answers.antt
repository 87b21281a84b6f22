use Rattle.std.proofs.Common.{arith}
use Rattle.query_core.specs.Finding.{left_of, IsJoined}
use Rattle.query_core.specs.declared.words.KeyParts.TheVariants.{Join}
use Rattle.query_core.proofs.GroupLemmas.{group_in_range}
use Rattle.query_core.proofs.Joins.{left_few}
use Rattle.query_core.proofs.Least.{none_yet, finds_more, finds_all}
use Rattle.query_core.proofs.query.Query.next_join.Goals as goal

pub loop-left-init : goal.loop-left-init
loop-left-init c = none_yet (IsJoined c.args.self.now c.args.set) left_of c.args.bound

pub loop-left-preserved : goal.loop-left-preserved
loop-left-preserved c =
    finds_more (IsJoined c.args.self.now c.args.set) left_of c.args.bound c.loop-left.left c.loop-left.next
    c.join_from.result c.sooner-next.result c.sooner-next.ensures c.loop-left.invariant c.join_from.ensures

pub returns : goal.returns
returns c =
    let q = c.args.self.now in
    let set = c.args.set in
    finds_all (IsJoined q set) left_of c.args.bound c.loop-left.left c.loop-left.next
    (λ e joined. omega (arith, left_few q set (group_in_range q (Join set) c.requires) e joined)) c.loop-left.invariant
