use Rattle.std.proofs.Common.{◌≤◌, None, Some, refl, subst, arith}
use Rattle.query_core.specs.Finding.{operator_number, index_of, index_count, FindsFrom, IsAt, IsMadeOf, IsOver}
use Rattle.query_core.proofs.CandidateLemmas.{index_below}
use Rattle.query_core.proofs.Finding.{finds_numbered, indexes_rise}
use Rattle.query_core.proofs.Least.{none_yet, finds_more, finds_all, finds_first}
use Rattle.query_core.proofs.query.Query.next_numbered.Goals as goal

pub loop-index-init : goal.loop-index-init
loop-index-init c =
    none_yet (IsAt (IsOver c.args.self.now c.args.group c.args.children) operator_number c.args.number) index_of
    c.args.bound

pub loop-index-preserved : goal.loop-index-preserved
loop-index-preserved c =
    let q = c.args.self.now in
    finds_more (IsAt (IsOver q c.args.group c.args.children) operator_number c.args.number) index_of c.args.bound
    c.loop-index.index None None None refl c.loop-index.invariant
    (finds_numbered q c.args.group c.args.children c.args.number c.loop-index.index c.args.bound None
    (subst (λ f. FindsFrom (IsMadeOf q c.args.group f) c.args.bound None) c.new-fields.ensures c.in_default.ensures))

pub returns-in-Some : goal.returns-in-Some
returns-in-Some c =
    let q = c.args.self.now in
    finds_first (IsAt (IsOver q c.args.group c.args.children) operator_number c.args.number) index_of c.args.bound
    (indexes_rise q c.args.group c.requires.known c.args.children c.args.number) c.loop-index.index c.in-Some.next
    c.loop-index.invariant
    (finds_numbered q c.args.group c.args.children c.args.number c.loop-index.index c.args.bound (Some c.in-Some.next)
    (subst (λ f. FindsFrom (IsMadeOf q c.args.group f) c.args.bound (Some c.in-Some.next)) c.new-fields.ensures
    c.in-Some.ensures))

-- no operator of the group reads an index that the table doesn't have
pub returns : goal.returns
returns c =
    let q = c.args.self.now in
    let group = c.args.group in
    let limit = c.index_limit-index-end in
    let all = subst (λ t. index_count q t ≤ limit.result) c.table_in.ensures limit.ensures.all in
    finds_all (IsAt (IsOver q group c.args.children) operator_number c.args.number) index_of c.args.bound
    c.loop-index.index
    None
    (λ e (((same, shape), over), number).
    index_below q group e.operator c.loop-index.index (omega (arith, all)) (omega (arith, limit.ensures.some)) shape)
    c.loop-index.invariant
