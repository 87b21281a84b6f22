-- The sets stand in their list by orders.
use Rattle.std.proofs.Common.{◌≡◌, ◌<◌, ℕ, zero, suc, List, [], Some, inl, refl, length, arith}
use Rattle.std.specs.Bool.{⊤}
use Rattle.std.proofs.Math.ListN.{get_or-eq_default}
use Rattle.request_props.specs.Ends.{IsGivenBy}
use Rattle.request_props.specs.Numbered.{order_among, order_of, orders_of}
use Rattle.request_props.proofs.PredicateEnds.{ends_same}
use Rattle.request_props.proofs.ListsOfEnds.{ends_found}
use Rattle.request_props.proofs.props.Props.ends_giving.Goals as goal

-- past the last order there is the empty one
order_past : (orders : List (List ℕ)) (number : ℕ) → length orders < number → order_among orders number ≡ []
order_past orders zero past = refl
order_past orders (suc place) past = get_or-eq_default orders [] (omega arith)

pub returns-in-Some : goal.returns-in-Some
returns-in-Some c =
    let at = c.as_slice.ensures in
    let in_box = c.deref.ensures in
    let same : c.as_slice.result.now ≡ c.args.self.now.equalities.value.of_orders = cc in
    ends_found c.args.query.now _ _ _ _ same c.requires.equalities.of_orders c.args.order (Some c.in-Some.ends)
    c.in-Some.ensures.found

-- past the last order it is the empty one, which each column gives
pub returns-in-None : goal.returns-in-None
returns-in-None c =
    let q = c.args.query.now in
    let at = c.as_slice.ensures in
    let in_box = c.deref.ensures in
    let same : c.as_slice.result.now ≡ c.args.self.now.equalities.value.of_orders = cc in
    let past : length (orders_of q) < c.args.order =
    omega (arith, c.requires.equalities.of_orders.count, rw same at c.in-None.ensures.none refl) in
    let empty = order_past (orders_of q) c.args.order past in
    ends_same q (λ column. ⊤) (IsGivenBy (order_of q c.args.order)) c.found_ends.result
    (λ column. (λ all. inl empty, λ given. tt)) c.found_ends.ensures
