-- Of each kind of join the sets are exact where it can give the order, and else it has no modes.
use Rattle.std.proofs.Common.{◌↔◌, ◌∙◌, ℕ, subst, sym, arith}
use Rattle.std.proofs.lemmas.Bool.{false≢true}
use Rattle.request_props.specs.Ends.{AreCrossingBy}
use Rattle.request_props.specs.NumberSets.{IsInSet}
use Rattle.request_props.specs.declared.number_set.NumberSet.{NumberSet}
use Rattle.plan_space.specs.declared.ways.JoinBy.{JoinBy}
use Rattle.plan_space.specs.declared.ways.JoinBy.TheVariants as joins
use Rattle.plan_tree.specs.ServingModes.{AreJoinModes}
use Rattle.plan_tree.proofs.JoinModes.{HashesTo, hash_modes, loop_modes, merge_modes}
use Rattle.plan_tree.proofs.JoinSuits.{no_modes}
use Rattle.plan_tree.proofs.join_modes.join_modes.Goals as goal

pub returns-in-Hashing : goal.returns-in-Hashing
returns-in-Hashing c =
    let q = c.args.query.now in
    let l = c.args.left in
    let r = c.args.right in
    let w = c.args.wanted in
    let hashes = subst (λ (set : NumberSet). AreCrossingBy q l r (HashesTo q l r w) set) (sym c.placed.ensures.hashed)
    c.hashing-hashed.ensures in
    subst (λ (by : JoinBy). AreJoinModes q by l r w c.placed.result) (sym c.in-Hashing.is)
    (hash_modes q l r w c.below.result c.placed.result c.placed.ensures.plain c.placed.ensures.copied
    (c.below.ensures.all (omega arith)) c.below.ensures.only hashes
    (c.wants_no_order.ensures.0 c.if-wants_no_order.true))

pub returns-in-Hashing-2 : goal.returns-in-Hashing-2
returns-in-Hashing-2 c =
    let q = c.args.query.now in
    let l = c.args.left in
    let r = c.args.right in
    let w = c.args.wanted in
    subst (λ (by : JoinBy). AreJoinModes q by l r w c.none.result) (sym c.in-Hashing-2.is)
    (no_modes q l r w joins.Hashing c.none.result
    (λ suits. false≢true (sym c.if-wants_no_order.false ∙ c.wants_no_order.ensures.1 suits)) c.none.ensures)

pub returns-in-Merging : goal.returns-in-Merging
returns-in-Merging c =
    let q = c.args.query.now in
    let l = c.args.left in
    let r = c.args.right in
    let w = c.args.wanted in
    let placed = c.placed-in-Merging in
    let merging = c.merging-merging in
    let hashing = c.hashing-hashing in
    let both = subst (λ (set : NumberSet). (n : ℕ) → IsInSet set n
    ↔ (IsInSet merging.result n × IsInSet hashing.result n))
    (sym placed.ensures.hashed) c.and-hashed.ensures in
    subst (λ (by : JoinBy). AreJoinModes q by l r w placed.result) (sym c.in-Merging.is)
    (merge_modes q l r w merging.result placed.result placed.ensures.plain placed.ensures.copied hashing.result
    merging.ensures hashing.ensures both)

pub returns-in-Looping : goal.returns-in-Looping
returns-in-Looping c =
    let q = c.args.query.now in
    let l = c.args.left in
    let r = c.args.right in
    let w = c.args.wanted in
    let placed = c.placed-in-Looping in
    let first = c.below-in-Looping in
    let nowhere = subst (λ (set : NumberSet). (n : ℕ) → IsInSet set n → ⊥) (sym placed.ensures.hashed)
    c.none-in-Looping.ensures in
    subst (λ (by : JoinBy). AreJoinModes q by l r w placed.result) (sym c.in-Looping.is)
    (loop_modes q l r w first.result placed.result placed.ensures.plain placed.ensures.copied
    (first.ensures.all (omega arith)) first.ensures.only nowhere (c.order_fits.ensures.0 c.if-order_fits.true))

pub returns-in-Looping-2 : goal.returns-in-Looping-2
returns-in-Looping-2 c =
    let q = c.args.query.now in
    let l = c.args.left in
    let r = c.args.right in
    let w = c.args.wanted in
    subst (λ (by : JoinBy). AreJoinModes q by l r w c.none-in-Looping-2.result) (sym c.in-Looping-2.is)
    (no_modes q l r w joins.Looping c.none-in-Looping-2.result
    (λ suits. false≢true (sym c.if-order_fits.false ∙ c.order_fits.ensures.1 suits)) c.none-in-Looping-2.ensures)
