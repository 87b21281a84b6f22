-- The sets are those of the kind of join.
use Rattle.std.proofs.Common.{subst, sym, arith}
use Rattle.plan_space.specs.declared.modes.ModeSets.{ModeSets}
use Rattle.plan_space.specs.declared.ways.JoinBy.{JoinBy}
use Rattle.plan_space.specs.declared.ways.JoinBy.TheVariants as joins
use Rattle.plan_space.specs.declared.ways.Way.TheVariants.{Joins}
use Rattle.plan_tree.specs.Walks.{AreModesOf}
use Rattle.plan_tree.proofs.WayModes.{hash_lined, loop_lined, merge_lined}
use Rattle.plan_tree.proofs.walks.modes_joining.Goals as goal

pub returns-in-Hashing : goal.returns-in-Hashing
returns-in-Hashing c = λ group.
    let q = c.args.query.now in
    let l = c.args.left in
    let r = c.args.right in
    let first = c.below-first in
    let crossings = c.crossings-crossings in
    let modes : ModeSets = record { plain = first.result; copied = first.result; hashed = crossings.result } in
    subst (λ (by : JoinBy). AreModesOf q group (Joins by l r) c.tried.result) (sym c.in-Hashing.is)
    (subst (λ (sets : ModeSets). AreModesOf q group (Joins joins.Hashing l r) sets) (sym c.tried.ensures)
    (hash_lined q group modes l r (λ n. (first.ensures.only n, first.ensures.all (omega arith) n))
    (λ n. (first.ensures.only n, first.ensures.all (omega arith) n)) crossings.ensures))

pub returns-in-Merging : goal.returns-in-Merging
returns-in-Merging c = λ group.
    let q = c.args.query.now in
    let l = c.args.left in
    let r = c.args.right in
    let tried = c.tried-in-Merging in
    let crossings = c.crossings-crossings in
    let modes : ModeSets = record {
      plain = crossings.result;
      copied = crossings.result;
      hashed = crossings.result;
    } in
    subst (λ (by : JoinBy). AreModesOf q group (Joins by l r) tried.result) (sym c.in-Merging.is)
    (subst (λ (sets : ModeSets). AreModesOf q group (Joins joins.Merging l r) sets) (sym tried.ensures)
    (merge_lined q group modes l r crossings.ensures crossings.ensures crossings.ensures))

pub returns-in-Looping : goal.returns-in-Looping
returns-in-Looping c = λ group.
    let q = c.args.query.now in
    let l = c.args.left in
    let r = c.args.right in
    let tried = c.tried-in-Looping in
    let first = c.below-first in
    let modes : ModeSets = record { plain = first.result; copied = first.result; hashed = c.none.result } in
    subst (λ (by : JoinBy). AreModesOf q group (Joins by l r) tried.result) (sym c.in-Looping.is)
    (subst (λ (sets : ModeSets). AreModesOf q group (Joins joins.Looping l r) sets) (sym tried.ensures)
    (loop_lined q group modes l r (λ n. (first.ensures.only n, first.ensures.all (omega arith) n))
    (λ n. (first.ensures.only n, first.ensures.all (omega arith) n)) c.none.ensures))
