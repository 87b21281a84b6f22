-- The sets are those of the way.
use Rattle.std.proofs.Common.{subst, sym, arith}
use Rattle.plan_space.specs.declared.modes.ModeSets.{ModeSets}
use Rattle.plan_space.specs.declared.ways.Way.{Way}
use Rattle.plan_space.specs.declared.ways.Way.TheVariants.{Reads, Passes, Groups}
use Rattle.plan_tree.specs.Walks.{AreModesOf}
use Rattle.plan_tree.proofs.WayModes.{groups_lined, passes_lined, reads_lined}
use Rattle.plan_tree.proofs.walks.modes_by.Goals as goal

pub returns-in-Reads : goal.returns-in-Reads
returns-in-Reads c =
    let q = c.args.query.now in
    let group = c.args.group in
    let none = c.none-nothing in
    let modes : ModeSets = record { plain = c.reads_of.result; copied = none.result; hashed = none.result } in
    subst (λ (way : Way). AreModesOf q group way c.tried.result) (sym c.in-Reads.is)
    (subst (λ (sets : ModeSets). AreModesOf q group (Reads c.in-Reads.field-0) sets) (sym c.tried.ensures)
    (reads_lined q group modes none.ensures none.ensures c.in-Reads.field-0
    c.reads_of.ensures))

pub returns-in-Passes : goal.returns-in-Passes
returns-in-Passes c =
    let q = c.args.query.now in
    let group = c.args.group in
    let first = c.below-first in
    let none = c.none-nothing in
    let modes : ModeSets = record { plain = first.result; copied = none.result; hashed = none.result } in
    subst (λ (way : Way). AreModesOf q group way c.tried-in-Passes.result) (sym c.in-Passes.is)
    (subst (λ (sets : ModeSets). AreModesOf q group (Passes c.in-Passes.field-0 c.in-Passes.field-1) sets)
    (sym c.tried-in-Passes.ensures)
    (passes_lined q group modes none.ensures none.ensures c.in-Passes.field-0 c.in-Passes.field-1
    (λ n. (first.ensures.only n, first.ensures.all (omega arith) n))))

pub returns-in-Joins : goal.returns-in-Joins
returns-in-Joins c =
    subst (λ (way : Way). AreModesOf c.args.query.now c.args.group way c.modes_joining.result) (sym c.in-Joins.is)
    (c.modes_joining.ensures c.args.group)

pub returns-in-Groups : goal.returns-in-Groups
returns-in-Groups c =
    let q = c.args.query.now in
    let group = c.args.group in
    let first = c.below-first in
    let none = c.none-nothing in
    let modes : ModeSets = record { plain = first.result; copied = none.result; hashed = c.all_lists.result } in
    subst (λ (way : Way). AreModesOf q group way c.tried-in-Groups.result) (sym c.in-Groups.is)
    (subst (λ (sets : ModeSets). AreModesOf q group (Groups c.in-Groups.field-0 c.in-Groups.field-1) sets)
    (sym c.tried-in-Groups.ensures)
    (groups_lined q group modes c.in-Groups.field-0 c.in-Groups.field-1
    (λ n. (first.ensures.only n, first.ensures.all (omega arith) n)) none.ensures
    c.all_lists.ensures))
