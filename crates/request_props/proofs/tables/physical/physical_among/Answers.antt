use Rattle.std.proofs.Common.{rules, ◌≡◌, [], subst, sym, arith}
use Rattle.request_props.proofs.PhysicalLists.{AreFoundBelow, none_found, found_more, all_physical}
use Rattle.request_props.proofs.tables.physical.physical_among.Goals as goal

pub loop-place-init : goal.loop-place-init
loop-place-init c =
    let q = c.args.query.now in
    let empty : c.of-found.result ≡ [] = search rules in
    subst (AreFoundBelow q c.args.group c.args.words.now 0) (sym empty) (none_found q c.args.group c.args.words.now)

-- each word is that of a candidate
pub push_physical-requires : goal.push_physical-requires
push_physical-requires c =
    let (e, candidate, of_group, number) = c.requires.sound c.loop-place.place 0 c.loop-place-test.true in
    (e, record { packed = c.candidates_are_known.ensures.packed c.args.query.now e candidate; number = number })

pub loop-place-preserved : goal.loop-place-preserved
loop-place-preserved c =
    let q = c.args.query.now in
    found_more q c.args.group c.args.words.now c.requires (c.candidates_are_known.ensures.packed q)
    c.expressions_are_one.ensures.expressions c.loop-place.place (omega arith)
    c.loop-place.found c.loop-place.invariant c.push_physical.new.found c.in_ok-push_physical.ensures

pub returns : goal.returns
returns c = all_physical c.args.query.now c.args.group c.args.words.now c.requires c.loop-place.place c.loop-place.found
    c.loop-place.invariant (omega arith)
