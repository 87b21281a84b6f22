-- Each line goes on from those that were read, and one is due until all bytes are.
use Rattle.std.proofs.Common.{◌≡◌, ◌∙◌, sym, ap, subst, ◌+◌, ◌<◌, ◌⊎◌, not, length, List, Some, None, inl, inr, arith}
use Rattle.std.proofs.Common.{length-append, ◌∷◌, []}
use Rattle.std.proofs.lemmas.Bool.Decides.{nat_tests}
use Rattle.std.proofs.lemmas.List.{nil_from_length}
use Rattle.plan_reading.specs.declared.line.NodeLine.{NodeLine}
use Rattle.plan_reading.proofs.Ways.{IsOnTheWay, way_goes_on, way_ends, way_lacks, is_none}
use Rattle.plan_reading.proofs.text.read_nodes.Goals as goal
use Rattle.plan_reading.proofs.text.read_nodes.Goals.{then-is_none, else-is_none+then-not-is_empty}

pub returns-in_default-clause-fault : goal.returns-in_default-clause-fault
returns-in_default-clause-fault c = λ q texts.
    let due : (c.lines.last ≡ None) ⊎ (0 < length c.lines.rest.now) = elim c.if-is_none.branch [
      | then-is_none w ↦ inl (is_none q c.lines.last (c.is_none.ensures ∙ ap not w.if-is_none.true))
      | else-is_none+then-not-is_empty w ↦
          let some = w.if-not-is_empty.true in let is = w.is_empty.ensures in inr (grind (arith, nat_tests))
    ] in
    way_lacks q c.args.text.now c.lines.nodes.items c.lines.last c.lines.rest.now (c.len.result + 2)
    (c.lines.invariant.way q texts) (c.in_default.ensures.found q texts) due (omega (arith, c.len.ensures))

pub lines-preserved : goal.lines-preserved
lines-preserved c =
    let more = ap length c.in_ok-push.ensures.items ∙ length-append c.lines.nodes.items (c.in-Some.next.line ∷ []) in
    record {
      way = λ q texts. subst
          (λ (items : List NodeLine). IsOnTheWay q c.args.text.now items (Some c.in-Some.next.line.level) c.in-Some.next.rest.now)
          (sym c.in_ok-push.ensures.items)
          (way_goes_on q c.args.text.now c.lines.nodes.items c.lines.last c.lines.rest.now c.in-Some.next.line
          c.in-Some.next.rest.now (c.lines.invariant.way q texts) (c.in-Some.ensures.found q texts));
      few = let shorter = c.in-Some.ensures.shorter in let few = c.lines.invariant.few in omega (arith, more, shorter, few);
    }

pub returns-clause-ok : goal.returns-clause-ok
returns-clause-ok c = λ q texts.
    let none : length c.lines.rest.now ≡ 0 =
    (let some = c.if-not-is_empty.false in let is = c.is_empty.ensures in grind (arith, nat_tests)) in
    way_ends q c.args.text.now c.lines.nodes.items c.lines.last c.lines.rest.now (c.lines.invariant.way q texts)
    (c.is_none.ensures ∙ ap not c.if-is_none.false) (nil_from_length c.lines.rest.now none)
