-- the lines were added to none, the last one first
use Rattle.std.proofs.Common.{◌≡◌, ◌++◌, List, ap, ◌∙◌, arith, drop, length, reverse, take}
use Rattle.std.proofs.lemmas.Grind.{common_steps}
use Rattle.std.proofs.lemmas.List.{reverse-reverse}
use Rattle.text_check.specs.OwnLines.{own_lines}
use Rattle.text_check.specs.declared.own.OwnLine.{OwnLine}
use Rattle.text_check.proofs.OwnLines.{tree_groups}
use Rattle.text_check.proofs.own.own_lines.Goals as goal

pub returns : goal.returns
returns c = λ tree spells is.
    let q = c.args.query.now in
    let behind : List OwnLine = c.push_lines.new.lines.items in
    let back : List OwnLine = c.reverse.new.self in
    let turned : take c.push_lines.new.lines.len (back ++ drop (length back) behind) ≡ reverse behind =
    grind (arith, common_steps) in
    let added : behind ≡ reverse (own_lines q tree) =
    c.in_ok-push_lines.ensures.added tree spells (tree_groups q tree is)
    ∙ ap (λ (before : List OwnLine). before ++ reverse (own_lines q tree)) c.new-lines.ensures.items in
    turned ∙ ap reverse added ∙ reverse-reverse (own_lines q tree)
