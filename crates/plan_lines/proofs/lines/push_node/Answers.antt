-- the bytes of the line were added, the last one first
use Rattle.std.proofs.Common.{◌≡◌, ◌++◌, List, ℕ, ap, ◌∙◌, reverse, string_bytes, arith}
use Rattle.std.proofs.lemmas.Grind.{common_steps}
use Rattle.plan_lines.proofs.lines.push_node.Goals as goal

pub returns-clause-added : goal.returns-clause-added
returns-clause-added c = λ depth at kind is own groups.
    let before = c.args.text.now.items in
    let added : c.extend_from_slice.new.self.items ≡ before ++ reverse (string_bytes c.in_ok-line.line) =
    grind (arith, common_steps) in
    added ∙ ap (λ (line : List ℕ). before ++ reverse line) (c.in_ok-line.ensures kind is depth at own groups)
