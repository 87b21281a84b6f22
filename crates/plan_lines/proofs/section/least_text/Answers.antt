use Rattle.std.proofs.Common.{◌≡◌, ◌++◌, List, ℕ, ap, ◌∙◌, append_assoc, rules}
use Rattle.std.specs.List.{concat}
use Rattle.plan_lines.specs.Text.{cost_line, output_line, plan_lines}
use Rattle.plan_lines.proofs.Groups.{valid_groups}
use Rattle.plan_lines.proofs.section.least_text.Goals as goal

-- the lines of the nodes come behind the first two
pub returns : goal.returns
returns c = λ tree spells valid cost.
    let q = c.args.query.now in
    let has = valid_groups q (c.members_are_candidates.ensures q) tree valid in
    let lines : List ℕ = concat (plan_lines q 0 tree) in
    let text = c.in_ok-text.text.items in
    let added : c.extend_from_slice.new.self.items ≡ text ++ c.in_ok-lines.lines.items = search rules in
    added ∙ ap (λ rest. text ++ rest) (c.in_ok-lines.ensures tree spells has)
    ∙ ap (λ front. front ++ lines) c.in_ok-text.ensures
    ∙ append_assoc (cost_line c.args.cost) (output_line q) lines
    ∙ ap (λ n. cost_line n ++ (output_line q ++ lines)) cost
