use Rattle.std.proofs.Common.{◌≡◌, ◌++◌, take}
use Rattle.std.specs.Prelude.{string_bytes}
use Rattle.plan_lines.specs.Text.{other_outputs_text}
use Rattle.plan_lines.proofs.section.push_outputs.Given as goal

-- the texts of the items before this one were added
abbrev pub invariant-loop-out : goal.invariant-loop-out
invariant-loop-out l = string_bytes l.text ≡ string_bytes l.fn.text ++ other_outputs_text l.query
    (take l.out-index l.output)
