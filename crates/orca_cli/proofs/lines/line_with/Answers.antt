use Rattle.std.proofs.Common.{◌≡◌, string_bytes, append_assoc, refl, ◌∙◌}
use Rattle.orca_cli.proofs.lines.line_with.Goals as goal

-- the bytes are those of the line
pub returns : goal.returns
returns c =
    let bytes : c.into_bytes.result.items ≡ string_bytes c.in_ok-line.line = rw c.into_bytes.ensures.value refl in
    simp append_assoc (bytes ∙ c.in_ok-line.ensures.ok)
