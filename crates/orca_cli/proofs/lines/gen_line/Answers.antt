use Rattle.std.proofs.Common.{◌≡◌, IfOk, subst}
use Rattle.orca_cli.specs.Sections.{gen_words}
use Rattle.orca_cli.proofs.lines.gen_line.Goals as goal

-- the word is that of the shape
pub returns : goal.returns
returns c = subst (λ s. IfOk c.line_with.result
    (λ line. line.items ≡ gen_words c.args.input.number c.args.input.tables s)) c.shape_name-shape.ensures
    c.line_with.ensures
