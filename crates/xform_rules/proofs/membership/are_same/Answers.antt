use Rattle.std.proofs.Common.{ap, sym, ◌∙◌}
use Rattle.std.proofs.lemmas.Bool.{eqb-true, eq-eqb}
use Rattle.query_core.specs.Expressions.{word_of}
use Rattle.xform_rules.proofs.membership.are_same.Goals as goal

-- a word is that of one expression
pub returns : goal.returns
returns c =
    let one = c.expressions_are_one.ensures.expressions c.args.e c.args.other c.requires.e c.requires.other in (
      λ yes. one (sym c.make.ensures.number ∙ eqb-true c.make.result.0 c.make-2.result.0 yes ∙ c.make-2.ensures.number),
      λ same. eq-eqb c.make.result.0 c.make-2.result.0 (c.make.ensures.number ∙ ap word_of same
          ∙ sym c.make-2.ensures.number),
    )
