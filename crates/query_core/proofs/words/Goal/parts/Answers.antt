use Rattle.std.proofs.Common.{◌≡◌, ap, sym, ◌∙◌, arith}
use Rattle.query_core.specs.Goals.{goal_fields}
use Rattle.query_core.proofs.GoalLemmas.{fields_read}
use Rattle.query_core.proofs.words.Goal.parts.Goals as goal
use Rattle.query_core.proofs.words.Goal.parts.Goals.{else-fits-via-then-fits+else-make-self, else-fits-via-else-fits}

-- a goal with this word has the word's fields, so they fit, and make the word again
pub returns-else-fits : goal.returns-else-fits
returns-else-fits c parts has =
    let is : c.fields-parts.result ≡ parts = c.fields-parts.ensures ∙ ap goal_fields (sym has.number)
    ∙ fields_read parts has.fits in
    elim c.else-fits.branch [
      | else-fits-via-then-fits+else-make-self w ↦ grind (arith, w.if-make-self, w.make.ensures, has.number, is)
      | else-fits-via-else-fits w ↦ grind (arith, w.if-fits, c.fits.ensures, has.fits, is)
    ]
