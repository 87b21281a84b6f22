use Rattle.std.proofs.Common.{◌∙◌, refl, sym}
use Rattle.std.proofs.lemmas.Bool.{false≢true}
use Rattle.goal_children.proofs.members.serve_by.Goals as goal

-- some mode serves
pub returns-then-may_serve : goal.returns-then-may_serve
returns-then-may_serve c = (refl, c.may_serve.ensures.0 c.if-may_serve.true)

-- or none does
pub returns-else-may_serve : goal.returns-else-may_serve
returns-else-may_serve c = λ mode serves. false≢true (sym c.if-may_serve.false ∙ c.may_serve.ensures.1 (mode, serves))
