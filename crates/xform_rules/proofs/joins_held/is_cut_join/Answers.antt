use Rattle.std.proofs.Common.{inl, inr}
use Rattle.std.proofs.lemmas.Bool.{false≢true}
use Rattle.xform_rules.proofs.joins_held.is_cut_join.Goals as goal

-- without a cut there is no such join
pub returns-in-None : goal.returns-in-None
returns-in-None c = (
  λ never. absurd (false≢true never),
  λ either. elim either [
    | inl first ↦ absurd (c.in-None.ensures _ first)
    | inr (on, second) ↦ absurd (c.in-None.ensures _ second)
  ],
)
