-- By the first column of the one and the second of the other, or the other way round.
use Rattle.std.proofs.Common.{inl, inr}
use Rattle.request_props.proofs.tables.ends.EqualityEnds.across.Goals as goal

pub returns : goal.returns
returns c pred = (
  λ has. elim ((c.or.ensures pred).0 has) [
    | inl both ↦ inl ((c.and.ensures pred).0 both)
    | inr both ↦
        inr ((c.and-2.ensures pred).0 both)
  ],
  λ either. (c.or.ensures pred).1 (elim either [
    | inl both ↦ inl ((c.and.ensures pred).1 both)
    | inr both ↦
        inr ((c.and-2.ensures pred).1 both)
  ]),
)
