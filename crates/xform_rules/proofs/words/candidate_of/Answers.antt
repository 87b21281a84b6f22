use Rattle.std.proofs.Common.{subst}
use Rattle.query_core.specs.Expressions.{IsCandidate}
use Rattle.xform_rules.proofs.words.candidate_of.Goals as goal

-- the word of a candidate is that of an expression whose parts fit
pub known_parts-requires : goal.known_parts-requires
known_parts-requires c = let (e, candidate, number) = c.requires in
    (e, record { packed = c.candidates_are_known.ensures.packed c.args.query.now e candidate; number = number })

-- and of no other
pub returns-clause-value : goal.returns-clause-value
returns-clause-value c =
    let (e, candidate, number) = c.requires in
    let packed = c.candidates_are_known.ensures.packed c.args.query.now e candidate in (
      subst (IsCandidate c.args.query.now) (c.known_parts.ensures.only e (record { packed = packed; number = number }))
          candidate,
      c.known_parts.ensures.has.number,
    )

pub returns-clause-only : goal.returns-clause-only
returns-clause-only c e (candidate, number) =
    c.known_parts.ensures.only e (record {
      packed = c.candidates_are_known.ensures.packed c.args.query.now e candidate;
      number = number;
    })
