use Rattle.std.proofs.Common.{sym, subst, ◌∙◌, None}
use Rattle.std.proofs.lemmas.Bool.{false≢true}
use Rattle.query_core.specs.Expressions.{IsPacked}
use Rattle.xform_rules.specs.Forms.{logical_in, physical_in}
use Rattle.xform_rules.specs.Results.{HasResult}
use Rattle.xform_rules.proofs.membership.gives_at.Goals as goal

-- the parts of a candidate fit a word
pub result_at-requires-clause-e : goal.result_at-requires-clause-e
result_at-requires-clause-e c =
    subst IsPacked (sym c.logical.ensures) (c.candidates_are_known.ensures.packed c.args.query.now
    (logical_in c.args.group c.args.from) c.requires.from)

-- so do those of the result, which is a candidate too
pub are_same-requires-clause-e : goal.are_same-requires-clause-e
are_same-requires-clause-e c =
    let q = c.args.query.now in
    let from = logical_in c.args.group c.args.from in
    let found : HasResult q c.args.rule from None c.args.n c.in-Some.found =
    subst (λ x. HasResult q c.args.rule x None c.args.n c.in-Some.found) c.logical.ensures c.in-Some.ensures in
    c.candidates_are_known.ensures.packed q c.in-Some.found
    (c.results_are_candidates.ensures.candidates q c.args.rule from None c.args.n c.in-Some.found c.requires.from tt
    found)

pub are_same-requires-clause-other : goal.are_same-requires-clause-other
are_same-requires-clause-other c =
    subst IsPacked (sym c.physical.ensures) (c.candidates_are_known.ensures.packed c.args.query.now
    (physical_in c.args.group c.args.to) c.requires.to)

-- of a number there is one result
pub returns-in-Some : goal.returns-in-Some
returns-in-Some c =
    let q = c.args.query.now in
    let from = logical_in c.args.group c.args.from in
    let to = physical_in c.args.group c.args.to in
    let found : HasResult q c.args.rule from None c.args.n c.in-Some.found =
    subst (λ x. HasResult q c.args.rule x None c.args.n c.in-Some.found) c.logical.ensures c.in-Some.ensures in (
      λ yes. subst (HasResult q c.args.rule from None c.args.n) (c.are_same.ensures.0 yes ∙ c.physical.ensures) found,
      λ has. c.are_same.ensures.1 (c.results_are_candidates.ensures.one q c.args.rule from None c.args.n c.in-Some.found
          to found has ∙ sym c.physical.ensures),
    )

-- nothing is found only where there is none
pub returns-in-None : goal.returns-in-None
returns-in-None c = (
  λ never. absurd (false≢true never),
  λ has.
      absurd (c.in-None.ensures (physical_in c.args.group c.args.to)
      (subst (λ x. HasResult c.args.query.now c.args.rule x None c.args.n (physical_in c.args.group c.args.to))
      (sym c.logical.ensures) has)),
)
