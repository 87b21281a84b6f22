use Rattle.std.proofs.Common.{subst}
use Rattle.std.specs.Prelude.{slice_index_or}
use Rattle.std.proofs.lemmas.List.Elements.{All-contains, Contains-get_or}
use Rattle.std.proofs.lemmas.Result.{on_ok_weaker}
use Rattle.query_core.specs.Expressions.{children_of, AreInRange}
use Rattle.xform_rules.specs.Closure.{IsMemberWord}
use Rattle.plan_search.proofs.Growing.{grows_not}
use Rattle.plan_search.proofs.FoundSteps.{left_one}
use Rattle.plan_search.proofs.closure.add_bound_results.Goals as goal

-- the keys of the sides fit the expression's word
pub words_of-requires-clause-in_range : goal.words_of-requires-clause-in_range
words_of-requires-clause-in_range c =
    let (right, is) = c.in-Some.ensures in
    (subst (λ o. AreInRange (children_of o)) is
    (c.members_are_known.ensures.packed c.args.query.now c.args.e c.requires.member).children).0

-- the left group's words are among the words of members
pub add_results_with_each-requires-clause-members : goal.add_results_with_each-requires-clause-members
add_results_with_each-requires-clause-members c k d within =
    All-contains (IsMemberWord c.args.query.now) c.args.words.now (slice_index_or c.words_of.result.now k d)
    c.requires.words.members
    (c.words_of.ensures.part (slice_index_or c.words_of.result.now k d)
    (Contains-get_or c.words_of.result.now k d within))

-- a bound member is one of the left group
pub returns-in-Some : goal.returns-in-Some
returns-in-Some c =
    let q = c.args.query.now in
    on_ok_weaker c.add_results_with_each.result
    (λ found. record {
      grows = found.grows;
      holds = λ bound member there rule n other has.
          found.holds bound member
          (c.words_of.ensures.members bound (c.members_are_known.ensures.packed q bound member)
          (left_one c.args.e bound.group c.in-Some.left
          (c.results_are_known.ensures.left q rule c.args.e bound n other has) c.in-Some.ensures) there)
          rule n other has;
    })
    c.add_results_with_each.ensures

-- elsewhere none can be bound
pub returns-in-None : goal.returns-in-None
returns-in-None c = record {
  grows = grows_not c.args.query.now c.args.found.now;
  holds = λ bound member there rule n other has.
      absurd (c.in-None.ensures bound.group (c.results_are_known.ensures.left c.args.query.now rule c.args.e bound n
      other has));
}
