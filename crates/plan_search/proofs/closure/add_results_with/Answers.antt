use Rattle.std.proofs.Common.{◌∙◌, sym, subst, Some}
use Rattle.std.proofs.lemmas.Bool.{false≢true}
use Rattle.std.proofs.lemmas.Result.{on_ok_weaker}
use Rattle.plan_search.specs.Steps.{HasResults}
use Rattle.plan_search.proofs.Growing.{grows_not}
use Rattle.plan_search.proofs.closure.add_results_with.Goals as goal

-- the word is that of one member
pub returns-then-logical : goal.returns-then-logical
returns-then-logical c =
    let q = c.args.query.now in
    on_ok_weaker c.add_results.result
    (λ added. record {
      grows = added.grows;
      holds = λ bound member is. subst (λ x. HasResults q c.args.e (Some x) c.add_results.new.found)
          (sym (c.member_of.ensures.only bound member is)) added.holds;
    })
    c.add_results.ensures

-- only logical members are bound
pub returns-else-logical : goal.returns-else-logical
returns-else-logical c =
    let q = c.args.query.now in
    record {
      grows = grows_not q c.args.found.now;
      holds = λ bound member is rule n other has.
          let physical = sym (c.logical.ensures bound (record {
            packed = c.members_are_known.ensures.packed q bound member;
            number = is;
          })) ∙ c.if-logical.false in
          absurd (false≢true (sym physical ∙ c.results_are_known.ensures.bound q rule c.args.e bound n other has));
    }
