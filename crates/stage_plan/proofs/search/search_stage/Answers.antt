use Rattle.std.proofs.Common.{IfOk, sym, subst}
use Rattle.request_props.specs.Numbered.{IsProps}
use Rattle.stage_plan.specs.SoFar.{IsFoundWithin}
use Rattle.stage_plan.specs.Stages.{query_in}
use Rattle.stage_plan.proofs.OtherProofs.{same_with_proofs}
use Rattle.stage_plan.proofs.search.search_stage.Goals as goal

-- the query is searched with the rules of the stage off
pub find-found-requires-clause-props : goal.find-found-requires-clause-props
find-found-requires-clause-props g c κs within =
    subst (λ q. IsProps q c.args.props.now)
    (same_with_proofs (query_in c.args.query.now c.args.stage) _ _ _ _ _ _ _ _ _ _)
    (c.stages_share_props.ensures c.args.query.now c.args.stage c.args.props.now c.requires.props)

pub returns-clause-found : goal.returns-clause-found
returns-clause-found g c =
    subst (λ q. IfOk c.find-found.result (IsFoundWithin q c.args.capacity))
    (sym (same_with_proofs (query_in c.args.query.now c.args.stage) _ _ _ _ _ _ _ _ _ _)) c.find-found.ensures
