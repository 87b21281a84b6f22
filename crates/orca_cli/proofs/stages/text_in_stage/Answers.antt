use Rattle.std.proofs.Common.{IfOk, refl, sym, subst}
use Rattle.request_props.specs.Numbered.{IsProps}
use Rattle.plan_lines.specs.Found.{IsFoundText}
use Rattle.stage_plan.specs.Stages.{query_in}
use Rattle.orca_cli.proofs.OneQuery.{query_same}
use Rattle.orca_cli.proofs.stages.text_in_stage.Goals as goal

-- with the rules of the stage off the query is the one in the stage, whatever proofs of its invariants it has
pub plan_text-requires : goal.plan_text-requires
plan_text-requires c =
    subst (λ q. IsProps q c.args.asked.now.props)
    (query_same (query_in c.args.asked.now.query c.args.stage) _ refl refl refl refl refl refl refl refl refl refl refl)
    (c.stages_share_props.ensures c.args.asked.now.query c.args.stage c.args.asked.now.props c.requires)

pub returns : goal.returns
returns c =
    subst (λ q. IfOk c.plan_text.result (λ text. IsFoundText q c.args.found.now text.items))
    (sym (query_same (query_in c.args.asked.now.query c.args.stage) _ refl refl refl refl refl refl refl refl refl refl
    refl)) c.plan_text.ensures
