-- The group has one key, so it is the one that was found.
use Rattle.std.proofs.Common.{subst}
use Rattle.query_core.specs.declared.words.KeyParts.{KeyParts}
use Rattle.request_props.specs.Fitting.{Fits}
use Rattle.plan_tree.proofs.enforcers.enforcer.Goals as goal

pub returns-clause-at_place : goal.returns-clause-at_place
returns-clause-at_place c = λ g names. rw (c.group.ensures.only g names) c.enforcer_of_group.ensures.at_place

pub returns-clause-fitting : goal.returns-clause-fitting
returns-clause-fitting c = λ g names fits.
    c.enforcer_of_group.ensures.fitting
    (subst (λ (group : KeyParts). Fits c.args.query.now group c.args.request) (c.group.ensures.only g names) fits)
