-- A name and the groups of kids tell a node, which is named so.
use Rattle.plan_reading.proofs.Names.{form_named, form_small}
use Rattle.plan_reading.proofs.NodeOver.{over_one}
use Rattle.plan_reading.proofs.laws.nodes_are_meant.Goals as goal

pub returns-clause-meant : goal.returns-clause-meant
returns-clause-meant c = λ q node kids is of. over_one q (c.sides_are_known.ensures.tables q) node kids is of

pub returns-clause-kept : goal.returns-clause-kept
returns-clause-kept c = λ q name kids limits form.
    form_named q limits.few_lists name kids form

pub returns-clause-small : goal.returns-clause-small
returns-clause-small c = λ q name limits form.
    form_small q limits.few_lists name form
