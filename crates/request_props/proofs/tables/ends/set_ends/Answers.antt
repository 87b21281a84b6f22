-- One more set's are found.
use Rattle.request_props.specs.Ends.{HasColumn}
use Rattle.query_core.specs.declared.words.KeyParts.TheVariants.{Join}
use Rattle.request_props.proofs.ListsOfEnds.{ends_push}
use Rattle.request_props.proofs.tables.ends.set_ends.Goals as goal

pub loop-set-preserved : goal.loop-set-preserved
loop-set-preserved c =
    let q = c.args.query.now in
    ends_push q (λ set. HasColumn q (Join set)) c.loop-set.found.items c.push.new.self.items c.loop-set.set
    c.ends_of_set.result c.in_ok-push.ensures.items c.loop-set.invariant c.ends_of_set.ensures
