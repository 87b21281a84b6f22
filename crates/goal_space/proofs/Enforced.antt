-- The enforcers for a request that fits a group.
use Rattle.query_core.specs.declared.query.Query.{Query}
use Rattle.query_core.specs.declared.words.KeyParts.{KeyParts}
use Rattle.request_props.specs.Fitting.{Fits}
use Rattle.request_props.specs.declared.request.Request.{Request}
use Rattle.plan_space.specs.Enforcers.{EnforcedBy, enforcers_of, Among}
use Rattle.plan_tree.proofs.Kept.{enforcer_lies}
use Rattle.goal_space.specs.Children.{CanEnforce}

-- an enforcer for the request can stand in the group, since it lies there
pub can_enforce : (q : Query) (group : KeyParts) (wanted : Request) (e : EnforcedBy) → Fits q group wanted
    → Among e (enforcers_of wanted) → CanEnforce q group wanted e
can_enforce q group wanted e fits among =
    record { among = among; lies_in = enforcer_lies q group wanted e fits among }
