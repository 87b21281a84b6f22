-- How a goal is printed.
use Rattle.std.specs.Prelude.{ℕ, List, ◌++◌, codes}
use Rattle.query_core.specs.Expressions.{expr_of}
use Rattle.query_core.specs.declared.query.Query.{Query}
use Rattle.xform_rules.specs.Rules.{rule_name}
use Rattle.goal_space.specs.declared.goals.GoalKind.{GoalKind}
use Rattle.goal_space.specs.declared.goals.GoalKind.TheVariants.{Exp, ExpE, Xf, Imp, ImpE, Opt, OptE}
use Rattle.job_trace.specs.Groups.{group_text}
use Rattle.job_trace.specs.Members.{member_text}
use Rattle.job_trace.specs.Requests.{request_text}

-- a goal: its kind, the rule, the group or the member, and the request
abbrev pub goal_text : Query → GoalKind → List ℕ
goal_text q (Exp group) = codes "Exp " ++ group_text q group
goal_text q (ExpE e) = codes "ExpE " ++ member_text q e
goal_text q (Xf e rule) = codes "Xf " ++ rule_name rule ++ codes " " ++ member_text q e
goal_text q (Imp group) = codes "Imp " ++ group_text q group
goal_text q (ImpE e) = codes "ImpE " ++ member_text q e
goal_text q (Opt group wanted) = codes "Opt " ++ group_text q group ++ codes " " ++ request_text q wanted
goal_text q (OptE e wanted) = codes "OptE " ++ member_text q (expr_of e) ++ codes " " ++ request_text q wanted

-- the line of a goal
abbrev pub goal_line : Query → GoalKind → List ℕ
goal_line q goal = goal_text q goal ++ codes "\n"

-- the line of a child, two spaces before it
abbrev pub child_line : Query → GoalKind → List ℕ
child_line q goal = codes "  " ++ goal_line q goal
