use Rattle.std.proofs.Common.{option_map, ap, ◌∙◌, rules, Some}
use Rattle.serde_json.specs.View.{view}
use Rattle.catalog_json.proofs.Members.{member_found, other_member}
use Rattle.catalog_json.proofs.object.Object.take.Goals as goal

-- what is taken is what the map had at the name
pub returns-in-Some-clause-taken : goal.returns-in-Some-clause-taken
returns-in-Some-clause-taken c = rw c.take.ensures.taken (ap (option_map view) c.in-Some.ensures.value
    ∙ member_found c.args.name.now c.args.self.now.members.entries)

-- the map keeps what it has at other names
pub returns-in-Some-clause-others : goal.returns-in-Some-clause-others
returns-in-Some-clause-others c = other_member c.args.name.now c.args.self.now.members
    (c.get_mut.follows.lender c.take.new.self) (Some c.take.new.self)
    ((c.get_mut.follows.holds c.take.new.self).3 (search rules))

-- no member is what the map had
pub returns-in-None-clause-taken : goal.returns-in-None-clause-taken
returns-in-None-clause-taken c = ap (option_map view) c.in-None.ensures.value
    ∙ member_found c.args.name.now c.args.self.now.members.entries
