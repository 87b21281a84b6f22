-- the member is what the map has at the name
use Rattle.std.proofs.Common.{option_map, ap, ◌∙◌}
use Rattle.serde_json.specs.View.{view}
use Rattle.serde_json.proofs.Views.{view_of_ref}
use Rattle.catalog_json.proofs.Members.{member_found}
use Rattle.catalog_json.proofs.object.Object.get.Goals as goal

pub returns : goal.returns
returns c = view_of_ref c.get.result ∙ ap (option_map view) c.get.ensures.value
    ∙ member_found c.args.name.now c.args.self.now.members.entries
