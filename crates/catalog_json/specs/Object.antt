-- What an object that is being read stands for.
use Rattle.serde_json.specs.Data.{Data, object}
use Rattle.serde_json.specs.View.{members_view}
use Rattle.catalog_json.specs.declared.object.Object.{Object}

-- the JSON value with the members that the object has
abbrev pub data_of : Object → Data
data_of o = object (members_view o.members.entries)
