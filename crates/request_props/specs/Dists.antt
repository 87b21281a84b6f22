-- What distributions are known by: how many segments have rows, and by whose hash the rows lie.
use Rattle.std.specs.Prelude.{ℕ, Option, None, Some}
use Rattle.cost_units.specs.declared.shape.Class.{Class}
use Rattle.cost_units.specs.declared.shape.Class.TheVariants as classes
use Rattle.request_props.specs.declared.given.GivenDist.{GivenDist}
use Rattle.request_props.specs.declared.given.GivenDist.TheVariants as given
use Rattle.request_props.specs.declared.request.Dist.{Dist}
use Rattle.request_props.specs.declared.request.Dist.TheVariants as dists

-- the class of rows that are distributed so
abbrev pub class_of : GivenDist → Class
class_of given.One = classes.One
class_of (given.Hashed list) = classes.Spread
class_of given.Random = classes.Spread
class_of given.Copies = classes.Copies

-- the class of rows that are asked for so
abbrev pub class_asked : Dist → Class
class_asked dists.One = classes.One
class_asked dists.Spread = classes.Spread
class_asked dists.Copies = classes.Copies
class_asked (dists.Hashed list) = classes.Spread

-- the list by whose hash the rows lie, if there is one
abbrev pub list_given : GivenDist → Option ℕ
list_given given.One = None
list_given (given.Hashed list) = Some list
list_given given.Random = None
list_given given.Copies = None

-- the list by whose hash rows are asked for, if there is one
abbrev pub list_asked : Dist → Option ℕ
list_asked dists.One = None
list_asked dists.Spread = None
list_asked dists.Copies = None
list_asked (dists.Hashed list) = Some list
