-- the elements of the array are those of the vector
use Rattle.std.proofs.Common.{map, refl}
use Rattle.serde_json.specs.View.{view}
use Rattle.serde_json.proofs.Views.{view-Array}
use Rattle.catalog_json.proofs.Elements.{elements_items_of}
use Rattle.catalog_json.proofs.member.take_elements.Goals as goal

pub returns-in-Some-Array : goal.returns-in-Some-Array
returns-in-Some-Array c =
    let list = c.in-Some-Array.list in
    rw (
      c.in-Some-Array.list-is,
      c.in-Some-Array.is,
      c.in-Some-Array.field-0-is,
      view-Array list,
      elements_items_of (map view list.items),
    ) refl
