use Rattle.json.specs.Json.{string}
use Rattle.catalog_text.specs.Text.{name_at}
use Rattle.catalog_text.proofs.Adding.{token_added, list_added}
use Rattle.catalog_text.proofs.text.write_places.Goals as goal

-- the elements stand between the brackets
pub returns : goal.returns
returns c =
    list_added (λ place. string (name_at c.args.columns.now place)) c.args.places.now c.end_array.result c.args.out.now
    c.begin_array.new.self c.write_each_place.new.out c.end_array.new.self
    (token_added _ _ _ _ c.in_ok-begin_array.ensures) c.in_ok-write_each_place.ensures c.end_array.ensures
