-- the names of the places so far are written
use Rattle.std.proofs.Common.{take}
use Rattle.std.specs.List.{flat_map}
use Rattle.json.specs.Tree.{json_tokens}
use Rattle.json.specs.Json.{string}
use Rattle.catalog_text.specs.Text.{name_at}
use Rattle.catalog_text.specs.AddsTokens.{AddsTokens}
use Rattle.catalog_text.proofs.text.write_each_place.Given as goal

abbrev pub invariant-loop-place : goal.invariant-loop-place
invariant-loop-place l = AddsTokens l.initial.out l.out
    (flat_map (λ p. json_tokens (string (name_at l.columns p))) (take l.place-index l.places))
