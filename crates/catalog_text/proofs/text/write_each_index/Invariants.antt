-- the indexes so far are written
use Rattle.std.proofs.Common.{take}
use Rattle.std.specs.List.{flat_map}
use Rattle.json.specs.Tree.{json_tokens}
use Rattle.catalog_text.specs.Text.{places_json}
use Rattle.catalog_text.specs.AddsTokens.{AddsTokens}
use Rattle.catalog_text.proofs.text.write_each_index.Given as goal

abbrev pub invariant-loop-index : goal.invariant-loop-index
invariant-loop-index l = AddsTokens l.initial.out l.out
    (flat_map (λ index. json_tokens (places_json l.columns index)) (take l.index-index l.indexes))
