use Rattle.std.proofs.Common.{◌≡◌, ◌∙◌, ◌++◌, ◌∷◌, [], false, bytes_eq, map, sym, ap, refl}
use Rattle.std.specs.List.{list_any}
use Rattle.std.proofs.lemmas.List.{map_push}
use Rattle.query_core.proofs.Apart.{list_any-map}
use Rattle.sql_bind.proofs.names.DistinctNames.add.Goals as goal

-- the name is new, and so it goes last
pub returns : goal.returns
returns c =
    let keys = c.self.inside.set.keys in
    let name = c.as_str.result in
    let fresh : list_any (λ k. bytes_eq name.now k.now) keys ≡ false =
    sym (list_any-map (bytes_eq name.now) (λ k. k.now) keys) ∙ rw (c.as_str.ensures, c.self.view_is) c.requires in
    let made : c.insert.new.self.keys ≡ keys ++ name ∷ [] = c.in_ok-insert.ensures.keys ∙ rw fresh refl in
    ap (map (λ k. k.now)) made ∙ (map_push (λ k. k.now) keys name ∙ rw (c.self.view_is, c.as_str.ensures) refl)
