use Rattle.std.proofs.Common.{length, subst, sym, ◌∙◌}
use Rattle.query_core.specs.Links.{AddsTrueLinks, AreLinks, StartsComponent, predicate_links}
use Rattle.query_core.proofs.Linking.{made_between, added_between}
use Rattle.query_core.proofs.links.links_of.Goals as goal

-- items lie in tables of the query, so all links are between these
pub returns : goal.returns
returns c =
    let tables = c.args.tables.now in
    let items = c.args.items.now in
    let preds = c.args.preds.now in
    let made = c.deref.ensures.value ∙ c.in_ok-made.ensures in
    let adds = subst (λ part. AddsTrueLinks (StartsComponent (length tables) part) part c.in_ok-links.links.items) made
    c.in_ok-links.ensures in
    subst (AreLinks tables items preds) (sym c.of.ensures) (record {
      between_tables = added_between (length tables) (predicate_links items preds) c.in_ok-links.links.items
          (made_between tables items preds c.requires.items) adds;
      in_order = adds;
    })
