-- The key is one of the query's exactly where it has the group.
use Rattle.std.proofs.Common.{refl, sym, ◌∙◌}
use Rattle.std.proofs.lemmas.Bool.{false≢true}
use Rattle.query_core.specs.declared.words.KeyParts.TheVariants.{Join}
use Rattle.query_core.proofs.GroupLemmas.{is_key-group}
use Rattle.request_props.proofs.SideLemmas.{of_tables_small}
use Rattle.request_props.proofs.tables.candidates.sides.several.Goals as goal

pub make-requires : goal.make-requires
make-requires c = of_tables_small c.args.query.now c.args.tables c.requires.of_tables

pub returns-then-is_key : goal.returns-then-is_key
returns-then-is_key c =
    let q = c.args.query.now in
    let small = of_tables_small q c.args.tables c.requires.of_tables in (
      refl,
      (is_key-group q c.make.result (Join c.args.tables) small (sym c.make.ensures.number)).1
          (c.is_key.ensures.0 c.if-is_key.true),
    )

pub returns-else-is_key : goal.returns-else-is_key
returns-else-is_key c known =
    let q = c.args.query.now in
    let small = of_tables_small q c.args.tables c.requires.of_tables in
    false≢true (sym c.if-is_key.false ∙ c.is_key.ensures.1
    ((is_key-group q c.make.result (Join c.args.tables) small (sym c.make.ensures.number)).0 known))
