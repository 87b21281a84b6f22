-- The operator has the number, and stands on the sides.
use Rattle.std.proofs.Common.{ap, ◌∙◌}
use Rattle.query_core.specs.Keys.{key_number}
use Rattle.query_core.specs.Expressions.{packed}
use Rattle.query_core.specs.declared.words.KeyParts.TheVariants.{Join}
use Rattle.request_props.proofs.JoinWords.{join_packed}
use Rattle.request_props.proofs.tables.candidates.joins.join_word.Goals as goal

pub word-requires : goal.word-requires
word-requires c =
    join_packed c.args.set c.args.number c.args.sides c.on_two.result c.requires.small c.requires.in_range
    c.on_two.ensures

pub returns : goal.returns
returns c = c.word.ensures ∙ ap (packed (key_number (Join c.args.set))) c.on_two.ensures
