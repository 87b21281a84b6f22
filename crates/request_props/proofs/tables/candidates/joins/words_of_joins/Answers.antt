-- The joins over all sides, operator by operator, are what the group can hold.
use Rattle.std.proofs.Common.{◌≡◌, subst, sym, ◌∙◌, ap}
use Rattle.std.specs.List.{All}
use Rattle.std.proofs.lemmas.Result.{IfOk-weaker}
use Rattle.query_core.specs.declared.words.KeyParts.TheVariants.{Join}
use Rattle.request_props.specs.Candidates.{AreCandidatesOf}
use Rattle.request_props.specs.Joins.{AreBothInRange, words_over}
use Rattle.request_props.proofs.SideLemmas.{of_tables_small}
use Rattle.request_props.proofs.JoinWords.{all_in_range, candidates_over}
use Rattle.request_props.proofs.tables.candidates.joins.words_of_joins.Goals as goal

pub words_by_sides-requires-clause-small : goal.words_by_sides-requires-clause-small
words_by_sides-requires-clause-small c = of_tables_small c.args.query.now c.args.set c.requires.known.0

pub words_by_sides-requires-clause-in_range : goal.words_by_sides-requires-clause-in_range
words_by_sides-requires-clause-in_range c =
    let q = c.args.query.now in
    let set = c.args.set in
    let sides = c.in_ok-sides.sides in
    subst (All AreBothInRange) (sym c.as_slice.ensures)
    (all_in_range q set (of_tables_small q set c.requires.known.0) sides c.in_ok-sides.ensures)

pub returns : goal.returns
returns c =
    let q = c.args.query.now in
    let set = c.args.set in
    let sides = c.in_ok-sides.sides in
    let over = candidates_over q set (of_tables_small q set c.requires.known.0) sides c.in_ok-sides.ensures
    c.requires.known in
    IfOk-weaker c.words_by_sides.result (λ words. words ≡ words_over set c.as_slice.result.now)
    (AreCandidatesOf q (Join set)) (λ words same.
    subst (AreCandidatesOf q (Join set)) (sym (same ∙ ap (words_over set) c.as_slice.ensures)) over)
    c.words_by_sides.ensures
