use Rattle.std.proofs.Common.{◌≡◌, ◌∙◌, ◌+◌, ◌++◌, ◌∷◌, [], ◌||◌, List, take, get_or, sym, ap}
use Rattle.std.proofs.lemmas.List.{take_all, take_more}
use Rattle.sql_bind.specs.declared.columns.Column.{Column}
use Rattle.sql_bind.specs.Columns.{column, is_among, is_same}
use Rattle.sql_bind.proofs.Numbering.{among_insert, among_push}
use Rattle.sql_bind.proofs.used.set_of.Goals as goal

-- the column at the place is there, and the others stay
pub loop-column-preserved : goal.loop-column-preserved
loop-column-preserved c = λ q.
    let columns = c.args.columns.now in
    let loop = c.loop-column in
    let item = get_or columns loop.column-index (column 0 0) in
    let taken = take loop.column-index columns in
    let whole : take (loop.column-index + 1) columns ≡ taken ++ item ∷ [] =
    take_more columns loop.column-index (column 0 0) c.loop-column-test.true in
    ap (λ (cs : List Column). is_among cs q) c.in_ok-insert.ensures.keys
    ∙ (among_insert loop.set.keys item q ∙ (ap (λ b. b || is_same q item) (loop.invariant q)
    ∙ (sym (among_push taken item q) ∙ ap (λ (cs : List Column). is_among cs q) (sym whole))))

-- no column is left
pub returns : goal.returns
returns c = λ q. c.loop-column.invariant q
    ∙ ap (λ (cs : List Column). is_among cs q)
    (take_all c.loop-column.column-index c.args.columns.now c.loop-column-test.false)
