use Rattle.std.proofs.Common.{◌≡◌, ℕ, ◌+◌, ◌*◌, ◌%◌, ◌∙◌, IfOk, refl, subst, arith}
use Rattle.query_generator.specs.Draws.{draw}
use Rattle.query_generator.specs.Catalog.{table_with}
use Rattle.query_generator.proofs.Drawn.{draw_next}
use Rattle.query_generator.proofs.catalog.table_of.Goals as goal

-- the two draws are the next two
pub returns-clause-table : goal.returns-clause-table
returns-clause-table c =
    let number = c.args.number in
    let i = c.args.i in
    let first : c.draw.new.self ≡ draw number (2 * i + 1) =
    draw_next number (2 * i) (2 * i + 1) c.args.draws.now c.draw.new.self refl c.requires.drawn
    c.draw.ensures.after in
    let second : c.draw-2.new.self ≡ draw number (2 * i + 2) =
    draw_next number (2 * i + 1) (2 * i + 2) c.draw.new.self c.draw-2.new.self (omega arith) first
    c.draw-2.ensures.after in
    subst (λ (rows : ℕ). IfOk c.table_with.result
    (λ table. table ≡ table_with i (100 * rows) (1 + draw number (2 * i + 2) % 1000))) (c.draw.ensures.drawn
    ∙ first)
    (subst (λ (values : ℕ). IfOk c.table_with.result
    (λ table. table ≡ table_with i (100 * c.draw.result) (1 + values % 1000))) (c.draw-2.ensures.drawn ∙ second)
    c.table_with.ensures)

pub returns-clause-drawn : goal.returns-clause-drawn
returns-clause-drawn c =
    let number = c.args.number in
    let i = c.args.i in
    let first : c.draw.new.self ≡ draw number (2 * i + 1) =
    draw_next number (2 * i) (2 * i + 1) c.args.draws.now c.draw.new.self refl c.requires.drawn
    c.draw.ensures.after in
    draw_next number (2 * i + 1) (2 * (i + 1)) c.draw.new.self c.draw-2.new.self (omega arith) first
    c.draw-2.ensures.after
