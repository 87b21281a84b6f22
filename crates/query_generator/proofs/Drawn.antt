-- One more draw.
use Rattle.std.proofs.Common.{◌≡◌, ℕ, suc, ◌+◌, sym, ap, ◌∙◌, arith}
use Rattle.query_generator.specs.Draws.{next, draw}

-- what is drawn after so many draws is the next one
pub draw_next : (number count more before after : ℕ) → more ≡ count + 1 → before ≡ draw number count
    → after ≡ next before → after ≡ draw number more
unfolding draw
draw_next number count more before after one is drawn =
    let here : more ≡ suc count = omega arith in
    drawn ∙ ap next is ∙ sym (ap (draw number) here)
