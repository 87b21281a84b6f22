-- Pieces that are added to a text one after the other.
use Rattle.std.proofs.Common.{◌≡◌, ℕ, List, ◌++◌, append_assoc, ap, ◌∙◌}
use Rattle.std.specs.Prelude.{Result, Ok, Err, OnOk, if◌then◌else◌}
use Rattle.std.specs.Result.{is_ok}
use Rattle.query_text.specs.Added.{AddsText}

-- two pieces are one
pub adds_more : (before piece middle next after : List ℕ) → AddsText before piece middle → AddsText middle next after
    → AddsText before (piece ++ next) after
adds_more before piece middle next after first second = second ∙ ap (λ text. text ++ next) first
    ∙ append_assoc before piece next

-- so are those before and a last one, where it could be added
pub adds_last : {T E : Type 0} (result : Result T E) (before piece middle next after : List ℕ)
    → AddsText before piece middle
    → after ≡ (if is_ok result then middle ++ next else middle) → OnOk result (AddsText before (piece ++ next) after)
adds_last (Ok x) before piece middle next after first second = adds_more before piece middle next after first second
adds_last (Err e) before piece middle next after first second = tt
