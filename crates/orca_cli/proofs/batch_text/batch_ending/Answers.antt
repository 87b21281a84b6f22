use Rattle.std.proofs.Common.{[], ◌∷◌, ◌++◌, sym, ap, ◌∙◌, arith, append_assoc, length-append}
use Rattle.std.specs.Prelude.{vec_len}
use Rattle.orca_cli.specs.Batches.{batch_line}
use Rattle.orca_cli.specs.Views.{bytes_of_texts}
use Rattle.orca_cli.proofs.LineEnds.{bytes_push, endings_push}
use Rattle.orca_cli.proofs.batch_text.batch_ending.Goals as goal

-- the texts of one ending more are behind the others
pub loop-ending-preserved : goal.loop-ending-preserved
loop-ending-preserved c =
    let i = c.loop-ending.invariant in
    let seen = c.loop-ending.yielded in
    let ending = c.in-Some.ending in
    let split = i.split ∙ ap (λ rest. seen ++ rest) c.in-Some.ensures.steps.0 in
    let more = length-append seen (ending ∷ []) in
    let counted = i.counted in
    record {
      split = split ∙ sym (append_assoc seen (ending ∷ []) _);
      counted = omega (arith, counted, more);
      texts = endings_push (batch_line (vec_len c.args.endings)) seen ending c.loop-ending.number
          (bytes_of_texts c.loop-ending.texts.items) _ _ _ i.texts counted c.in_ok-query_line.ensures
          (ap bytes_of_texts c.in_ok-push-2.ensures.items ∙ bytes_push c.loop-ending.texts.items _)
          c.in_ok-append.ensures;
    }
