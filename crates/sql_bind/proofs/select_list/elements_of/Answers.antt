use Rattle.std.proofs.Common.{◌∙◌, ◌++◌, ◌∷◌, [], List, ℕ, option_to_list, sym, ap, arith, length-append}
use Rattle.std.proofs.lemmas.Result.{err_from_is_err_and}
use Rattle.sql_bind.specs.SelectList.{chosen_in}
use Rattle.sql_bind.proofs.ChosenKept.{names_push}
use Rattle.sql_bind.proofs.Each.{goes_on, stops, is_done}
use Rattle.sql_bind.proofs.select_list.elements_of.Goals as goal

-- the element that was bound goes last, and its name too
pub loop-item-preserved : goal.loop-item-preserved
loop-item-preserved c =
    let loop = c.loop-item in
    let element = c.in_ok-element.element in
    rw (c.in_ok-push.ensures.ok) (record {
      bound = goes_on (chosen_in c.args.sources.now) c.args.items.now loop.chosen loop.item-index c.item-item.result
          element c.loop-item-test.true c.item-item.is (rw (← c.as_slice.ensures) c.in_ok-element.ensures.bound)
          ∙ loop.invariant.bound;
      named = c.in_ok-element.ensures.added ∙ (ap (λ (names : List (List ℕ)). names ++ option_to_list element.name)
          loop.invariant.named ∙ sym (names_push loop.chosen element));
      few = omega (arith, loop.invariant.few, length-append loop.chosen (element ∷ []));
    })

-- the first element with a fault ends the binding
pub returns-in_err-element : goal.returns-in_err-element
returns-in_err-element c =
    let loop = c.loop-item in
    let raised = err_from_is_err_and c.from_residual.result c.from_residual.ensures.1 in
    rw raised.1 (stops (chosen_in c.args.sources.now) c.args.items.now loop.chosen loop.item-index c.item-item.result _
    c.in_err-element.field-0.0 raised.0 c.loop-item-test.true c.item-item.is
    (rw (← c.as_slice.ensures) c.in_err-element.ensures.bound) loop.invariant.bound raised.2)

-- no element is left
pub returns : goal.returns
returns c = sym c.loop-item.invariant.bound
    ∙ is_done (chosen_in c.args.sources.now) c.args.items.now c.loop-item.chosen c.loop-item.item-index
    c.loop-item-test.false
