use Rattle.std.proofs.Common.{◌≡◌, ◌++◌, ◌∷◌, [], true, false, rules}
use Rattle.std.specs.Prelude.{is_none}
use Rattle.sql_reader.specs.Steps.{elements_at}
use Rattle.sql_reader.proofs.Loop.{goes_on, ends, refuses}
use Rattle.sql_reader.proofs.lists.elements.Goals as goal

-- one element more was read, and the mark behind it
pub loop-preserved : goal.loop-preserved
loop-preserved g c =
    let begins = g.E.Element.begins in
    let reads = g.E.Element.reads in
    let mark = c.args.separator in
    let room = c.args.room in
    let total = elements_at mark begins reads c.args.what room c.args.tokens.now in
    let element = c.in_ok-element.element in
    let pushed : c.push.new.self ≡ c.loop.elements ++ element ∷ [] = c.in_ok-push.ensures.ok in
    let some : is_none c.mark.result ≡ false = search rules in
    rw pushed (goes_on mark begins reads c.args.what c.loop.elements room c.loop.counter c.loop.tokens element
    c.read.new.tokens
    c.mark.result c.mark.new.self total c.loop-test.true c.in_ok-element.ensures c.mark.ensures some c.loop.invariant)

-- no mark follows the element, which is the last
pub returns-then-is_none : goal.returns-then-is_none
returns-then-is_none g c =
    let begins = g.E.Element.begins in
    let reads = g.E.Element.reads in
    let mark = c.args.separator in
    let room = c.args.room in
    let total = elements_at mark begins reads c.args.what room c.args.tokens.now in
    let element = c.in_ok-element.element in
    let pushed : c.push.new.self ≡ c.loop.elements ++ element ∷ [] = c.in_ok-push.ensures.ok in
    let none : is_none c.mark.result ≡ true = search rules in
    rw pushed (ends mark begins reads c.args.what c.loop.elements room c.loop.counter c.loop.tokens element
    c.read.new.tokens
    c.mark.result c.mark.new.self total c.loop-test.true c.in_ok-element.ensures c.mark.ensures none c.loop.invariant)

-- there is no room for another
pub returns : goal.returns
returns g c =
    let begins = g.E.Element.begins in
    let reads = g.E.Element.reads in
    let total = elements_at c.args.separator begins reads c.args.what c.args.room c.args.tokens.now in
    refuses c.args.separator begins reads c.args.what c.refuse.result c.loop.elements c.args.room c.loop.counter
    c.loop.tokens c.loop.tokens total c.loop-test.false c.refuse.ensures c.loop.invariant
