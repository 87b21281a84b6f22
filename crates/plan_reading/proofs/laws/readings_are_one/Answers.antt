-- No two nodes that the query can name have one text, so no two lines have.
use Rattle.plan_reading.proofs.Beginnings.{formed_one, fault_one, formed_no_fault}
use Rattle.plan_reading.proofs.laws.readings_are_one.Goals as goal

pub returns-clause-formed : goal.returns-clause-formed
returns-clause-formed c = λ q text m n xs ys x y. formed_one q (c.texts_are_one.ensures q) text m n xs ys x y

pub returns-clause-fault : goal.returns-clause-fault
returns-clause-fault c = λ q text line other x y. fault_one q (c.texts_are_one.ensures q) text line other x y

pub returns-clause-apart : goal.returns-clause-apart
returns-clause-apart c = λ q text m xs line x y. formed_no_fault q (c.texts_are_one.ensures q) text m xs line x y
