use Rattle.std.proofs.Common.{◌≡◌, Some, subst, sym}
use Rattle.query_core.specs.Crossing.{crossing_of}
use Rattle.plan_space.specs.Lines.{hash_line}
use Rattle.plan_space.specs.declared.modes.Mode.{Mode}
use Rattle.plan_tree.proofs.Lined.{sides_found, hash_found}
use Rattle.plan_tree.proofs.lines.hash_line.Goals as goal

-- the sides that were looked up are those of the equality
pub returns-in_ok-sides-in-Hashed : goal.returns-in_ok-sides-in-Hashed
returns-in_ok-sides-in-Hashed c =
    let q = c.args.query.now in
    let number = c.in-Hashed.number in
    let is = sides_found q (crossing_of q c.args.left c.args.right number) c.in_ok-sides-in-Hashed.sides
    c.in_ok-sides-in-Hashed.ensures in
    let made = c.hash_colocated.ensures is.first is.second is.is_left is.is_right in
    subst (λ (mode : Mode). Some c.hash_colocated.result ≡ hash_line q c.args.left c.args.right mode)
    (sym c.in-Hashed.is)
    (hash_found q c.args.left c.args.right number is.first is.second c.hash_colocated.result is.is_found made)
