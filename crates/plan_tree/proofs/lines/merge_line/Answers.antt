use Rattle.std.proofs.Common.{◌≡◌, Some, subst, sym}
use Rattle.query_core.specs.Crossing.{crossing_of}
use Rattle.request_props.specs.declared.request.Dist.TheVariants as dists
use Rattle.plan_space.specs.Lines.{merge_line, merge_with, on_one}
use Rattle.plan_space.specs.declared.lines.LeftDist.{LeftDist}
use Rattle.plan_space.specs.declared.modes.Mode.{Mode}
use Rattle.plan_tree.proofs.Lined.{sides_found, merge_one, merge_copied, merge_hashed}
use Rattle.plan_tree.proofs.lines.merge_line.Goals as goal

-- the sides that were looked up are those of the equality
pub returns-in_ok-sides-in-Plain : goal.returns-in_ok-sides-in-Plain
returns-in_ok-sides-in-Plain c =
    let q = c.args.query.now in
    let number = c.in-Plain.number in
    let is = sides_found q (crossing_of q c.args.left c.args.right number) c.in_ok-sides-in-Plain.sides
    c.in_ok-sides-in-Plain.ensures in
    let made : c.merge_with.result ≡ merge_with q on_one dists.One (is.first, is.second) =
    subst (λ (dist : LeftDist). c.merge_with.result ≡ merge_with q dist dists.One (is.first, is.second))
    c.left_on_one.ensures
    (c.merge_with.ensures is.first is.second is.is_left is.is_right)
    in
    subst (λ (mode : Mode). Some c.merge_with.result ≡ merge_line q c.args.left c.args.right mode) (sym c.in-Plain.is)
    (merge_one q c.args.left c.args.right number is.first is.second c.merge_with.result is.is_found made)

pub returns-in_ok-sides-in-Copied : goal.returns-in_ok-sides-in-Copied
returns-in_ok-sides-in-Copied c =
    let q = c.args.query.now in
    let number = c.in-Copied.number in
    let is = sides_found q (crossing_of q c.args.left c.args.right number) c.in_ok-sides-in-Copied.sides
    c.in_ok-sides-in-Copied.ensures in
    let made = c.merge_with-in-Copied.ensures is.first is.second is.is_left is.is_right in
    subst (λ (mode : Mode). Some c.merge_with-in-Copied.result ≡ merge_line q c.args.left c.args.right mode)
    (sym c.in-Copied.is)
    (merge_copied q c.args.left c.args.right number is.first is.second c.merge_with-in-Copied.result is.is_found made)

pub returns-in_ok-sides-in-Hashed : goal.returns-in_ok-sides-in-Hashed
returns-in_ok-sides-in-Hashed c =
    let q = c.args.query.now in
    let number = c.in-Hashed.number in
    let is = sides_found q (crossing_of q c.args.left c.args.right number) c.in_ok-sides-in-Hashed.sides
    c.in_ok-sides-in-Hashed.ensures in
    let made = c.merge_colocated.ensures is.first is.second is.is_left is.is_right in
    subst (λ (mode : Mode). Some c.merge_colocated.result ≡ merge_line q c.args.left c.args.right mode)
    (sym c.in-Hashed.is)
    (merge_hashed q c.args.left c.args.right number is.first is.second c.merge_colocated.result is.is_found made)
