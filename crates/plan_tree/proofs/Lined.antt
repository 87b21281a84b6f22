-- The lines of joins, by what is looked up of their equalities.
use Rattle.std.proofs.Common.{◌≡◌, ℕ, Option, Some, None, refl, ap}
use Rattle.std.specs.Option.{option_map}
use Rattle.query_core.specs.Crossing.{crossing_of}
use Rattle.query_core.specs.declared.query.Query.{Query}
use Rattle.query_core.specs.declared.words.KeyParts.{KeyParts}
use Rattle.request_props.specs.Numbered.{side_of, both_sides}
use Rattle.request_props.specs.declared.request.Dist.TheVariants as dists
use Rattle.request_props.specs.declared.sides.Side.{Side}
use Rattle.plan_space.specs.Lines.{on_one, hash_colocated, hash_line, merge_with, merge_colocated, merge_line}
use Rattle.plan_space.specs.declared.lines.Line.{Line}
use Rattle.plan_space.specs.declared.modes.Mode.TheVariants.{Plain, Copied, Hashed}
use Rattle.plan_space.specs.declared.lines.LeftDist.TheVariants as left_dists

-- the two sides are those of these columns
pub record AreSides (q : Query) (found : Option (ℕ × ℕ)) (left right : Side) : Type 0 where
  pub first : ℕ
  pub second : ℕ
  pub is_found : found ≡ Some (first, second)
  pub is_left : left ≡ side_of q first
  pub is_right : right ≡ side_of q second

-- what is looked up are the sides of the columns that cross
pub sides_found : (q : Query) (found : Option (ℕ × ℕ)) (sides : Side × Side)
    → Some sides ≡ option_map (both_sides q) found → AreSides q found sides.0 sides.1
sides_found q None sides is = let never : Some sides ≡ None = is in cc
sides_found q (Some columns) sides is =
    let same : sides ≡ both_sides q columns = cc in
    record {
      first = columns.0;
      second = columns.1;
      is_found = refl;
      is_left = ap (λ (both : Side × Side). both.0) same;
      is_right = ap (λ (both : Side × Side). both.1) same;
    }

module _ (q : Query) (left right : KeyParts) (number first second : ℕ) (line : Line)
    (crossing : crossing_of q left right number ≡ Some (first, second)) where
  -- a hash join hashed alike
  pub hash_found : line ≡ hash_colocated q (first, second) → Some line ≡ hash_line q left right (Hashed number)
  hash_found is = rw crossing (ap Some is)

  -- a merge join on one segment
  pub merge_one : line ≡ merge_with q on_one dists.One (first, second)
      → Some line ≡ merge_line q left right (Plain number)
  merge_one is = rw crossing (ap Some is)

  -- a merge join with copies
  pub merge_copied : line ≡ merge_with q left_dists.SameSpread dists.Copies (first, second)
      → Some line ≡ merge_line q left right (Copied number)
  merge_copied is = rw crossing (ap Some is)

  -- a merge join hashed alike
  pub merge_hashed : line ≡ merge_colocated q (first, second) → Some line ≡ merge_line q left right (Hashed number)
  merge_hashed is = rw crossing (ap Some is)
