-- The mode of a node that a query can name is one that the numbers of modes have place for.
use Rattle.std.proofs.Common.{◌≡◌, ℕ, ◌+◌, ◌-◌, ◌<◌, ◌≤◌, length, sym, ap, ◌∙◌, arith}
use Rattle.query_core.specs.declared.query.Query.{Query}
use Rattle.request_props.specs.Numbered.{lists_of}
use Rattle.plan_space.specs.Modes.{mode_at, modes_end}
use Rattle.plan_space.specs.declared.modes.Mode.{Mode}
use Rattle.plan_space.specs.declared.modes.Mode.TheVariants as modes
use Rattle.plan_space.specs.declared.ways.JoinBy.{JoinBy}
use Rattle.plan_space.specs.declared.ways.JoinBy.TheVariants as joins
use Rattle.plan_space.specs.declared.ways.Way.{Way}
use Rattle.plan_space.specs.declared.ways.Way.TheVariants.{Reads, Passes, Joins, Groups}
use Rattle.plan_space.proofs.ModeNumbers.{plain_at, copied_at, hashed_at}
use Rattle.plan_reading.specs.Named.{HasModeForm, HasOnlyForm, HasReadForm, HasJoinForm, HasAggForm}
use Rattle.plan_reading.specs.NodeOver.{number_in, IsSmall}
use Rattle.plan_reading.proofs.ReadTexts.{read_few}

-- a small mode has a number
pub record HasNumber (mode : Mode) : Type 0 where
  pub less : number_in mode < modes_end
  pub back : mode ≡ mode_at (number_in mode)

pub has_number : (mode : Mode) → IsSmall mode → HasNumber mode
has_number (modes.Plain n) small = record { less = omega (arith, small); back = sym (plain_at n small) }
has_number (modes.Copied n) small = record {
  less = omega (arith, small);
  back = let e : (64 + n) - 64 ≡ n = omega arith in
      sym (copied_at (64 + n) (omega arith) (omega (arith, small)) ∙ ap modes.Copied e);
}
has_number (modes.Hashed n) small = record {
  less = omega (arith, small);
  back = let e : (128 + n) - 128 ≡ n = omega arith in sym (hashed_at (128 + n) (omega arith) ∙ ap modes.Hashed e);
}

module _ (q : Query) where
  preds_small : (n : ℕ) → n < length q.preds → n < 64
  preds_small n below = let few = q.preds_valid.few in omega (arith, below, few)

  only_small : (mode : Mode) → HasOnlyForm mode → IsSmall mode
  only_small (modes.Plain n) form = omega (arith, form)
  only_small (modes.Copied n) form = absurd form
  only_small (modes.Hashed n) form = absurd form

  read_small : (t : ℕ) (mode : Mode) → HasReadForm q t mode → IsSmall mode
  read_small t (modes.Plain n) form = let few = read_few q t n form in omega (arith, few)
  read_small t (modes.Copied n) form = absurd form
  read_small t (modes.Hashed n) form = absurd form

  join_small : (by : JoinBy) (mode : Mode) → HasJoinForm q by mode → IsSmall mode
  join_small joins.Hashing (modes.Plain n) form = omega (arith, form)
  join_small joins.Hashing (modes.Copied n) form = omega (arith, form)
  join_small joins.Hashing (modes.Hashed n) form = preds_small n form
  join_small joins.Merging (modes.Plain n) form = preds_small n form
  join_small joins.Merging (modes.Copied n) form = preds_small n form
  join_small joins.Merging (modes.Hashed n) form = preds_small n form
  join_small joins.Looping (modes.Plain n) form = omega (arith, form)
  join_small joins.Looping (modes.Copied n) form = omega (arith, form)
  join_small joins.Looping (modes.Hashed n) form = absurd form

  module _ (few_lists : length (lists_of q) ≤ 60) where
    agg_small : (mode : Mode) → HasAggForm q mode → IsSmall mode
    agg_small (modes.Plain n) form = omega (arith, form)
    agg_small (modes.Copied n) form = absurd form
    agg_small (modes.Hashed n) form = omega (arith, form, few_lists)

    pub mode_small : (way : Way) (t : ℕ) (mode : Mode) → HasModeForm q way t mode → IsSmall mode
    mode_small (Reads access) t mode form = read_small t mode form
    mode_small (Passes kept child) t mode form = only_small mode form
    mode_small (Joins by left right) t mode form = join_small by mode form
    mode_small (Groups by child) t mode form = agg_small mode form
