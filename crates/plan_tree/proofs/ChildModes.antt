-- The modes in which what stands on one child serves a request.
use Rattle.std.proofs.Common.{◌↔◌, ℕ, ◌<◌, IsTrue, length, nat_lt}
use Rattle.std.proofs.lemmas.Bool.{and_parts}
use Rattle.query_core.specs.declared.expressions.Children.TheVariants.{One}
use Rattle.query_core.specs.declared.query.Query.{Query}
use Rattle.query_core.specs.declared.words.KeyParts.{KeyParts}
use Rattle.request_props.specs.NumberSets.{IsInSet}
use Rattle.request_props.specs.Numbered.{are_grouped, is_grouped_list, list_of, lists_of, order_of}
use Rattle.request_props.specs.Satisfied.{BeginsWith, Meets}
use Rattle.request_props.specs.declared.given.GivenDist.TheVariants as given
use Rattle.request_props.specs.declared.request.Request.{Request}
use Rattle.plan_space.specs.Alternatives.{DistServes, LineServes}
use Rattle.plan_space.specs.Lines.{agg_line, in_order, kept_line, on_one, single_line}
use Rattle.plan_space.specs.Modes.{HasModeIn}
use Rattle.plan_space.specs.declared.lines.LeftDist.TheVariants.{Grouped}
use Rattle.plan_space.specs.declared.lines.Line.{Line}
use Rattle.plan_space.specs.declared.lines.Line.TheVariants.{Above}
use Rattle.plan_space.specs.declared.modes.Mode.{Mode}
use Rattle.plan_space.specs.declared.modes.Mode.TheVariants.{Plain, Copied, Hashed}
use Rattle.plan_space.specs.declared.modes.ModeSets.{ModeSets}
use Rattle.plan_space.specs.declared.ways.Kept.{Kept}
use Rattle.plan_tree.specs.ServingModes.{ServesBy}
use Rattle.plan_tree.proofs.FoundLines.{by_first, by_test, nothing_found}

-- a list that is grouped has a number
pub grouped_numbered : (q : Query) (list : ℕ) → IsTrue (is_grouped_list q list)
    → IsTrue (nat_lt list (length (lists_of q)))
grouped_numbered q list is = (and_parts (nat_lt list (length (lists_of q))) (are_grouped q (list_of q list)) is).0

module _ (q : Query) (child : KeyParts) (wanted : Request) where
  abbrev Serves : Line → Type 0
  Serves line = LineServes q line (One child) wanted

  -- what passes rows on serves in its one mode
  pub kept_serve : (kept : Kept) (modes : ModeSets)
      → ((n : ℕ) → IsInSet modes.plain n ↔ ((n < 1) × Serves (kept_line kept)))
      → ((n : ℕ) → IsInSet modes.copied n → ⊥) → ((n : ℕ) → IsInSet modes.hashed n → ⊥)
      → (mode : Mode) → HasModeIn modes mode ↔ ServesBy q (single_line (kept_line kept) mode) (One child) wanted
  kept_serve kept modes plain copied hashed (Plain n) =
      let by = by_first Serves (kept_line kept) n in
      (λ has. by.1 ((plain n).0 has), λ serves. (plain n).1 (by.0 serves))
  kept_serve kept modes plain copied hashed (Copied n) =
      (λ has. absurd (copied n has), λ serves. absurd (nothing_found Serves serves))
  kept_serve kept modes plain copied hashed (Hashed n) =
      (λ has. absurd (hashed n has), λ serves. absurd (nothing_found Serves serves))

  module _ (order : ℕ) where
    abbrev Begins : Type 0
    Begins = BeginsWith (order_of q order) (order_of q wanted.order)

    -- an aggregation serves on one segment
    group_one : (number : ℕ) → ServesBy q (agg_line q order (Plain number)) (One child) wanted
        ↔ (((number < 1) × Meets given.One wanted.dist) × Begins)
    group_one number =
        let by = by_first Serves (Above on_one (in_order order)) number in (
          λ serves. let (near, is) = by.0 serves in ((near, is.dist_served), is.order_served),
          λ ((near, met), begins). by.1 (near, record { dist_served = met; order_served = begins }),
        )

    -- or by a list
    group_by : (list : ℕ) → ServesBy q (agg_line q order (Hashed list)) (One child) wanted
        ↔ (DistServes q (Grouped list) wanted.dist × Begins)
    group_by list =
        let by = by_test Serves (Above (Grouped list) (in_order order)) (nat_lt list (length (lists_of q))) in (
          λ serves. let (numbered, is) = by.0 serves in (is.dist_served, is.order_served),
          λ (served, begins). by.1 (
            grouped_numbered q list served.0,
            record { dist_served = served; order_served = begins },
          ),
        )

    -- in an order that is as asked
    pub groups_serve : (modes : ModeSets) → Begins
        → ((n : ℕ) → IsInSet modes.plain n ↔ ((n < 1) × Meets given.One wanted.dist))
        → ((n : ℕ) → IsInSet modes.copied n → ⊥)
        → ((n : ℕ) → IsInSet modes.hashed n ↔ DistServes q (Grouped n) wanted.dist)
        → (mode : Mode) → HasModeIn modes mode ↔ ServesBy q (agg_line q order mode) (One child) wanted
    groups_serve modes begins plain copied hashed (Plain n) = (
      λ has. (group_one n).1 ((plain n).0 has, begins),
      λ serves. (plain n).1 ((group_one n).0 serves).0,
    )
    groups_serve modes begins plain copied hashed (Copied n) =
        (λ has. absurd (copied n has), λ serves. absurd (nothing_found Serves serves))
    groups_serve modes begins plain copied hashed (Hashed n) = (
      λ has. (group_by n).1 ((hashed n).0 has, begins),
      λ serves. (hashed n).1 ((group_by n).0 serves).0,
    )

    -- and in no other
    pub groups_none : (modes : ModeSets) → (Begins → ⊥) → ((mode : Mode) → HasModeIn modes mode → ⊥)
        → (mode : Mode) → HasModeIn modes mode ↔ ServesBy q (agg_line q order mode) (One child) wanted
    groups_none modes never none (Plain n) =
        (λ has. absurd (none (Plain n) has), λ serves. absurd (never ((group_one n).0 serves).1))
    groups_none modes never none (Copied n) =
        (λ has. absurd (none (Copied n) has), λ serves. absurd (nothing_found Serves serves))
    groups_none modes never none (Hashed n) =
        (λ has. absurd (none (Hashed n) has), λ serves. absurd (never ((group_by n).0 serves).1))
