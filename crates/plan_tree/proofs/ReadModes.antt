-- The modes in which a read of a table serves a request.
use Rattle.std.proofs.Common.{◌↔◌, ℕ}
use Rattle.std.proofs.Common.{slice_get}
use Rattle.query_core.specs.Expressions.{table_in}
use Rattle.query_core.specs.declared.expressions.Children.TheVariants.{Zero}
use Rattle.query_core.specs.declared.query.Query.{Query}
use Rattle.query_core.specs.declared.words.KeyParts.{KeyParts}
use Rattle.request_props.specs.NumberSets.{IsInSet}
use Rattle.request_props.specs.Numbered.{order_of}
use Rattle.request_props.specs.Satisfied.{BeginsWith, given_order}
use Rattle.request_props.specs.declared.given.GivenDist.{GivenDist}
use Rattle.request_props.specs.declared.given.GivenOrder.{GivenOrder}
use Rattle.request_props.specs.declared.request.Request.{Request}
use Rattle.plan_space.specs.Alternatives.{LineServes}
use Rattle.plan_space.specs.Lines.{dists_of_table, table_line}
use Rattle.plan_space.specs.Modes.{HasModeIn}
use Rattle.plan_space.specs.declared.lines.Line.{Line}
use Rattle.plan_space.specs.declared.lines.Line.TheVariants.{Leaf}
use Rattle.plan_space.specs.declared.modes.Mode.{Mode}
use Rattle.plan_space.specs.declared.modes.Mode.TheVariants.{Plain, Copied, Hashed}
use Rattle.plan_space.specs.declared.modes.ModeSets.{ModeSets}
use Rattle.plan_tree.specs.ServingModes.{MeetsAt, ServesBy}
use Rattle.plan_tree.proofs.FoundLines.{by_made, nothing_found}

module _ (q : Query) (group : KeyParts) (order : GivenOrder) (wanted : Request) where
  abbrev Serves : Line → Type 0
  Serves line = LineServes q line Zero wanted

  -- a read serves by a distribution that is as asked, in an order that is
  read_by : (number : ℕ) → ServesBy q (table_line q group order (Plain number)) Zero wanted
      ↔ (MeetsAt (dists_of_table q (table_in group)) number wanted.dist
      × BeginsWith (given_order q order) (order_of q wanted.order))
  read_by number =
      let found = by_made Serves (λ (dist : GivenDist). Leaf dist order)
      (slice_get (dists_of_table q (table_in group)) number) in (
        λ serves. let (dist, is, holds) = found.0 serves in ((dist, is, holds.dist), holds.order),
        λ ((dist, is, met), begins). found.1 (dist, is, record { dist = met; order = begins }),
      )

  pub reads_serve : (modes : ModeSets) → BeginsWith (given_order q order) (order_of q wanted.order)
      → ((n : ℕ) → IsInSet modes.plain n ↔ MeetsAt (dists_of_table q (table_in group)) n wanted.dist)
      → ((n : ℕ) → IsInSet modes.copied n → ⊥) → ((n : ℕ) → IsInSet modes.hashed n → ⊥)
      → (mode : Mode) → HasModeIn modes mode ↔ ServesBy q (table_line q group order mode) Zero wanted
  reads_serve modes begins plain copied hashed (Plain n) = (
    λ has. (read_by n).1 ((plain n).0 has, begins),
    λ serves. (plain n).1 ((read_by n).0 serves).0,
  )
  reads_serve modes begins plain copied hashed (Copied n) =
      (λ has. absurd (copied n has), λ serves. absurd (nothing_found Serves serves))
  reads_serve modes begins plain copied hashed (Hashed n) =
      (λ has. absurd (hashed n has), λ serves. absurd (nothing_found Serves serves))

  pub reads_none : (modes : ModeSets) → (BeginsWith (given_order q order) (order_of q wanted.order) → ⊥)
      → ((mode : Mode) → HasModeIn modes mode → ⊥)
      → (mode : Mode) → HasModeIn modes mode ↔ ServesBy q (table_line q group order mode) Zero wanted
  reads_none modes never none (Plain n) =
      (λ has. absurd (none (Plain n) has), λ serves. absurd (never ((read_by n).0 serves).1))
  reads_none modes never none (Copied n) =
      (λ has. absurd (none (Copied n) has), λ serves. absurd (nothing_found Serves serves))
  reads_none modes never none (Hashed n) =
      (λ has. absurd (none (Hashed n) has), λ serves. absurd (nothing_found Serves serves))
