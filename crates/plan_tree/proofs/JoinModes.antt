-- The modes of a join that serve a request, as sets: by the numbers that give the order, where the distribution can be
-- given on one segment or spread, and by the predicates whose left columns give both.
use Rattle.std.proofs.Common.{◌≡◌, ◌↔◌, ℕ, ◌<◌, [], Some, sym, ap, ◌∙◌, subst, arith}
use Rattle.std.specs.Prelude.{Option}
use Rattle.std.proofs.lemmas.List.Elements.{All-nil}
use Rattle.query_core.specs.Crossing.{crossing_of}
use Rattle.query_core.specs.declared.query.Query.{Query}
use Rattle.query_core.specs.declared.words.KeyParts.{KeyParts}
use Rattle.request_props.specs.Ends.{AreCrossingBy}
use Rattle.request_props.specs.Fitting.{OrderFits}
use Rattle.request_props.specs.NumberSets.{IsInSet}
use Rattle.request_props.specs.Numbered.{column_list, column_order, order_of}
use Rattle.request_props.specs.Satisfied.{BeginsWith, Meets}
use Rattle.request_props.specs.declared.given.GivenDist.TheVariants as given
use Rattle.request_props.specs.declared.number_set.NumberSet.{NumberSet}
use Rattle.request_props.specs.declared.request.Request.{Request}
use Rattle.plan_space.specs.Lines.{in_order, on_one}
use Rattle.plan_space.specs.Modes.{HasModeIn}
use Rattle.plan_space.specs.declared.lines.LeftDist.TheVariants.{SameSpread}
use Rattle.plan_space.specs.declared.modes.Mode.{Mode}
use Rattle.plan_space.specs.declared.modes.Mode.TheVariants.{Plain, Copied, Hashed}
use Rattle.plan_space.specs.declared.modes.ModeSets.{ModeSets}
use Rattle.plan_space.specs.declared.ways.JoinBy.{JoinBy}
use Rattle.plan_space.specs.declared.ways.JoinBy.TheVariants as joins
use Rattle.plan_tree.specs.ServingModes.{AreFittingLeft, AreJoinModes}
use Rattle.plan_tree.proofs.JoinNeeds.{JoinNeeds, Ordered, Placed, join_needs}

-- what crosses has one left column
same_left : (found : Option (ℕ × ℕ)) (a b c d : ℕ) → found ≡ Some (a, b) → found ≡ Some (c, d) → c ≡ a
same_left found a b c d one other =
    let both : Some (c, d) ≡ Some (a, b) = sym other ∙ one in
    let pair : (c, d) ≡ (a, b) = cc in
    ap (λ (sides : ℕ × ℕ). sides.0) pair

module _ (q : Query) (left right : KeyParts) (wanted : Request) where
  -- rows in the order of the column are in the order
  abbrev pub MergesIn : ℕ → Type 0
  MergesIn a = BeginsWith (order_of q (column_order q a)) (order_of q wanted.order)

  -- rows hashed by the column are distributed as asked
  abbrev pub HashesTo : ℕ → Type 0
  HashesTo a = Meets (given.Hashed (column_list q a)) wanted.dist

  -- rows in no order, where none is asked for
  pub in_none : BeginsWith [] (order_of q wanted.order) → Ordered q left right wanted (in_order 0)
  in_none none = (none, record { numbered = omega arith; lies_in = All-nil _ })

  -- by what a join needs
  pub modes_by : (by : JoinBy) (modes : ModeSets)
      → ((mode : Mode) → JoinNeeds q left right wanted by mode → HasModeIn modes mode)
      → (AreFittingLeft q left right → (mode : Mode) → HasModeIn modes mode → JoinNeeds q left right wanted by mode)
      → AreJoinModes q by left right wanted modes
  modes_by by modes all only = record {
    all = λ mode serves. all mode ((join_needs q left right wanted by mode).0 serves);
    only = λ known mode has. (join_needs q left right wanted by mode).1 (only known mode has);
  }

  module _ (numbers : NumberSet) (modes : ModeSets)
      (plain : (n : ℕ) → IsInSet modes.plain n ↔ (IsInSet numbers n × Placed q left right wanted on_one))
      (copied : (n : ℕ) → IsInSet modes.copied n ↔ (IsInSet numbers n × Placed q left right wanted SameSpread)) where
    module _ (first : (n : ℕ) → n < 1 → IsInSet numbers n) (only : (n : ℕ) → IsInSet numbers n → n < 1) where
      -- of a hash join, where no order is asked for
      pub hash_modes : AreCrossingBy q left right HashesTo modes.hashed → BeginsWith [] (order_of q wanted.order)
          → AreJoinModes q joins.Hashing left right wanted modes
      hash_modes hashes none = modes_by joins.Hashing modes all_in only_in
        where
          all_in : (mode : Mode) → JoinNeeds q left right wanted joins.Hashing mode → HasModeIn modes mode
          all_in (Plain n) (near, placed, ordered) = (plain n).1 (first n near, placed)
          all_in (Copied n) (near, placed, ordered) = (copied n).1 (first n near, placed)
          all_in (Hashed n) (a, b, crosses, (placed, ordered)) = (hashes n).1 (a, b, crosses, placed.0)

          only_in : AreFittingLeft q left right → (mode : Mode) → HasModeIn modes mode
              → JoinNeeds q left right wanted joins.Hashing mode
          only_in known (Plain n) has = let (among, placed) = (plain n).0 has in (only n among, placed, in_none none)
          only_in known (Copied n) has = let (among, placed) = (copied n).0 has in (only n among, placed, in_none none)
          only_in known (Hashed n) has =
              let (a, b, crosses, hashed) = (hashes n).0 has in
              (a, b, crosses, ((hashed, (known n a b crosses).0), in_none none))

      -- of a loop join, where the order fits the left child
      pub loop_modes : ((n : ℕ) → IsInSet modes.hashed n → ⊥) → OrderFits q left wanted.order
          → AreJoinModes q joins.Looping left right wanted modes
      loop_modes nowhere fits = modes_by joins.Looping modes all_in only_in
        where
          all_in : (mode : Mode) → JoinNeeds q left right wanted joins.Looping mode → HasModeIn modes mode
          all_in (Plain n) (near, placed, ordered) = (plain n).1 (first n near, placed)
          all_in (Copied n) (near, placed, ordered) = (copied n).1 (first n near, placed)
          all_in (Hashed n) never = absurd never

          only_in : AreFittingLeft q left right → (mode : Mode) → HasModeIn modes mode
              → JoinNeeds q left right wanted joins.Looping mode
          only_in known (Plain n) has = let (among, placed) = (plain n).0 has in (only n among, placed, (tt, fits))
          only_in known (Copied n) has = let (among, placed) = (copied n).0 has in (only n among, placed, (tt, fits))
          only_in known (Hashed n) has = absurd (nowhere n has)

    -- of a merge join
    pub merge_modes : (hashing : NumberSet) → AreCrossingBy q left right MergesIn numbers
        → AreCrossingBy q left right HashesTo hashing
        → ((n : ℕ) → IsInSet modes.hashed n ↔ (IsInSet numbers n × IsInSet hashing n))
        → AreJoinModes q joins.Merging left right wanted modes
    merge_modes hashing merges hashes both = modes_by joins.Merging modes all_in only_in
      where
        all_in : (mode : Mode) → JoinNeeds q left right wanted joins.Merging mode → HasModeIn modes mode
        all_in (Plain n) (a, b, crosses, (placed, ordered)) =
            (plain n).1 ((merges n).1 (a, b, crosses, ordered.0), placed)
        all_in (Copied n) (a, b, crosses, (placed, ordered)) =
            (copied n).1 ((merges n).1 (a, b, crosses, ordered.0), placed)
        all_in (Hashed n) (a, b, crosses, (placed, ordered)) =
            (both n).1 ((merges n).1 (a, b, crosses, ordered.0), (hashes n).1 (a, b, crosses, placed.0))

        only_in : AreFittingLeft q left right → (mode : Mode) → HasModeIn modes mode
            → JoinNeeds q left right wanted joins.Merging mode
        only_in known (Plain n) has =
            let (among, placed) = (plain n).0 has in
            let (a, b, crosses, ordered) = (merges n).0 among in
            (a, b, crosses, (placed, (ordered, (known n a b crosses).1)))
        only_in known (Copied n) has =
            let (among, placed) = (copied n).0 has in
            let (a, b, crosses, ordered) = (merges n).0 among in
            (a, b, crosses, (placed, (ordered, (known n a b crosses).1)))
        only_in known (Hashed n) has =
            let (among, hashed) = (both n).0 has in
            let (a, b, crosses, ordered) = (merges n).0 among in
            let (c, d, crosses_too, met) = (hashes n).0 hashed in
            let same = same_left (crossing_of q left right n) a b c d crosses crosses_too in
            let (list_fits, order_fits) = known n a b crosses in
            (a, b, crosses, ((subst HashesTo same met, list_fits), (ordered, order_fits)))
