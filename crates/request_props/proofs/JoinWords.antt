-- The words of the joins of a set in order.
use Rattle.std.proofs.Common.{◌≡◌, ℕ, zero, suc, ◌+◌, ◌-◌, ◌<◌, ◌≤◌, ◌⊎◌, inl, inr, List, length, map}
use Rattle.std.proofs.Common.{get_or, refl, ap, sym, subst, ◌∙◌, arith}
use Rattle.std.specs.List.{All, Contains}
use Rattle.std.proofs.lemmas.Bool.{cases_lt}
use Rattle.std.proofs.lemmas.List.{get_or-map, length-map}
use Rattle.std.proofs.lemmas.List.Elements.{All-map}
use Rattle.query_core.specs.Keys.{IsGroupInRange, IsGroup, key_number, top_of}
use Rattle.query_core.specs.Expressions.{fields, fields_of, children_of, packed, word_of, FallsInto, IsJoinNumber}
use Rattle.query_core.specs.Expressions.{AreInRange, IsPacked}
use Rattle.query_core.specs.Finding.{expr, operator_number, IsAt, IsBefore, IsHeldBy, IsJoined}
use Rattle.query_core.specs.declared.query.Query.{Query}
use Rattle.query_core.specs.declared.words.KeyParts.{KeyParts}
use Rattle.query_core.specs.declared.words.KeyParts.TheVariants.{Join, Agg}
use Rattle.query_core.specs.declared.expressions.Logical.TheVariants.{NJoin}
use Rattle.query_core.specs.declared.expressions.Operator.{Operator}
use Rattle.query_core.specs.declared.expressions.Operator.TheVariants as operators
use Rattle.query_core.specs.declared.expressions.Children.TheVariants.{Zero, Two}
use Rattle.query_core.specs.declared.expressions.Fields.{Fields}
use Rattle.query_core.specs.declared.expressions.ExprParts.{ExprParts}
use Rattle.query_core.specs.declared.expressions.TheConstants.{FIRST_JOIN, AFTER_JOINS}
use Rattle.query_core.proofs.ExpressionLemmas.{key_small, fields_small, fields_same, join_there}
use Rattle.query_core.proofs.Finding.{candidate_held, held_candidate, held_packed}
use Rattle.query_core.proofs.Implementations.{number_in, set_alone, shape_children, two_held, two_index}
use Rattle.query_core.proofs.Joins.{sides_in_range}
use Rattle.request_props.proofs.WordsOfKinds.{IsWordOf, AreWordsOf, words_as, words_of_both, word_of_one}
use Rattle.request_props.specs.Candidates.{AreCandidatesOf}
use Rattle.request_props.specs.Joins.{tops_of, AreSides, left_of, AreAllSides, AreBothInRange, join_word, join_words}
use Rattle.request_props.specs.Joins.{words_by, words_over}
use Rattle.request_props.specs.declared.tables.candidates.sides.Sides.{Sides}

-- the join of all tables of a set
abbrev many_of : ℕ → ExprParts
many_of set = expr (Join set) (operators.Logical NJoin)

-- where the words of a set's operators of this number begin
abbrev words_from : ℕ → ℕ → ℕ
words_from set number = packed (key_number (Join set)) (fields number 0 Zero)

-- what stands past the end of a list of sides
abbrev past_end : Sides
past_end = record { left = Agg; right = Agg }

-- the word of what a group holds tells its number
word_below : (set number : ℕ) (e : ExprParts) → IsPacked e → e.group ≡ Join set → operator_number e < number
    → word_of e < words_from set number
word_below set number e in_e same less =
    let small = fields_small e in_e in
    let key : key_number e.group ≡ key_number (Join set) = ap key_number same in
    omega arith

word_at_least : (set number : ℕ) (e : ExprParts) → e.group ≡ Join set → operator_number e ≡ number
    → words_from set number ≤ word_of e
word_at_least set number e same is =
    let key : key_number e.group ≡ key_number (Join set) = ap key_number same in
    omega arith

-- joins of a set by one operator stand in the order of their left sides
words_ordered : (set number : ℕ) (one other : Sides) → AreBothInRange one → left_of one < left_of other
    → join_word set number one < join_word set number other
words_ordered set number one other known less = omega (arith, key_small one.right known.1, less)

-- the parts of a join fit a word
pub join_packed : (set number : ℕ) (sides : Sides) (o : Operator) → IsGroupInRange (Join set) → AreBothInRange sides
    → fields_of o ≡ fields number 0 (Two sides.left sides.right) → IsPacked (expr (Join set) o)
join_packed set number sides o small known is = record {
  group = small;
  index = omega (arith, ap (λ (f : Fields). f.index) is);
  children = subst AreInRange (sym (ap (λ (f : Fields). f.children) is)) known;
}

module _ (q : Query) (set : ℕ) (small : IsGroupInRange (Join set)) where
  -- groups of sides are some that a query can have
  in_range : (sides : Sides) → AreSides q set sides → AreBothInRange sides
  in_range sides (a, b, falls, is) = subst AreBothInRange (sym is) (sides_in_range q set small a b falls)

  -- the joins by the operator of this number
  abbrev IsJoinBy : ℕ → ExprParts → Type 0
  IsJoinBy number e = IsAt (IsJoined q set) operator_number number e

  -- each has the word of its sides
  word_by_sides : (number : ℕ) (e : ExprParts) → IsJoinBy number e
      → (a b : ℕ) × FallsInto q set a b × (word_of e ≡ join_word set number (tops_of q a b))
  word_by_sides number e ((held, (a, b, falls, over)), is) =
      let index = two_index e.operator (top_of q a) (top_of q b) over in
      let same = fields_same (fields_of e.operator) (fields number 0 (Two (top_of q a) (top_of q b))) is index over in (
        a,
        b,
        falls,
        ap (λ (g : KeyParts). packed (key_number g) (fields_of e.operator)) held.0
            ∙ ap (packed (key_number (Join set))) same,
      )

  -- and each pair of sides has its join
  joins_sides : (number a b : ℕ) → IsJoinNumber number → FallsInto q set a b
      → (e : ExprParts) × IsJoinBy number e × (word_of e ≡ join_word set number (tops_of q a b))
  joins_sides number a b joins falls =
      let (o, is) = join_there number (top_of q a) (top_of q b) joins in
      let over : children_of o ≡ Two (top_of q a) (top_of q b) = ap (λ (f : Fields). f.children) is in
      let join = two_held q (Join set) o (top_of q a) (top_of q b) over (set, a, b, refl, falls, refl, refl) in (
        expr (Join set) o,
        (((refl, join), (a, b, falls, over)), ap (λ (f : Fields). f.number) is),
        ap (packed (key_number (Join set))) is,
      )

  -- what a set of tables can hold is the join of all, or a join of two sides
  held_joins : (e : ExprParts) → IsHeldBy q (Join set) e → (e ≡ many_of set) ⊎ IsJoined q set e
  held_joins e (same, shape) = elim (shape_children q (Join set) e.operator shape) [
    | inl none ↦ inl (ap (λ (g : KeyParts). expr g e.operator) same
        ∙ ap (expr (Join set)) (set_alone q set e.operator shape none))
    | inr (a, b, falls, over) ↦ inr ((same, shape), (a, b, falls, over))
  ]

  -- the numbers of its joins are those of joins
  joined_number : (e : ExprParts) → IsJoined q set e → IsJoinNumber (operator_number e)
  joined_number e (held, (a, b, falls, over)) = number_in e.operator (top_of q a) (top_of q b) over

  module _ (found : List Sides) (all : AreAllSides q set found) where
    pub all_in_range : All AreBothInRange found
    all_in_range k d within = in_range (get_or found k d) (all.sound k d within)

    -- the words of the joins by one operator over all sides
    words_of_number : (number : ℕ) → IsJoinNumber number → AreWordsOf (IsJoinBy number) (join_words set number found)
    words_of_number number joins = record {
      ascending = λ k within.
          let next : k + 1 < length found = omega (arith, length-map found (join_word set number), within) in
          let here : k < length found = omega (arith, next) in
          let inside : k + 1 < length (map left_of found) = omega (arith, length-map found left_of, next) in
          let one = get_or found k past_end in
          let other = get_or found (k + 1) past_end in
          let less : left_of one < left_of other =
          omega (
            arith,
            all.ascending k inside,
            get_or-map left_of found k past_end 0 here,
            get_or-map left_of found (k + 1) past_end 0 next,
          ) in
          let later = words_ordered set number one other (in_range one (all.sound k past_end here)) less in
          omega (
            arith,
            later,
            get_or-map (join_word set number) found k past_end 0 here,
            get_or-map (join_word set number) found (k + 1) past_end 0 next,
          );
      sound = All-map (IsWordOf (IsJoinBy number)) (join_word set number) found
          (λ k d within. let (a, b, falls, is) = all.sound k d within in
          let (e, kind, word) = joins_sides number a b joins falls in
          (e, kind, word ∙ ap (join_word set number) (sym is)));
      complete = λ e kind.
          let (a, b, falls, word) = word_by_sides number e kind in
          let (k, within, is) = all.complete a b falls in (
            k,
            omega (arith, length-map found (join_word set number), within),
            get_or-map (join_word set number) found k (tops_of q a b) (word_of e) within
                ∙ (ap (join_word set number) is ∙ sym word),
          );
    }

    module _ (known : IsGroup q (Join set)) where
      -- the word of the join of all tables, and behind it those of the first operators over two groups
      words_upto : (place : ℕ) → place ≤ AFTER_JOINS - FIRST_JOIN
          → AreWordsOf (IsBefore (IsHeldBy q (Join set)) operator_number (FIRST_JOIN + place))
          (words_by set found place)
      words_upto zero upto =
          words_as (λ e. e ≡ many_of set) (IsBefore (IsHeldBy q (Join set)) operator_number (FIRST_JOIN + zero)) _
          (λ e same. subst (IsBefore (IsHeldBy q (Join set)) operator_number (FIRST_JOIN + zero)) (sym same)
          ((refl, (set, refl)), omega arith))
          (λ e (held, less). elim (held_joins e held) [
            | inl many ↦ many
            | inr joined ↦ absurd (omega (arith, (joined_number e joined).0, less))
          ])
          (word_of_one (many_of set))
      words_upto (suc place) upto =
          let Held = IsHeldBy q (Join set) in
          let number = FIRST_JOIN + place in
          words_as (λ e. IsBefore Held operator_number number e ⊎ IsJoinBy number e)
          (IsBefore Held operator_number (FIRST_JOIN + suc place)) _
          (λ e both. elim both [
            | inl (held, less) ↦ (held, omega (arith, less))
            | inr ((held, joined), is) ↦ (held, omega (arith, is))
          ])
          (λ e (held, less). elim (cases_lt (operator_number e) number) [
            | inl lesser ↦ inl (held, lesser)
            | inr more ↦ elim (held_joins e held) [
              | inl many ↦ absurd (omega (arith, more, ap operator_number many))
              | inr joined ↦ inr (joined, omega (arith, less, more))
            ]
          ])
          (words_of_both (IsBefore Held operator_number number) (IsJoinBy number) (words_from set number)
          (words_by set found place) (join_words set number found)
          (λ e (held, less). word_below set number e (held_packed q (Join set) known e held) held.0 less)
          (λ e ((held, joined), is). word_at_least set number e held.0 is)
          (words_upto place (omega (arith, upto))) (words_of_number number (omega arith, omega (arith, upto))))

      -- they are the words of what the group can hold
      pub candidates_over : AreCandidatesOf q (Join set) (words_over set found)
      candidates_over =
          let are = words_upto (AFTER_JOINS - FIRST_JOIN) (omega arith) in
          record {
            ascending = are.ascending;
            sound = λ k d within.
                let (e, (held, less), is) = are.sound k d within in
                (e, held_candidate q (Join set) known e held, held.0, is);
            complete = λ w (e, candidate, same, is).
                let held = candidate_held q (Join set) e candidate same in
                let less : operator_number e < FIRST_JOIN + (AFTER_JOINS - FIRST_JOIN) = elim (held_joins e held) [
                  | inl many ↦ omega (arith, ap operator_number many)
                  | inr joined ↦ omega (arith, (joined_number e joined).1)
                ] in
                subst (Contains (words_over set found)) is (are.complete e (held, less));
          }
