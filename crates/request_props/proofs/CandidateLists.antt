-- The words of a group's candidates, as they are found one after the other, and as the next one is looked up.
use Rattle.std.proofs.Common.{◌≡◌, ℕ, ◌+◌, ◌-◌, ◌^◌, ◌<◌, ◌≤◌, ◌⊎◌, inl, inr, List, [], ◌∷◌, ◌++◌, Option, None, Some}
use Rattle.std.proofs.Common.{length, get_or, refl, ap, subst, sym, ◌∙◌, arith}
use Rattle.std.specs.Prelude.{◌↔◌, slice_index}
use Rattle.std.specs.List.{All, Contains}
use Rattle.std.specs.List.Sorted.{IsStrictlyIncreasing}
use Rattle.std.proofs.lemmas.Bool.{cases_lt, cases_eq}
use Rattle.std.proofs.lemmas.List.{get_or_default, get_or_append_left}
use Rattle.std.proofs.lemmas.List.Elements.{All-push, Contains-append_left, Contains-push, Contains-push_cases}
use Rattle.std.proofs.lemmas.Map.Keys.{sorted_from_strictly_increasing, below_from_sorted}
use Rattle.std.proofs.Math.Seq.{get_or-append_seam}
use Rattle.query_core.specs.Candidates.{IsAfter, IsNext, IsLast}
use Rattle.query_core.specs.Expressions.{IsCandidateOf}
use Rattle.query_core.specs.Keys.{key_number, IsGroup, NamesGroup}
use Rattle.query_core.specs.declared.query.Query.{Query}
use Rattle.query_core.specs.declared.words.Expr.{Expr}
use Rattle.query_core.specs.declared.words.KeyParts.{KeyParts}
use Rattle.query_core.proofs.Rising.{rises_push}
use Rattle.request_props.specs.Groups.{key_of}
use Rattle.request_props.specs.Candidates.{AreCandidatesOf}

-- how many numbers of 64 bits are after the one before
abbrev pub left_after : Option Expr → ℕ
left_after None = 2 ^ 64
left_after (Some before) = 2 ^ 64 - 1 - before.0

-- what isn't after the word before is below what is
below_after : (before : Option Expr) (v w : ℕ) → (IsAfter before v → ⊥) → IsAfter before w → v < w
below_after None v w old after = absurd (old refl)
below_after (Some b) v w old after = elim (cases_lt b.0 v) [
  | inl less ↦ absurd (old less)
  | inr more ↦
      omega (arith, more, after)
]

module _ (q : Query) (group : KeyParts) where
  -- all candidates that aren't after the one before, and no others
  pub record AreUpTo (before : Option Expr) (words : List ℕ) : Type 0 where
    pub ascending : IsStrictlyIncreasing words
    pub sound : All (IsCandidateOf q group) words
    pub none_after : (word : ℕ) → Contains words word → IsAfter before word → ⊥
    pub complete : (word : ℕ) → IsCandidateOf q group word → IsAfter before word ⊎ Contains words word

  pub none_yet : AreUpTo None []
  none_yet = record {
    ascending = λ k within. absurd (omega (arith, within));
    sound = λ k d within. absurd (omega (arith, within));
    none_after = λ word (k, within, is) after. omega (arith, within);
    complete = λ word candidate. inl refl;
  }

  -- the next one comes behind them
  pub one_more : (before : Option Expr) (words : List ℕ) (next : Expr) → AreUpTo before words
      → IsNext q group before next.0 → AreUpTo (Some next) (words ++ next.0 ∷ [])
  one_more before words next up_to is = record {
    ascending = rises_push words next.0 up_to.ascending
        (λ v there. below_after before v next.0 (up_to.none_after v there) is.after);
    sound = All-push (IsCandidateOf q group) words next.0 up_to.sound is.candidate;
    none_after = λ v there after. elim (Contains-push_cases words next.0 v there) [
      | inl old ↦ omega (arith, after, below_after before v next.0 (up_to.none_after v old) is.after)
      | inr same ↦ omega (arith, after, same)
    ];
    complete = λ v candidate. elim (up_to.complete v candidate) [
      | inl after ↦ elim (cases_lt next.0 v) [
        | inl less ↦ inl less
        | inr more ↦
            let same : next.0 ≡ v = omega (arith, more, is.least v candidate after) in
            inr (subst (Contains (words ++ next.0 ∷ [])) same (Contains-push words next.0))
      ]
      | inr old ↦ inr (Contains-append_left words (next.0 ∷ []) v old)
    ];
  }

  -- where none comes any more, they are all
  pub all_found : (before : Option Expr) (words : List ℕ) → AreUpTo before words → IsLast q group before
      → AreCandidatesOf q group words
  all_found before words up_to last = record {
    ascending = up_to.ascending;
    sound = up_to.sound;
    complete = λ v candidate. elim (up_to.complete v candidate) [
      | inl after ↦
          absurd (last v candidate after)
      | inr there ↦ there
    ];
  }

  module _ (before : Option Expr) (bound : ℕ) (is_bound : (w : ℕ) → (bound ≤ w) ↔ IsAfter before w) (words : List ℕ)
      (are : AreCandidatesOf q group words) (place : ℕ)
      (below : (k : ℕ) → k < place → slice_index words k < bound) (from : (k : ℕ) → place ≤ k → k < length words
      → bound ≤ slice_index words k) where
    -- a candidate after the one before stands at this place or behind it
    stands : (v : ℕ) → IsCandidateOf q group v → IsAfter before v → (k : ℕ) × (place ≤ k) × (k < length words)
        × (get_or words k 0 ≡ v)
    stands v candidate after =
        let (k, within, is) = are.complete v candidate in
        let value : get_or words k 0 ≡ v = get_or_default words k 0 v within ∙ is in
        elim (cases_lt k place) [
          | inl less ↦ absurd (omega (arith, below k less, value, (is_bound v).1 after))
          | inr more ↦ (k, more, within, value)
        ]

    -- the word at the place is the next one
    pub next_at : (found : Expr) → place < length words → get_or words place 0 ≡ found.0 → IsNext q group before found.0
    next_at found within is = record {
      candidate = subst (IsCandidateOf q group) is (are.sound place 0 within);
      after = (is_bound found.0).0 (omega (arith, from place (omega arith) within, is));
      least = λ v candidate after.
          let (k, more, inside, value) = stands v candidate after in
          elim (cases_eq place k) [
            | inl same ↦ omega (arith, is, value, ap (λ i. get_or words i 0) same)
            | inr differs ↦ omega (
              arith,
              below_from_sorted words place k 0
                  (sorted_from_strictly_increasing words are.ascending) (omega (arith, more, differs)) inside,
              is,
              value,
            )
          ];
    }

    -- and where there is none, none comes any more
    pub none_at : length words ≤ place → IsLast q group before
    none_at past v candidate after =
        let (k, more, inside, value) = stands v candidate after in
        omega (arith, past, more, inside)

-- one more list, of the group with this key if there is one
pub lists_more : {X : Type 0} (q : Query) (Is : KeyParts → List X → Type 0) (lists new : List (List X)) (n : ℕ)
    (list : List X) → new ≡ lists ++ list ∷ [] → length lists ≡ n
    → ((group : KeyParts) → IsGroup q group → key_number group < n → Is group (get_or lists (key_number group) []))
    → ((group : KeyParts) → NamesGroup q (key_of n) group → Is group list)
    → (group : KeyParts) → IsGroup q group → key_number group < n + 1 → Is group (get_or new (key_number group) [])
lists_more {X} q Is lists new n list grown count each is group known within = elim (cases_lt (key_number group) n) [
  | inl below ↦
      let same : get_or new (key_number group) [] ≡ get_or lists (key_number group) [] =
      rw grown (get_or_append_left lists (list ∷ []) [] (key_number group) (omega (arith, below, count))) in
      subst (Is group) (sym same) (each group known below)
  | inr above ↦
      let last : length lists ≡ key_number group = omega (arith, above, within, count) in
      let at_end : get_or new (length lists) [] ≡ list = rw grown (get_or-append_seam lists list [] []) in
      let own : get_or new (key_number group) [] ≡ list = subst (λ (m : ℕ). get_or new m [] ≡ list) last at_end in
      subst (Is group) (sym own) (is group (record { number = omega (arith, last, count); known = known }))
]
