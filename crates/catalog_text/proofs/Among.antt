-- An element of a list that keeps its limits keeps them too.
use Rattle.std.proofs.Common.{◌≡◌, ℕ, suc, Bool}
use Rattle.std.proofs.Common.{true, false, List, [], ◌∷◌, ◌++◌, map}
use Rattle.std.proofs.Common.{ap, subst, ◌∙◌, arith}
use Rattle.std.specs.List.{All, list_any, list_all}
use Rattle.std.specs.Str.{bytes_eq}
use Rattle.std.proofs.lemmas.List.{map-append}
use Rattle.std.proofs.lemmas.List.Sums.{AllPass-from_list_all}
use Rattle.query_core.specs.Differ.{texts_differ}
use Rattle.catalog_text.proofs.Differ.{new_text}

pub among : {X : Type 0} (P : X → Type 0) (before : List X) (a : X) (after : List X) → All P (before ++ a ∷ after) → P a
among P [] a after h = h 0 a (omega arith)
among P (b ∷ before) a after h = among P before a after (λ k d l. h (suc k) d (omega arith))

pub new_among : {X : Type 0} (name : X → List ℕ) (whole before : List X) (a : X) (after : List X)
    → texts_differ (map name whole) ≡ true → whole ≡ before ++ a ∷ after
    → list_any (bytes_eq (name a)) (map name before) ≡ false
new_among name whole before a after differ e =
    new_text (map name before) (name a) (map name after)
    (subst (λ (texts : List (List ℕ)). texts_differ texts ≡ true) (ap (map name) e
    ∙ map-append name before (a ∷ after)) differ)

pub passes_among : {X : Type 0} (test : X → Bool) (whole before : List X) (a : X) (after : List X)
    → list_all test whole ≡ true → whole ≡ before ++ a ∷ after → test a ≡ true
passes_among test whole before a after all e =
    among (λ x. test x ≡ true) before a after
    (AllPass-from_list_all test _ (subst (λ (xs : List _). list_all test xs ≡ true) e all))
