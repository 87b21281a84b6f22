-- Words whose parts are joined by a byte, and say something each.
use Rattle.std.proofs.Common.{◌≡◌, ℕ, ◌==◌, List, [], ◌∷◌, ◌++◌, Option, None, Some, option_map, refl, ap, ◌∙◌, subst}
use Rattle.std.specs.List.{slice_split, AllZip}
use Rattle.std.specs.Option.{option_and_then}
use Rattle.std.proofs.lemmas.List.{append_assoc}
use Rattle.command_line.specs.Reading.{all_of}
use Rattle.command_line.proofs.Parts.{AllOther, one_part, first_part}

-- ---- a word that is read part by part

module _ {X Y : Type 0} (byte : ℕ) (item : List ℕ → Option X) (together : List X → Option Y) where
  -- what the word says, behind others
  abbrev pub behind : List X → List ℕ → Option Y
  behind before word = option_and_then (λ after. together (before ++ after))
      (all_of item (slice_split (λ other. other == byte) word))

  -- the last part
  pub last_item : (before : List X) (word : List ℕ) → AllOther byte word
      → behind before word ≡ option_and_then (λ one. together (before ++ one ∷ [])) (item word)
  last_item before word others = rw (one_part byte word others) (of_item (item word))
    where
      of_item : (said : Option X) → option_and_then (λ after. together (before ++ after))
          (option_and_then (λ one. option_map (λ more. one ∷ more) (Some [])) said)
          ≡ option_and_then (λ one. together (before ++ one ∷ [])) said
      of_item None = refl
      of_item (Some one) = refl

  -- a part with others behind it
  pub first_item : (before : List X) (word first more : List ℕ) → word ≡ first ++ byte ∷ more → AllOther byte first
      → behind before word ≡ option_and_then (λ one. behind (before ++ one ∷ []) more) (item first)
  first_item before word first more parts others = rw (first_part byte word first more parts others)
      (of_item (item first))
    where
      of_more : (one : X) (rest : Option (List X))
          → option_and_then (λ after. together (before ++ after)) (option_map (λ xs. one ∷ xs) rest)
          ≡ option_and_then (λ after. together ((before ++ one ∷ []) ++ after)) rest
      of_more one None = refl
      of_more one (Some xs) = rw append_assoc refl

      of_item : (said : Option X)
          → option_and_then (λ after. together (before ++ after))
          (option_and_then (λ one. option_map (λ xs. one ∷ xs)
          (all_of item (slice_split (λ other. other == byte) more))) said)
          ≡ option_and_then (λ one. behind (before ++ one ∷ []) more) said
      of_item None = refl
      of_item (Some one) = of_more one (all_of item (slice_split (λ other. other == byte) more))

  -- where the part is known
  pub no_last : (before : List X) (word : List ℕ) → AllOther byte word → item word ≡ None → behind before word ≡ None
  no_last before word others none = last_item before word others
      ∙ ap (option_and_then (λ one. together (before ++ one ∷ []))) none

  pub some_last : (before : List X) (word : List ℕ) (one : X) → AllOther byte word → item word ≡ Some one
      → behind before word ≡ together (before ++ one ∷ [])
  some_last before word one others is = last_item before word others
      ∙ ap (option_and_then (λ x. together (before ++ x ∷ []))) is

  pub no_first : (before : List X) (word first more : List ℕ) → word ≡ first ++ byte ∷ more → AllOther byte first
      → item first ≡ None → behind before word ≡ None
  no_first before word first more parts others none = first_item before word first more parts others
      ∙ ap (option_and_then (λ one. behind (before ++ one ∷ []) more)) none

  pub some_first : (before : List X) (word first more : List ℕ) (one : X) → word ≡ first ++ byte ∷ more
      → AllOther byte first → item first ≡ Some one → behind before word ≡ behind (before ++ one ∷ []) more
  some_first before word first more one parts others is = first_item before word first more parts others
      ∙ ap (option_and_then (λ x. behind (before ++ x ∷ []) more)) is

  -- what is refused is refused whatever is behind it
  pub refused_first : (before : List X) (one : X) (more : List ℕ)
      → ((after : List X) → together (before ++ one ∷ after) ≡ None) → behind (before ++ one ∷ []) more ≡ None
  refused_first before one more refused = of_more (all_of item (slice_split (λ other. other == byte) more))
    where
      of_more : (rest : Option (List X)) → option_and_then (λ after. together ((before ++ one ∷ []) ++ after)) rest ≡ None
      of_more None = refl
      of_more (Some xs) = rw append_assoc (refused xs)

-- ---- words that say something each

module _ {X : Type 0} (item : List ℕ → Option X) (Says : X → List ℕ → Type 0) where
  -- what they say is read
  pub all_said : ((one : X) (word : List ℕ) → Says one word → item word ≡ Some one) → (some : List X)
      → (words : List (List ℕ)) → AllZip Says some words → all_of item words ≡ Some some
  all_said each [] [] say = refl
  all_said each [] (word ∷ words) say = absurd say
  all_said each (one ∷ some) [] say = absurd say
  all_said each (one ∷ some) (word ∷ words) say =
      rw (each one word say.0, all_said each some words say.1) refl

  -- and what is read is said so
  pub all_read : ((word : List ℕ) (one : X) → item word ≡ Some one → Says one word) → (words : List (List ℕ))
      → (some : List X) → all_of item words ≡ Some some → AllZip Says some words
  all_read each [] some is = let none : [] ≡ some = cc in subst (λ xs. AllZip Says xs []) none tt
  all_read each (word ∷ words) some is =
      of_parts (all_read each words) (item word) (all_of item words) refl refl is
    where
      of_parts : ((others : List X) → all_of item words ≡ Some others → AllZip Says others words)
          → (said : Option X) (rest : Option (List X)) → item word ≡ said → all_of item words ≡ rest
          → option_and_then (λ one. option_map (λ others. one ∷ others) rest) said ≡ Some some
          → AllZip Says some (word ∷ words)
      of_parts more None rest first others whole = cc
      of_parts more (Some one) None first others whole = cc
      of_parts more (Some one) (Some found) first others whole =
          let same : one ∷ found ≡ some = cc in
          subst (λ xs. AllZip Says xs (word ∷ words)) same (each word one first, more found others)
