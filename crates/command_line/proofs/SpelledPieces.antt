-- Words are read as the pieces that they spell, and as no others.
use Rattle.std.proofs.Common.{◌≡◌, ℕ, ◌==◌, Bool, true, false, IsTrue, cond, List, [], ◌∷◌, ◌++◌, Option, None, Some}
use Rattle.std.proofs.Common.{option_map, refl, sym, ◌∙◌, subst}
use Rattle.std.specs.Option.{option_map_or}
use Rattle.std.proofs.lemmas.Bool.{false≢true}
use Rattle.command_line.specs.Options.{option_word, takes_value}
use Rattle.command_line.specs.Command.{Piece, name, given, is_positional}
use Rattle.command_line.specs.Command.{IsSpelled, a_name, with_value, by_itself, AreSpelled, no_more, one_more}
use Rattle.command_line.specs.Reading.{option_named, is_valued, named, piece_of, valued_piece, in_front, pieces_of}
use Rattle.command_line.specs.declared.options.OptionName.{OptionName}
use Rattle.command_line.proofs.OptionNames.{option_of_own_word, word_of_found}
use Rattle.command_line.proofs.FirstPieces.{valued_first, alone_first}

-- ---- what is spelled is read

-- a name is no option
module _ where
  plain_word : (word : List ℕ) → IsTrue (is_positional word) → option_named word ≡ None
  plain_word [] is = absurd (false≢true is)
  plain_word (first ∷ others) is = of_first (first == 45) refl
    where
      of_first : (b : Bool) → (first == 45) ≡ b → option_named (first ∷ others) ≡ None
      of_first true dash = absurd (false≢true (rw dash at is))
      of_first false dash = rw dash refl

-- the first piece's words are read as that piece
piece_read : (piece : Piece) (pieces : List Piece) (front back : List (List ℕ)) → IsSpelled piece front
    → pieces_of back ≡ Some pieces → pieces_of (front ++ back) ≡ Some (piece ∷ pieces)
piece_read piece pieces front back (a_name word is) rest =
    let plain = plain_word word is in
    alone_first (word ∷ back) word back refl (rw plain refl) ∙ rw (plain, is, rest) refl
piece_read piece pieces front back (with_value option value takes) rest =
    let own = option_of_own_word option in
    valued_first (option_word option ∷ value ∷ back) (option_word option) value back (value ∷ back) refl refl
    (rw own takes) ∙ rw (own, rest) refl
piece_read piece pieces front back (by_itself option takes) rest =
    let own = option_of_own_word option in
    alone_first (option_word option ∷ back) (option_word option) back refl (rw own takes) ∙ rw (own, rest) refl

-- words are read as the pieces that they spell
pub pieces_read : (pieces : List Piece) (words : List (List ℕ)) → AreSpelled pieces words
    → pieces_of words ≡ Some pieces
pieces_read pieces words no_more = refl
pieces_read pieces words (one_more piece others front back is are) =
    piece_read piece others front back is (pieces_read others back are)

-- ---- what is read is spelled so

-- the parts of a list of pieces that was read
record FrontParts (first : Option Piece) (others : Option (List Piece)) (pieces : List Piece) : Type 0 where
  piece : Piece
  more : List Piece
  is_first : first ≡ Some piece
  are_others : others ≡ Some more
  whole : pieces ≡ piece ∷ more

front_parts : (first : Option Piece) (others : Option (List Piece)) (pieces : List Piece)
    → in_front first others ≡ Some pieces → FrontParts first others pieces
front_parts None others pieces is = cc
front_parts (Some p) None pieces is = cc
front_parts (Some p) (Some ps) pieces is =
    record { piece = p; more = ps; is_first = refl; are_others = refl; whole = let same : pieces ≡ p ∷ ps = cc in same }

-- a word that is read as a piece, behind which no value stands
alone_spelled : (word : List ℕ) (piece : Piece) → is_valued word ≡ false → piece_of word ≡ Some piece
    → IsSpelled piece (word ∷ [])
alone_spelled word piece takes is = of_option (option_named word) refl takes is
  where
    of_name : (b : Bool) → is_positional word ≡ b → cond b (Some (name word)) None ≡ Some piece
        → IsSpelled piece (word ∷ [])
    of_name true plain found = let here : name word ≡ piece = cc in
        subst (λ p. IsSpelled p (word ∷ [])) here (a_name word plain)
    of_name false plain found = cc

    of_option : (o : Option OptionName) → option_named word ≡ o → option_map_or takes_value o false ≡ false
        → option_map_or (λ option. Some (given (record { option = option; value = None }))) o (named word) ≡ Some piece
        → IsSpelled piece (word ∷ [])
    of_option None found none read = of_name (is_positional word) refl read
    of_option (Some option) found none read =
        let same : given (record { option = option; value = None }) ≡ piece = cc in
        subst (λ p. IsSpelled p (word ∷ [])) same
        (subst (λ w. IsSpelled (given (record { option = option; value = None })) (w ∷ []))
        (word_of_found word option found) (by_itself option none))

-- an option and a value that are read as a piece
valued_spelled : (word value : List ℕ) (piece : Piece) → is_valued word ≡ true
    → valued_piece word value ≡ Some piece → IsSpelled piece (word ∷ value ∷ [])
valued_spelled word value piece takes is = of_option (option_named word) refl takes is
  where
    of_option : (o : Option OptionName) → option_named word ≡ o → option_map_or takes_value o false ≡ true
        → option_map (λ option. given (record { option = option; value = Some value })) o ≡ Some piece
        → IsSpelled piece (word ∷ value ∷ [])
    of_option None found some read = cc
    of_option (Some option) found some read =
        let same : given (record { option = option; value = Some value }) ≡ piece = cc in
        subst (λ p. IsSpelled p (word ∷ value ∷ [])) same
        (subst (λ w. IsSpelled (given (record { option = option; value = Some value })) (w ∷ value ∷ []))
        (word_of_found word option found) (with_value option value some))

-- pieces that are read are spelled so
pub pieces_spelled : (words : List (List ℕ)) (pieces : List Piece) → pieces_of words ≡ Some pieces
    → AreSpelled pieces words
pieces_spelled [] pieces is = let none : [] ≡ pieces = cc in subst (λ ps. AreSpelled ps []) none no_more
pieces_spelled (word ∷ []) pieces is = of_word (is_valued word) refl is
  where
    of_word : (b : Bool) → is_valued word ≡ b → cond b None (in_front (piece_of word) (Some [])) ≡ Some pieces
        → AreSpelled pieces (word ∷ [])
    of_word true takes found = cc
    of_word false takes found =
        let parts = front_parts (piece_of word) (Some []) pieces found in
        let none : [] ≡ parts.more = cc in
        let rest : AreSpelled parts.more [] = subst (λ ps. AreSpelled ps []) none no_more in
        subst (λ ps. AreSpelled ps (word ∷ [])) (sym parts.whole)
        (one_more parts.piece parts.more (word ∷ []) [] (alone_spelled word parts.piece takes parts.is_first) rest)
pieces_spelled (word ∷ value ∷ more) pieces is =
    of_word (λ ps rest. pieces_spelled more ps rest) (λ ps rest. pieces_spelled (value ∷ more) ps rest) (is_valued word)
    refl is
  where
    of_word : ((ps : List Piece) → pieces_of more ≡ Some ps → AreSpelled ps more)
        → ((ps : List Piece) → pieces_of (value ∷ more) ≡ Some ps → AreSpelled ps (value ∷ more)) → (b : Bool)
        → is_valued word ≡ b → cond b (in_front (valued_piece word value) (pieces_of more))
        (in_front (piece_of word) (pieces_of (value ∷ more))) ≡ Some pieces → AreSpelled pieces (word ∷ value ∷ more)
    of_word behind_both behind_first true takes found =
        let parts = front_parts (valued_piece word value) (pieces_of more) pieces found in
        subst (λ ps. AreSpelled ps (word ∷ value ∷ more)) (sym parts.whole)
        (one_more parts.piece parts.more (word ∷ value ∷ []) more (valued_spelled word value parts.piece takes
        parts.is_first)
        (behind_both parts.more parts.are_others))
    of_word behind_both behind_first false takes found =
        let parts = front_parts (piece_of word) (pieces_of (value ∷ more)) pieces found in
        subst (λ ps. AreSpelled ps (word ∷ value ∷ more)) (sym parts.whole)
        (one_more parts.piece parts.more (word ∷ []) (value ∷ more) (alone_spelled word parts.piece takes parts.is_first)
        (behind_first parts.more parts.are_others))
