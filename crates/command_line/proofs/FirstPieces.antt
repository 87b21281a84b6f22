-- The pieces of words, from the first on.
use Rattle.std.proofs.Common.{◌≡◌, ℕ, true, false, List, [], ◌∷◌, ◌++◌, Option, None, Some, refl, sym, ap, ◌∙◌}
use Rattle.std.specs.Option.{option_and_then}
use Rattle.std.proofs.lemmas.List.{append_assoc}
use Rattle.command_line.specs.Command.{Piece}
use Rattle.command_line.specs.Reading.{is_valued, piece_of, valued_piece, in_front, pieces_of, command_from}
use Rattle.command_line.specs.Reading.{task_named, command_of, behind_name}
use Rattle.command_line.specs.declared.options.TaskName.{TaskName}

-- a first piece goes to those before
pub piece_first : (task : TaskName) (before : List Piece) (piece : Piece) (words more : List (List ℕ))
    → pieces_of words ≡ in_front (Some piece) (pieces_of more)
    → option_and_then (λ after. command_from task ((before ++ piece ∷ []) ++ after))
    (pieces_of more) ≡ option_and_then (λ after. command_from task (before ++ after)) (pieces_of words)
piece_first task before piece words more is = of_more (pieces_of more)
    ∙ sym (ap (option_and_then (λ after. command_from task (before ++ after))) is)
  where
    of_more : (others : Option (List Piece))
        → option_and_then (λ after. command_from task ((before ++ piece ∷ []) ++ after)) others ≡ option_and_then
        (λ after. command_from task (before ++ after)) (in_front (Some piece) others)
    of_more None = refl
    of_more (Some pieces) = rw append_assoc refl

-- the first words are an option and its value
pub valued_first : (words : List (List ℕ)) (word value : List ℕ) (more others : List (List ℕ)) → words ≡ word ∷ others
    → others ≡ value ∷ more → is_valued word ≡ true
    → pieces_of words ≡ in_front (valued_piece word value) (pieces_of more)
valued_first words word value more others first second takes = ap pieces_of (first ∙ ap (λ ws. word ∷ ws) second)
    ∙ taken
  where
    taken : pieces_of (word ∷ value ∷ more) ≡ in_front (valued_piece word value) (pieces_of more)
    taken = rw takes refl

-- the first word is a piece alone
pub alone_first : (words : List (List ℕ)) (word : List ℕ) (others : List (List ℕ)) → words ≡ word ∷ others
    → is_valued word ≡ false → pieces_of words ≡ in_front (piece_of word) (pieces_of others)
alone_first words word others first takes = ap pieces_of first ∙ of_others others
  where
    of_others : (ws : List (List ℕ)) → pieces_of (word ∷ ws) ≡ in_front (piece_of word) (pieces_of ws)
    of_others [] = rw takes refl
    of_others (v ∷ more) = rw takes refl

pub no_room : (task : TaskName) (before : List Piece) (piece : Piece) (words more : List (List ℕ))
    → pieces_of words ≡ in_front (Some piece) (pieces_of more)
    → ((after : List Piece) → command_from task (before ++ piece ∷ after) ≡ None)
    → option_and_then (λ after. command_from task (before ++ after)) (pieces_of words) ≡ None
no_room task before piece words more is none =
    ap (option_and_then (λ after. command_from task (before ++ after))) is ∙ of_more (pieces_of more)
  where
    of_more : (others : Option (List Piece))
        → option_and_then (λ after. command_from task (before ++ after)) (in_front (Some piece) others) ≡ None
    of_more None = refl
    of_more (Some pieces) = none pieces

-- the first word names the command
pub of_name : (task : TaskName) (words : List (List ℕ)) (first : List ℕ) (others : List (List ℕ))
    → words ≡ first ∷ others → task_named first ≡ Some task → command_of words ≡ behind_name task others
of_name task words first others same named = ap command_of same ∙ taken
  where
    taken : command_of (first ∷ others) ≡ behind_name task others
    taken = rw named refl

-- it names none
pub of_no_name : (words : List (List ℕ)) (first : List ℕ) (others : List (List ℕ)) → words ≡ first ∷ others
    → task_named first ≡ None → command_of words ≡ None
of_no_name words first others same none = ap command_of same ∙ taken
  where
    taken : command_of (first ∷ others) ≡ None
    taken = rw none refl
