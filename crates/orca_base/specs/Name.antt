-- The form of a name.
use Rattle.std.specs.Prelude.{ℕ, Bool, List, [], ◌∷◌, false, IsTrue, ◌&&◌, ◌||◌, ◌==◌}
use Rattle.std.specs.List.{list_all}
use Rattle.std.specs.Char.{is_ascii_alphabetic, is_ascii_alphanumeric}

-- a letter or `_`
abbrev pub begins_name : ℕ → Bool
begins_name byte = is_ascii_alphabetic byte || byte == 95

-- a letter, a digit or `_`
abbrev pub continues_name : ℕ → Bool
continues_name byte = is_ascii_alphanumeric byte || byte == 95

-- a letter or `_`, then letters, digits and `_`
abbrev pub has_name_form : List ℕ → Bool
has_name_form [] = false
has_name_form (first ∷ others) = begins_name first && list_all continues_name others

abbrev pub IsName : List ℕ → Type 0
IsName text = IsTrue (has_name_form text)
