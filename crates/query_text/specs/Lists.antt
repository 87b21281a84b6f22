-- The texts of orders and hashed lists.
use Rattle.std.specs.Prelude.{ℕ, ◌/◌, ◌%◌, List, [], ◌∷◌, ◌++◌, flat_map, codes, if◌then◌else◌, ◌==◌}
use Rattle.query_core.specs.declared.query.Query.{Query}
use Rattle.query_text.specs.Columns.{column_text, sorted_text}

-- an order's element: the column, and DESC where it descends
abbrev pub element_text : Query → ℕ → List ℕ
element_text q element = sorted_text q (element / 2) ++ (if element % 2 == 0 then [] else codes " DESC")

-- the elements that are not the first, each with a comma and a space in front
abbrev pub other_elements_text : Query → List ℕ → List ℕ
other_elements_text q order = flat_map (λ element. codes ", " ++ element_text q element) order

-- an order: its elements with a comma and a space between each two
abbrev pub order_text : Query → List ℕ → List ℕ
order_text q [] = []
order_text q (first ∷ others) = element_text q first ++ other_elements_text q others

-- the columns that are not the first, each with a comma and a space in front
abbrev pub other_columns_text : Query → List ℕ → List ℕ
other_columns_text q columns = flat_map (λ column. codes ", " ++ column_text q column) columns

-- a hashed list: its columns with a comma and a space between each two
abbrev pub list_text : Query → List ℕ → List ℕ
list_text q [] = []
list_text q (first ∷ others) = column_text q first ++ other_columns_text q others
