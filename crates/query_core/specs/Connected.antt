-- Which tables reach each other by links.
use Rattle.std.specs.Prelude.{ℕ, Bool, List, ◌&&◌, ◌||◌, ◌==◌, IsTrue}
use Rattle.std.specs.List.{list_any}
use Rattle.query_core.specs.declared.predicate.Link.{Link}
use Rattle.query_core.specs.Sets.{Has}

-- the link joins the two tables, in either direction
abbrev pub joins : ℕ → ℕ → Link → Bool
joins s t link = (link.a == s && link.b == t) || (link.a == t && link.b == s)

-- a link joins the two tables
abbrev pub are_joined : List Link → ℕ → ℕ → Bool
are_joined links s t = list_any (joins s t) links

-- a finite list of links leads from the one table to the other inside the set
pub data Reaches (links : List Link) (set from : ℕ) : ℕ → Type 0 where
  here : Has set from → Reaches links set from from
  along : {s t : ℕ} → Reaches links set from s → IsTrue (are_joined links s t) → Has set t → Reaches links set from t

-- all tables of the set reach each other in it
abbrev pub IsConnected : List Link → ℕ → Type 0
IsConnected links set = (s t : ℕ) → Has set s → Has set t → Reaches links set s t

-- the table is in the second set, and a link joins it to a table of the first
abbrev pub IsLead : List Link → ℕ → ℕ → ℕ → Type 0
IsLead links a b t = Has b t × ((s : ℕ) × Has a s × IsTrue (are_joined links s t))

-- a link joins a table of the one set and a table of the other
abbrev pub AreLinked : List Link → ℕ → ℕ → Type 0
AreLinked links a b = (t : ℕ) × IsLead links a b t

-- the set has exactly the tables that the table reaches in the other set
pub record IsReached (links : List Link) (set from reached : ℕ) : Type 0 where
  pub sound : (t : ℕ) → Has reached t → Reaches links set from t
  pub complete : (t : ℕ) → Reaches links set from t → Has reached t

-- no link leads out of the reached tables to another one of the set
abbrev pub IsClosed : List Link → ℕ → ℕ → Type 0
IsClosed links set reached = (s t : ℕ) → Has reached s → IsTrue (are_joined links s t) → Has set t → Has reached t
