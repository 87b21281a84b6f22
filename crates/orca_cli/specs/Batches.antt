-- What is printed of a batch: of each line of its list the status and the text that a plan of that line has.
use Rattle.std.specs.Prelude.{◌≡◌, ℕ, suc, List, [], ◌∷◌, ◌++◌, Option, None, codes, decimal, length, false}
use Rattle.query_core.specs.declared.catalog.Catalog.{Catalog}
use Rattle.command_line.specs.Command.{ListNames}
use Rattle.command_line.specs.declared.settings.Settings.{Settings}
use Rattle.orca_cli.specs.Lists.{lines_of, list_cause}
use Rattle.orca_cli.specs.Prepared.{AreTold, Offers}
use Rattle.orca_cli.specs.Answers.{Note, IsAnswer}
use Rattle.orca_cli.specs.Status.{status_number}
use Rattle.orca_cli.specs.declared.status.Status.{Status}
use Rattle.orca_cli.specs.declared.status.Status.TheVariants.{Planned}

-- ---- lines

-- what is chosen for each line: one worker searches it, and no lines by worker are printed
abbrev pub for_a_line : Settings → Settings
for_a_line settings = record settings { workers = 1; by_worker = false }

-- the status and the text with which a line ends
pub record LineEnd : Type 0 where
  pub status : Status
  pub text : List ℕ

-- they are those of the answer to the line, which has a note of its own
pub record IsLineEnd (catalog : Catalog) (settings : Settings) (line : List ℕ) (end : LineEnd) : Type 0 where
  pub note : Note
  pub answer : IsAnswer catalog (for_a_line settings) line note end.status end.text

-- the lines end so, one after the other
abbrev pub AreLineEnds : Catalog → Settings → List (List ℕ) → List LineEnd → Type 0
AreLineEnds catalog settings [] ends = ends ≡ []
AreLineEnds catalog settings (line ∷ more) [] = ⊥
AreLineEnds catalog settings (line ∷ more) (end ∷ others) =
    IsLineEnd catalog settings line end × AreLineEnds catalog settings more others

-- ---- texts

-- the first line: how many queries there are
abbrev pub batch_line : ℕ → List ℕ
batch_line queries = codes "batch queries=" ++ decimal queries ++ codes "\n"

-- the line in front of a query's text: the query's number, and its status
abbrev pub query_line : ℕ → Status → List ℕ
query_line number status = codes "query " ++ decimal number ++ codes " status " ++ decimal (status_number status)
    ++ codes "\n"

-- the texts of queries from this number on, each behind its line
abbrev pub texts_from : ℕ → List LineEnd → List ℕ
texts_from number [] = []
texts_from number (end ∷ more) = query_line number end.status ++ end.text ++ texts_from (suc number) more

-- ---- batches

-- the status and the text of a batch over a catalogue and a list that isn't refused
pub record IsBatch (catalog : Catalog) (settings : Settings) (list : List ℕ) (status : Status) (text : List ℕ) : Type 0
  where
    pub done : status ≡ Planned
    pub usable : list_cause settings.capacity list ≡ None
    pub ends : List LineEnd
    pub are_ends : AreLineEnds catalog settings (lines_of list) ends
    pub is_text : text ≡ batch_line (length (lines_of list)) ++ texts_from 0 ends

-- those of a batch over two files: that of the catalogue and the list
pub record FilesBatch (files : ListNames) (settings : Settings) (held : List ℕ → Option (List ℕ)) (status : Status)
    (text : List ℕ) : Type 0 where
  pub catalog : Catalog
  pub offers : Offers (held files.catalog) catalog
  pub list : List ℕ
  pub told : AreTold (held files.list) list
  pub is_batch : IsBatch catalog settings list status text
