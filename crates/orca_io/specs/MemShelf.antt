-- What a shelf in memory holds and counts, and what its calls do to that.
use Rattle.std.specs.Prelude.{◌≡◌, ◌≢◌, ℕ, ◌<◌, Bool, ◌&&◌, ◌||◌, ◌==◌, if◌then◌else◌, IsFalse, List, [], ◌∷◌, ◌++◌}
use Rattle.std.specs.Prelude.{length, ⊤, Option, Some, option_map, is_none, IfSome, bytes_eq}
use Rattle.std.specs.Option.{option_map_or}
use Rattle.std.specs.List.{list_any}
use Rattle.std.specs.BTreeMap.{get_by_text}
use Rattle.orca_io.specs.declared.mem_shelf.MemShelf.{MemShelf}
use Rattle.orca_io.specs.declared.shelf.ShelfError.{ShelfError}
use Rattle.orca_io.specs.declared.shelf.ShelfError.TheVariants.{Failed, TooLong, Memory}
use Rattle.orca_io.specs.Count.{next}
use Rattle.orca_io.specs.Shelf.{IsTooLong}

-- the bytes under a name, where it is held
abbrev pub held_by : MemShelf → List ℕ → Option (List ℕ)
held_by shelf name = option_map (λ file. file.bytes.items) (get_by_text shelf.files name)

-- the count of faults of a name: its own where it is held, and else the one of all names that aren't
abbrev pub faults_of : MemShelf → List ℕ → ℕ
faults_of shelf name = option_map_or (λ file. file.faults) (get_by_text shelf.files name) shelf.unheld_faults

-- how many readings there were
abbrev pub calls_of : MemShelf → ℕ
calls_of shelf = shelf.calls

-- the numbers of the readings that were named to fail
abbrev pub failing_of : MemShelf → List ℕ
failing_of shelf = shelf.failing.items

-- whether the next reading fails where it asks for this name: it was named to fail, or the name isn't held
abbrev pub fails : MemShelf → List ℕ → Bool
fails shelf name = list_any (λ call. call == calls_of shelf) (failing_of shelf) || is_none (held_by shelf name)

-- the next reading doesn't fail where it asks for this name, and more than limit bytes are held
pub record IsBeyond (shelf : MemShelf) (name : List ℕ) (limit : ℕ) : Type 0 where
  pub serves : IsFalse (fails shelf name)
  pub exceeds : IfSome (held_by shelf name) (λ held. limit < length held)

-- why bytes that are held weren't added: they are more than limit, or memory is short
abbrev pub IsRefusal : List ℕ → ℕ → ShelfError → Type 0
IsRefusal held limit Failed = ⊥
IsRefusal held limit (TooLong seen) = IsTooLong seen (Some held) limit
IsRefusal held limit Memory = ⊤

-- whether two names have one count: they are equal, or neither is held
abbrev pub shares_count : MemShelf → List ℕ → List ℕ → Bool
shares_count shelf name other = bytes_eq name other || (is_none (held_by shelf name) && is_none (held_by shelf other))

-- the count of a name after one fault more at the name that was asked for
abbrev pub faults_after : MemShelf → List ℕ → List ℕ → ℕ
faults_after shelf asked name = if shares_count shelf asked name then next (faults_of shelf name) else faults_of shelf
    name

-- the readings made, and those named to fail, are the same
pub record KeepsCalls (old new : MemShelf) : Type 0 where
  pub calls : calls_of new ≡ calls_of old
  pub failing : failing_of new ≡ failing_of old

-- each name holds the same and has the same count of faults
pub record KeepsNames (old new : MemShelf) : Type 0 where
  pub held : (n : List ℕ) → held_by new n ≡ held_by old n
  pub faults : (n : List ℕ) → faults_of new n ≡ faults_of old n

-- nothing that a shelf is asked for is changed
pub record StaysAs (old new : MemShelf) : Type 0 where
  pub readings : KeepsCalls old new
  pub names : KeepsNames old new

-- the name holds these bytes, and all else is the same
pub record Holds (old : MemShelf) (name bytes : List ℕ) (new : MemShelf) : Type 0 where
  pub this_name : held_by new name ≡ Some bytes
  pub other_names : (n : List ℕ) → n ≢ name → held_by new n ≡ held_by old n
  pub faults : (n : List ℕ) → faults_of new n ≡ faults_of old n
  pub readings : KeepsCalls old new

-- one reading more is named to fail, and all else is the same
pub record NamesCall (old : MemShelf) (call : ℕ) (new : MemShelf) : Type 0 where
  pub failing : failing_of new ≡ failing_of old ++ call ∷ []
  pub calls : calls_of new ≡ calls_of old
  pub names : KeepsNames old new

-- one reading more was made, and one fault more where it failed
pub record CountsCall (old : MemShelf) (asked : List ℕ) (new : MemShelf) : Type 0 where
  pub calls : calls_of new ≡ next (calls_of old)
  pub failing : failing_of new ≡ failing_of old
  pub faults : (n : List ℕ) → faults_of new n ≡ (if fails old asked then faults_after old asked n else faults_of old n)
