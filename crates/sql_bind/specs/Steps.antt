-- Going through the parts of a query in the order of the text, up to the first fault.
pub use Rattle.orca_base.specs.Checked.{◌>>=◌, seen}
unfoldable pub use Rattle.orca_base.specs.Checked.{each}
use Rattle.std.specs.Prelude.{Result}
use Rattle.orca_base.specs.Checked as checked
use Rattle.sql_bind.specs.declared.fault.BindFault.{BindFault}
use Rattle.sql_bind.specs.declared.fault.BindFault.TheVariants.{Memory}

-- what a part is bound to, or the first fault
abbrev pub Binding : Type 0 → Type 0
Binding A = Result A BindFault

-- what a function returned is what is bound, or the first fault, unless memory ran out
abbrev pub Yields : {A : Type 0} → Binding A → Binding A → Type 0
Yields bound returned = checked.Yields Memory bound returned
