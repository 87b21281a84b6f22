-- The faults of a query, and where in its text they are.
use Rattle.std.specs.Prelude.{ℕ, Option, None, Some}
use Rattle.sql_reader.specs.declared.faults.SqlFault.{SqlFault}
use Rattle.sql_reader.specs.declared.faults.SqlFault.TheVariants as texts
use Rattle.sql_bind.specs.declared.fault.BindFault.{BindFault}
use Rattle.sql_bind.specs.declared.fault.BindFault.TheVariants as names
use Rattle.request_props.specs.declared.fault.PropsFault.{PropsFault}
use Rattle.request_props.specs.declared.fault.PropsFault.TheVariants as limits
use Rattle.planner.specs.declared.fault.PlanFault.{PlanFault}
use Rattle.planner.specs.declared.fault.PlanFault.TheVariants.{Syntax, Binding, Limits, Memory}

-- ---- want of memory is told apart

abbrev pub sql_fault : SqlFault → PlanFault
sql_fault texts.TooLong = Syntax texts.TooLong
sql_fault (texts.NotAscii at) = Syntax (texts.NotAscii at)
sql_fault (texts.Token at) = Syntax (texts.Token at)
sql_fault (texts.Grammar at) = Syntax (texts.Grammar at)
sql_fault (texts.TooMany what at) = Syntax (texts.TooMany what at)
sql_fault texts.Memory = Memory

abbrev pub bind_fault : BindFault → PlanFault
bind_fault (names.UnknownTable at) = Binding (names.UnknownTable at)
bind_fault (names.TwiceAlias at) = Binding (names.TwiceAlias at)
bind_fault (names.UnknownColumn at) = Binding (names.UnknownColumn at)
bind_fault (names.Ambiguous at) = Binding (names.Ambiguous at)
bind_fault (names.NotGrouped at) = Binding (names.NotGrouped at)
bind_fault (names.TooManyItems found) = Binding (names.TooManyItems found)
bind_fault names.Memory = Memory

abbrev pub props_fault : PropsFault → PlanFault
props_fault (limits.TooManyLists found) = Limits (limits.TooManyLists found)
props_fault (limits.TooManyOrders found) = Limits (limits.TooManyOrders found)
props_fault limits.Memory = Memory

-- ---- places

-- the offset of what is no query; a text that is too long has none
abbrev pub sql_place : SqlFault → Option ℕ
sql_place texts.TooLong = None
sql_place (texts.NotAscii at) = Some at
sql_place (texts.Token at) = Some at
sql_place (texts.Grammar at) = Some at
sql_place (texts.TooMany what at) = Some at
sql_place texts.Memory = None

-- the offset of a name that can't be bound; too many columns have none
abbrev pub bind_place : BindFault → Option ℕ
bind_place (names.UnknownTable at) = Some at
bind_place (names.TwiceAlias at) = Some at
bind_place (names.UnknownColumn at) = Some at
bind_place (names.Ambiguous at) = Some at
bind_place (names.NotGrouped at) = Some at
bind_place (names.TooManyItems found) = None
bind_place names.Memory = None

-- the offset of a fault
abbrev pub place_of : PlanFault → Option ℕ
place_of (Syntax fault) = sql_place fault
place_of (Binding fault) = bind_place fault
place_of (Limits fault) = None
place_of Memory = None
