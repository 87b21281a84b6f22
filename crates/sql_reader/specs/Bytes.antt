-- What each byte of a query's text can begin.
use Rattle.std.specs.Prelude.{ℕ, Bool, ◌==◌, ◌&&◌, ◌||◌, nat_le, if◌then◌else◌}
use Rattle.sql_reader.specs.declared.classes.Class.{Class}
use Rattle.sql_reader.specs.declared.classes.Class.TheVariants.{Blank, Letter, Digit, Quote, Minus, Sign, Bad}
use Rattle.orca_base.specs.Name.{begins_name}

-- space, tab, line feed and carriage return
abbrev pub is_blank : ℕ → Bool
is_blank byte = byte == 32 || byte == 9 || byte == 10 || byte == 13

-- `0` to `9`
abbrev pub is_digit : ℕ → Bool
is_digit byte = nat_le 48 byte && nat_le byte 57

-- the first byte of a symbol: one of `, . ; ( ) * = < > !`
abbrev pub is_sign : ℕ → Bool
is_sign byte = byte == 44 || byte == 46 || byte == 59 || byte == 40 || byte == 41 || byte == 42 || byte == 61 || byte
    == 60 || byte == 62 || byte == 33

-- what the byte can begin
abbrev pub class_of : ℕ → Class
class_of byte =
    if is_blank byte then Blank
    else (if begins_name byte then Letter
    else (if is_digit byte then Digit
    else (if byte == 39 then Quote
    else (if byte == 45 then Minus
    else (if is_sign byte then Sign
    else Bad)))))
