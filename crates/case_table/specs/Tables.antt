-- The tables, row by row.
use Prim.Native.String.{String}
use Rattle.std.specs.Prelude.{ℕ, List, [], ◌∷◌, codes}
use Rattle.case_table.specs.Rows.{Named}

abbrev pub named : String → ℕ → Named
named name code = (codes name, code)

-- the months' English names of three letters, and their numbers
abbrev pub month_table : List Named
month_table =
    named "Jan" 1 ∷ named "Feb" 2 ∷ named "Mar" 3 ∷ named "Apr" 4 ∷
    named "May" 5 ∷ named "Jun" 6 ∷ named "Jul" 7 ∷ named "Aug" 8 ∷
    named "Sep" 9 ∷ named "Oct" 10 ∷ named "Nov" 11 ∷ named "Dec" 12 ∷ []

-- the short names of the OpenTelemetry Logs Data Model, and their numbers
abbrev pub severity_table : List Named
severity_table =
    named "TRACE" 1 ∷ named "TRACE2" 2 ∷ named "TRACE3" 3 ∷ named "TRACE4" 4 ∷
    named "DEBUG" 5 ∷ named "DEBUG2" 6 ∷ named "DEBUG3" 7 ∷ named "DEBUG4" 8 ∷
    named "INFO" 9 ∷ named "INFO2" 10 ∷ named "INFO3" 11 ∷ named "INFO4" 12 ∷
    named "WARN" 13 ∷ named "WARN2" 14 ∷ named "WARN3" 15 ∷ named "WARN4" 16 ∷
    named "ERROR" 17 ∷ named "ERROR2" 18 ∷ named "ERROR3" 19 ∷ named "ERROR4" 20 ∷
    named "FATAL" 21 ∷ named "FATAL2" 22 ∷ named "FATAL3" 23 ∷ named "FATAL4" 24 ∷ []

-- other names of severities, and the severities' numbers
abbrev pub alias_table : List Named
alias_table =
    named "alert" 19 ∷ named "crit" 18 ∷ named "critical" 18 ∷ named "emerg" 21 ∷
    named "err" 17 ∷ named "information" 9 ∷ named "informational" 9 ∷ named "notice" 10 ∷
    named "panic" 21 ∷ named "warning" 13 ∷ []

-- the directives of layouts, numbered in byte order
abbrev pub directive_table : List Named
directive_table =
    named "%H" 1 ∷ named "%I" 2 ∷ named "%L" 3 ∷ named "%M" 4 ∷
    named "%S" 5 ∷ named "%T" 6 ∷ named "%Y" 7 ∷ named "%a" 8 ∷
    named "%b" 9 ∷ named "%d" 10 ∷ named "%e" 11 ∷ named "%f" 12 ∷
    named "%m" 13 ∷ named "%p" 14 ∷ named "%y" 15 ∷ named "%z" 16 ∷ []

-- the names of parts of a time in the layouts of Go's package `time`, numbered in byte order
abbrev pub gotime_table : List Named
gotime_table =
    named "-0700" 1 ∷ named "-07:00" 2 ∷ named ".000" 3 ∷ named ".000000" 4 ∷
    named ".000000000" 5 ∷ named "01" 6 ∷ named "02" 7 ∷ named "03" 8 ∷
    named "04" 9 ∷ named "05" 10 ∷ named "06" 11 ∷ named "1" 12 ∷
    named "15" 13 ∷ named "2" 14 ∷ named "2006" 15 ∷ named "3" 16 ∷
    named "Jan" 17 ∷ named "January" 18 ∷ named "MST" 19 ∷ named "Mon" 20 ∷
    named "Monday" 21 ∷ named "PM" 22 ∷ named "Z0700" 23 ∷ named "Z07:00" 24 ∷
    named "_2" 25 ∷ []

-- the months' English names, and their numbers
abbrev pub month_name_table : List Named
month_name_table =
    named "January" 1 ∷ named "February" 2 ∷ named "March" 3 ∷ named "April" 4 ∷
    named "May" 5 ∷ named "June" 6 ∷ named "July" 7 ∷ named "August" 8 ∷
    named "September" 9 ∷ named "October" 10 ∷ named "November" 11 ∷ named "December" 12 ∷ []

-- the weekdays' English names, from Monday
abbrev pub day_name_table : List Named
day_name_table =
    named "Monday" 1 ∷ named "Tuesday" 2 ∷ named "Wednesday" 3 ∷ named "Thursday" 4 ∷
    named "Friday" 5 ∷ named "Saturday" 6 ∷ named "Sunday" 7 ∷ []
