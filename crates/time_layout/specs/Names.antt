-- The names of weekdays and of the halves of a day.
use Rattle.std.specs.Prelude.{List, [], ◌∷◌}
use Rattle.case_table.specs.Rows.{Named}
use Rattle.case_table.specs.Tables.{named}

abbrev pub weekday_table : List Named
weekday_table =
    named "Mon" 1 ∷ named "Tue" 2 ∷ named "Wed" 3 ∷ named "Thu" 4 ∷
    named "Fri" 5 ∷ named "Sat" 6 ∷ named "Sun" 7 ∷ []

abbrev pub meridiem_table : List Named
meridiem_table = named "AM" 1 ∷ named "PM" 2 ∷ []
