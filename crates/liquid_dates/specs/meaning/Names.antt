-- The English names of months and weekdays.
use Rattle.std.specs.Prelude.{ℕ, ◌==◌, if◌then◌else◌, List, codes, take}

-- the name of a month, from 1
unfoldable pub month_name : ℕ → List ℕ
month_name m =
    if m == 1 then codes "January" else (if m == 2 then codes "February"
    else (if m == 3 then codes "March" else (if m == 4 then codes "April"
    else (if m == 5 then codes "May" else (if m == 6 then codes "June"
    else (if m == 7 then codes "July" else (if m == 8 then codes "August"
    else (if m == 9 then codes "September" else (if m == 10 then codes "October"
    else (if m == 11 then codes "November" else codes "December"))))))))))

-- its first three letters
unfoldable pub short_month_name : ℕ → List ℕ
short_month_name m = take 3 (month_name m)

-- the name of a weekday, from 0 for Monday
unfoldable pub weekday_name : ℕ → List ℕ
weekday_name w =
    if w == 0 then codes "Monday" else (if w == 1 then codes "Tuesday"
    else (if w == 2 then codes "Wednesday" else (if w == 3 then codes "Thursday"
    else (if w == 4 then codes "Friday" else (if w == 5 then codes "Saturday" else codes "Sunday")))))

-- its first three letters
unfoldable pub short_weekday_name : ℕ → List ℕ
short_weekday_name w = take 3 (weekday_name w)
