-- The exit status of the program.
use Rattle.std.specs.Prelude.{ℕ, Bool, true, false, Result, Ok, Err, nat_lt, if◌then◌else◌}
use Rattle.liquid_program.specs.declared.fault.Fault.{Fault}
use Rattle.liquid_program.specs.declared.fault.Fault.TheVariants.{Refused, Explained, Usage, Unreadable, UnreadableInFolder, Unwritable}
use Rattle.liquid_program.specs.declared.fault.Fault.TheVariants.{OwnFile, BadJson, NoGlobals}

abbrev pub fault_status : Fault → ℕ
fault_status (Refused error) = 1
fault_status (Explained error notes) = 1
fault_status Usage = 2
fault_status (Unreadable path) = 3
fault_status (UnreadableInFolder path) = 3
fault_status (Unwritable path) = 1
fault_status (OwnFile path) = 1
fault_status (BadJson path note) = 3
fault_status (NoGlobals error note) = 3

abbrev pub exit_status : Result (Unit {0}) Fault → ℕ
exit_status (Ok _) = 0
exit_status (Err fault) = fault_status fault

-- the status of several pages, or of the fault that came before them
abbrev pub all_status : Result ℕ Fault → ℕ
all_status (Ok status) = status
all_status (Err fault) = fault_status fault

-- the status after a flush of the output: if it failed, that of an error, unless nothing was rendered
abbrev pub settled : ℕ → Bool → ℕ
settled status true = status
settled status false = if nat_lt status 2 then 1 else status
