-- The command line of one page. In its short form it is `render [--standard] [--sandboxed] [--lenient] TEMPLATE
-- GLOBALS.json [DIR]`, with the options in any order. Words that are not of this form may be of the long one, `render` and
-- then options and paths in any order.
use Rattle.std.specs.Prelude.{◌&&◌, ◌==◌, ℕ, ◌+◌, ◌*◌, ◌-◌, List, [], ◌∷◌, length, Bool, true, false, not, is_some, Option, None, Some}
use Rattle.std.specs.Prelude.{option_map, codes, nat_eq, nat_le, nat_lt, if◌then◌else◌}
use Rattle.std.specs.Option.{option_map_or}
use Rattle.std.specs.Str.{bytes_eq}
use Rattle.std.specs.List.{list_any, starts_with}
use Rattle.std.specs.Path.{slash}
use Rattle.liquid_program.specs.declared.command.Command.{Command}
use Rattle.liquid_program.specs.declared.command.Options.{Options}
use Rattle.liquid_program.specs.declared.command.Awaited.{Awaited}
use Rattle.liquid_program.specs.declared.command.Awaited.TheVariants.{Turns, Bytes, Ending, Output, Globals, Partials}
use Rattle.liquid_program.specs.declared.command.Choices.{Choices as ReadChoices}

-- `render`
abbrev pub is_verb : List ℕ → Bool
is_verb word = bytes_eq word (codes "render")

abbrev pub standard_word : List ℕ
standard_word = codes "--standard"

abbrev pub sandboxed_word : List ℕ
sandboxed_word = codes "--sandboxed"

abbrev pub lenient_word : List ℕ
lenient_word = codes "--lenient"

-- no option
abbrev pub no_options : Options
no_options = record {
  standard = false;
  sandboxed = false;
  lenient = false;
  decimals = false;
  explain = false;
  max_turns = None;
  max_bytes = None;
}

-- the options with the one that a word is; none if it is not an option, or is one that is already set
abbrev pub with_option : List ℕ → Options → Option Options
with_option word o =
    if bytes_eq word standard_word && not o.standard then Some (record o { standard = true })
    else if bytes_eq word sandboxed_word && not o.sandboxed then Some (record o { sandboxed = true })
    else if bytes_eq word lenient_word && not o.lenient then Some (record o { lenient = true })
    else None

-- the options that the words begin with, in any order, each at most once, after these; and the words after them
abbrev pub options_before : Options → List (List ℕ) → Options × List (List ℕ)
options_before o [] = (o, [])
options_before o (word ∷ words) = option_map_or (λ more. options_before more words) (with_option word o) (o, word ∷ words)

abbrev pub options_in : List (List ℕ) → Options
options_in words = (options_before no_options words).0

abbrev pub paths_in : List (List ℕ) → List (List ℕ)
paths_in words = (options_before no_options words).1

-- a word that begins with `--` is not a path of a template
abbrev pub is_path : List ℕ → Bool
is_path word = not (starts_with nat_eq word (codes "--"))

-- a template, its globals, and maybe a folder
abbrev pub are_paths : List (List ℕ) → Bool
are_paths (template ∷ globals ∷ []) = is_path template
are_paths (template ∷ globals ∷ folder ∷ []) = is_path template
are_paths other = false

-- what options choose: those that have no word of their own, and the words of the others
pub record Choices : Type 0 where
  pub options : Options
  pub ending : Option (List ℕ)
  pub output : Option (List ℕ)
  pub globals : Option (List ℕ)
  pub partials : Option (List ℕ)

-- these options, and no word
abbrev pub plainly : Options → Choices
plainly options = record { options = options; ending = None; output = None; globals = None; partials = None }

-- a command: what its options choose, and its paths
pub record Asked : Type 0 where
  pub choices : Choices
  pub paths : List (List ℕ)

abbrev pub asked : Choices → List (List ℕ) → Asked
asked choices paths = record { choices = choices; paths = paths }

-- the short form
abbrev pub short_command : List (List ℕ) → Option Asked
short_command words = if are_paths (paths_in words) then Some (asked (plainly (options_in words)) (paths_in words)) else None

-- the number that decimal digits write after those of n, if it has at most 64 bits
abbrev pub with_digit : ℕ → ℕ → Option ℕ
with_digit n digit =
    if nat_le 48 digit && nat_le digit 57 && nat_le (n * 10 + (digit - 48)) 18446744073709551615 then Some (n * 10 + (digit - 48)) else None

abbrev pub number_after : ℕ → List ℕ → Option ℕ
number_after n [] = Some n
number_after n (digit ∷ digits) = option_map_or (λ m. number_after m digits) (with_digit n digit) None

-- the number that a word writes, which is at least one digit and nothing else
abbrev pub number : List ℕ → Option ℕ
number [] = None
number (digit ∷ digits) = number_after 0 (digit ∷ digits)

-- the options of the long form that have no word after them: those of the short one, `--decimals` and `--explain`
abbrev pub with_long_option : List ℕ → Options → Option Options
with_long_option word o =
    if bytes_eq word (codes "--explain") && not o.explain then Some (record o { explain = true })
    else if bytes_eq word (codes "--decimals") && not o.decimals then Some (record o { decimals = true })
    else with_option word o

-- the options that have a word after them
abbrev pub turns_word : List ℕ
turns_word = codes "--turns"

abbrev pub bytes_word : List ℕ
bytes_word = codes "--bytes"

abbrev pub ending_word : List ℕ
ending_word = codes "--ext"

abbrev pub output_word : List ℕ
output_word = codes "-o"

abbrev pub globals_word : List ℕ
globals_word = codes "--globals"

abbrev pub partials_word : List ℕ
partials_word = codes "--partials"

-- the option whose word comes after this one; none if the word is not such an option, or is one that is already chosen
abbrev pub awaited_by : List ℕ → Choices → Option Awaited
awaited_by word c =
    if bytes_eq word turns_word && not (is_some c.options.max_turns) then Some Turns
    else if bytes_eq word bytes_word && not (is_some c.options.max_bytes) then Some Bytes
    else if bytes_eq word ending_word && not (is_some c.ending) then Some Ending
    else if bytes_eq word output_word && not (is_some c.output) then Some Output
    else if bytes_eq word globals_word && not (is_some c.globals) then Some Globals
    else if bytes_eq word partials_word && not (is_some c.partials) then Some Partials
    else None

abbrev pub with_turns : Choices → ℕ → Choices
with_turns c n = record c { options = record c.options { max_turns = Some n } }

abbrev pub with_bytes : Choices → ℕ → Choices
with_bytes c n = record c { options = record c.options { max_bytes = Some n } }

-- a word in the place of a path is not an option
abbrev pub is_place : List ℕ → Bool
is_place word = is_path word && not (bytes_eq word output_word)

-- an ending of file names is a dot and more, and no slash
abbrev pub is_ending : List ℕ → Bool
is_ending word = starts_with nat_eq word (codes ".") && nat_lt 1 (length word) && not (list_any (λ b. b == slash) word)

-- in the place of a template or of globals `-` is standard input
abbrev pub input_path : List ℕ
input_path = codes "/dev/stdin"

abbrev pub path_named : List ℕ → List ℕ
path_named word = if bytes_eq word (codes "-") then input_path else word

-- what is written to is a path, and not `-`
abbrev pub is_output : List ℕ → Bool
is_output word = nat_lt 0 (length word) && is_place word && not (bytes_eq word (codes "-"))

-- the choices with the word of an option
abbrev pub with_word : Awaited → List ℕ → Choices → Option Choices
with_word Turns word c = option_map (with_turns c) (number word)
with_word Bytes word c = option_map (with_bytes c) (number word)
with_word Ending word c = if is_ending word then Some (record c { ending = Some word }) else None
with_word Output word c = if is_output word then Some (record c { output = Some word }) else None
with_word Globals word c = if is_place word then Some (record c { globals = Some (path_named word) }) else None
with_word Partials word c = if is_place word then Some (record c { partials = Some word }) else None

-- one more path. There are at most three, and standard input is only one of them
abbrev pub with_path : List (List ℕ) → List ℕ → Option (List (List ℕ))
with_path [] word = Some (path_named word ∷ [])
with_path (template ∷ []) word =
    if bytes_eq template input_path && bytes_eq (path_named word) input_path then None else Some (template ∷ path_named word ∷ [])
with_path (template ∷ globals ∷ []) word = Some (template ∷ globals ∷ word ∷ [])
with_path more word = None

abbrev pub with_paths : List (List ℕ) → List (List ℕ) → Option (List (List ℕ))
with_paths paths [] = Some paths
with_paths paths (word ∷ words) = option_map_or (λ more. with_paths more words) (with_path paths word) None

-- a template and its globals have to be among the paths
abbrev pub whole_command : Choices → List (List ℕ) → Option Asked
whole_command c paths =
    if nat_lt 1 (length paths) && not (is_some c.globals) && not (is_some c.partials) then Some (asked c paths) else None

-- the long form, where these choices and paths come before the words, and maybe an option whose word is the next one
abbrev pub long_command : Choices → List (List ℕ) → Option Awaited → List (List ℕ) → Option Asked
long_command c paths None [] = whole_command c paths
long_command c paths (Some option) [] = None
long_command c paths (Some option) (word ∷ words) =
    option_map_or (λ more. long_command more paths None words) (with_word option word c) None
long_command c paths None (word ∷ words) =
    if bytes_eq word (codes "--") then option_map_or (whole_command c) (with_paths paths words) None
    else if is_place word then option_map_or (λ more. long_command c more None words) (with_path paths word) None
    else option_map_or (λ o. long_command (record c { options = o }) paths None words) (with_long_option word c.options)
    (option_map_or (λ option. long_command c paths (Some option) words) (awaited_by word c) None)

-- the command that the words after `render` are
abbrev pub command_in : List (List ℕ) → Option Asked
command_in words = option_map_or Some (short_command words) (long_command (plainly no_options) [] None words)

abbrev pub command_of : List (List ℕ) → Option Asked
command_of [] = None
command_of (verb ∷ words) = if is_verb verb then command_in words else None

-- whether the words are a command
abbrev pub is_command : List (List ℕ) → Bool
is_command words = is_some (command_of words)

-- a word that may be left out
abbrev pub option_words : Option (List ℕ) → List (List ℕ)
option_words None = []
option_words (Some word) = word ∷ []

abbrev pub first_word : List (List ℕ) → Option (List ℕ)
first_word [] = None
first_word (word ∷ words) = Some word

-- the paths of a template, of its globals and of a folder
abbrev pub path_words : List ℕ → List ℕ → Option (List ℕ) → List (List ℕ)
path_words template globals folder = template ∷ globals ∷ option_words folder

-- the words of what was chosen
abbrev pub choices_of : ReadChoices → Choices
choices_of c = record {
  options = c.options;
  ending = option_map (λ w. w.now) c.ending;
  output = option_map (λ w. w.now) c.output;
  globals = option_map (λ w. w.now) c.globals;
  partials = option_map (λ w. w.now) c.partials;
}

-- what a command that was read asks for
abbrev pub asked_of : Command → Asked
asked_of c = asked (choices_of c.choices) (path_words c.paths.template.now c.paths.globals.now (option_map (λ f. f.now) c.paths.folder))
