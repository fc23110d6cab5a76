-- The command line of several pages: `render`, options, and then the templates. Its options are those of a single page,
-- and `--globals FILE`, `--partials DIR` and `-o DIR`, of which the first and the last have to be there.
use Rattle.std.specs.Prelude.{◌&&◌, ◌||◌, ℕ, List, [], ◌∷◌, Bool, true, false, not, is_some, Option, None, Some, codes, if◌then◌else◌}
use Rattle.std.specs.Prelude.{map, option_map, string_bytes}
use Rattle.std.specs.Option.{option_map_or}
use Rattle.std.specs.Str.{bytes_eq}
use Rattle.std.specs.Path.{path_file_name}
use Rattle.liquid_program.specs.declared.command.Awaited.{Awaited}
use Rattle.liquid_program.specs.declared.command.Options.{Options}
use Rattle.liquid_program.specs.declared.pages_command.Pages.{Pages}
use Rattle.liquid_program.specs.meaning.Command.{Choices, awaited_by, is_command, is_place, is_verb, no_options, plainly}
use Rattle.liquid_program.specs.meaning.Command.{with_long_option, with_word}

-- what several pages need: how they are rendered, the ending of the files that are partials, the folder of the pages, the
-- file of their globals, the folder of their partials, and their templates
pub record AskedPages : Type 0 where
  pub options : Options
  pub ending : Option (List ℕ)
  pub output : List ℕ
  pub globals : List ℕ
  pub partials : Option (List ℕ)
  pub templates : List (List ℕ)

abbrev pub is_named : List ℕ → Option (List ℕ) → Bool
is_named name None = false
is_named name (Some other) = bytes_eq name other

-- whether the last component of a path is none of those of these templates
abbrev pub is_new : Option (List ℕ) → List (List ℕ) → Bool
is_new None templates = false
is_new (Some name) [] = true
is_new (Some name) (template ∷ templates) = not (is_named name (path_file_name template)) && is_new (Some name) templates

-- each template has a name, and no two have the same one
abbrev pub are_apart : List (List ℕ) → Bool
are_apart [] = true
are_apart (template ∷ templates) = is_new (path_file_name template) templates && are_apart templates

-- at least one template
abbrev pub are_templates : List (List ℕ) → Bool
are_templates [] = false
are_templates (template ∷ templates) = are_apart (template ∷ templates)

-- words in the place of paths, none of which is an option
abbrev pub are_places : List (List ℕ) → Bool
are_places [] = true
are_places (word ∷ words) = is_place word && are_places words

abbrev pub pages_to : Choices → Option (List ℕ) → Option (List ℕ) → List (List ℕ) → Option AskedPages
pages_to c (Some output) (Some globals) templates =
    if are_templates templates then Some (record {
      options = c.options;
      ending = c.ending;
      output = output;
      globals = globals;
      partials = c.partials;
      templates = templates;
    }) else None
pages_to c output globals templates = None

-- these templates, with these choices
abbrev pub whole_pages : Choices → List (List ℕ) → Option AskedPages
whole_pages c templates = pages_to c c.output c.globals templates

-- the command, where these choices come before the words, and maybe an option whose word is the next one. Where the first
-- template is, all words are templates
abbrev pub pages_in : Choices → Option Awaited → List (List ℕ) → Option AskedPages
pages_in c option [] = None
pages_in c (Some option) (word ∷ words) = option_map_or (λ more. pages_in more None words) (with_word option word c) None
pages_in c None (word ∷ words) =
    if bytes_eq word (codes "--") then whole_pages c words
    else if is_place word then (if are_places words then whole_pages c (word ∷ words) else None)
    else option_map_or (λ o. pages_in (record c { options = o }) None words) (with_long_option word c.options)
    (option_map_or (λ option. pages_in c (Some option) words) (awaited_by word c) None)

abbrev pub pages_of : List (List ℕ) → Option AskedPages
pages_of [] = None
pages_of (verb ∷ words) = if is_verb verb then pages_in (plainly no_options) None words else None

-- whether the words are a command, of one page or of several
abbrev pub is_asked : List (List ℕ) → Bool
is_asked words = is_command words || is_some (pages_of words)

-- what several pages that were read need
abbrev pub asked_pages : Pages → AskedPages
asked_pages p = record {
  options = p.options;
  ending = option_map (λ w. w.now) p.ending;
  output = p.output.now;
  globals = p.globals.now;
  partials = option_map (λ w. w.now) p.partials;
  templates = map string_bytes p.templates.now;
}
