-- The paths of the long form, as they are read.
use Rattle.std.specs.Prelude.{ℕ, List, [], ◌∷◌}
use Rattle.liquid_program.specs.declared.long_command.PathsRead.{PathsRead}
use Rattle.liquid_program.specs.declared.long_command.PathsRead.TheVariants as read

-- the paths that have been read
abbrev pub words_of : PathsRead → List (List ℕ)
words_of read.None = []
words_of (read.One template) = template.now ∷ []
words_of (read.Two template globals) = template.now ∷ globals.now ∷ []
words_of (read.Three template globals folder) = template.now ∷ globals.now ∷ folder.now ∷ []
