-- The words of a command.
use Rattle.std.proofs.Common.{◌≡◌, ℕ, List, [], ◌∷◌, true, refl, sym, true≢false}
use Rattle.liquid_program.specs.meaning.Command.{are_paths, path_words, first_word}

pub words_of_paths : (template globals : List ℕ) (rest : List (List ℕ)) → are_paths (template ∷ globals ∷ rest) ≡ true → template ∷ globals
    ∷ rest ≡ path_words template globals (first_word rest)
words_of_paths template globals [] is = refl
words_of_paths template globals (folder ∷ []) is = refl
words_of_paths template globals (folder ∷ word ∷ words) is = absurd (true≢false (sym is))
