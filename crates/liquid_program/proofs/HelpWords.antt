-- The word that asks for the help is no command.
use Rattle.std.proofs.Common.{◌≡◌, ◌∙◌, ℕ, ◌<◌, ◌≤◌, List, [], ◌∷◌, length, map, false, codes, ap, sym, String, string_bytes, arith}
use Rattle.std.proofs.Math.ListN.{get_or}
use Rattle.std.specs.declared.alloc.Global.{Global}
use Rattle.liquid_program.specs.meaning.PagesCommand.{is_asked}

pub help_is_no_command : (words : List (List ℕ)) (word : List ℕ) → words ≡ word ∷ [] → word ≡ codes "--help" → is_asked words ≡ false
help_is_no_command words word alone is = ap is_asked alone ∙ ap (λ w. is_asked (w ∷ [])) is

pub one_word : (words : List (String Global)) (word : String Global) → 1 ≤ length words → length words < 2 → word ≡ get_or words 0 word
    → map string_bytes words ≡ string_bytes word ∷ []
one_word [] word least below is = absurd (omega (arith, least))
one_word (first ∷ []) word least below is = ap (λ w. string_bytes w ∷ []) (sym is)
one_word (first ∷ second ∷ others) word least below is = absurd (omega (arith, below))
