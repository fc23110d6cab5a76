-- What a kind of text block means.
use Rattle.std.specs.Prelude.{ℕ, List, Result}
use Rattle.liquid_error.specs.meaning.Refusal.{Refusal}
use Rattle.liquid_parser.specs.meaning.Lang.{BlockNames}

-- the names of its tags, and the text, or the error, that it makes of its body's text
pub record TextBlockSense : Type 0 where
  pub names : BlockNames
  pub transforms : List ℕ → Result (List ℕ) Refusal
