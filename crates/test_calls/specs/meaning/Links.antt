-- The tag `link`.
use Rattle.std.specs.Prelude.{ℕ, List, [], ◌∷◌, ◌++◌, codes, true, false, Option, None, Some, Result, Ok, Err}
use Rattle.liquid_error.specs.meaning.Refusal.{Refusal, plain}
use Rattle.liquid_value.specs.meaning.Render.{render}
use Rattle.liquid_value.specs.meaning.Tree.{Tree}
use Rattle.liquid_filters.specs.meaning.Calls.{keyword_of}
use Rattle.liquid_filters.specs.meaning.Given.{Given}
use Rattle.liquid_extend.specs.meaning.text_tags.Sense.{TextTagSense}

-- the text of a value, or an empty text without one
abbrev pub text_of : Option Tree → List ℕ
text_of None = []
text_of (Some t) = render t

-- an address and a title
abbrev pub written : List Tree → Option Tree → Result (List ℕ) Refusal
written [] title = Err (plain (codes "no address"))
written (address ∷ others) title = Ok (codes "<" ++ (render address ++ (codes "|" ++ (text_of title ++ codes ">"))))

abbrev pub linked : {K : Type 0} → K → TextTagSense
linked kind = record {
  name = codes "link";
  optional = false ∷ true ∷ [];
  keywords = codes "title" ∷ [];
  answers = λ given. written given.positional (keyword_of (codes "title") given.keyword);
}
