-- What a kind of text tag means.
use Rattle.std.specs.Prelude.{ℕ, List, Bool, Result, Ok}
use Rattle.liquid_error.specs.meaning.Refusal.{Refusal, ok_then}
use Rattle.liquid_scalar.specs.meaning.Scalar.{text}
use Rattle.liquid_value.specs.meaning.Tree.{scalar}
use Rattle.liquid_filters.specs.meaning.Given.{Given}
use Rattle.liquid_filters.specs.meaning.Sense.{FilterSense}
use Rattle.liquid_extend.specs.declared.text_tags.kind.TagAnswer.{TagAnswer}

-- the name; for each positional argument whether it may be left out; the keywords; the text that it writes, or the error
pub record TextTagSense : Type 0 where
  pub name : List ℕ
  pub optional : List Bool
  pub keywords : List (List ℕ)
  pub answers : Given → Result (List ℕ) Refusal

-- the tag as a filter, which returns its text for any input
abbrev pub filter_sense : TextTagSense → FilterSense
filter_sense tag = record {
  name = tag.name;
  optional = tag.optional;
  keywords = tag.keywords;
  answers = λ input given. ok_then (tag.answers given) (λ bytes. Ok (scalar (text bytes)));
}

abbrev pub answer_sense : {K : Type 0} → (K → TextTagSense) → TagAnswer K → FilterSense
answer_sense sense answer = filter_sense (sense answer.tag)
