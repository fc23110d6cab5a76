-- What text tags take.
use Rattle.std.specs.Prelude.{Result}
use Rattle.liquid_error.specs.meaning.Refusal.{Refusal, ok_then}
use Rattle.liquid_parser.specs.meaning.Handed.{Tokens}
use Rattle.liquid_filters.specs.declared.call.CallShape.{CallShape}
use Rattle.liquid_filters.specs.meaning.Calls.{call_made}
use Rattle.liquid_extend.specs.meaning.Arguments.{arguments_given}
use Rattle.liquid_extend.specs.declared.text_tags.kind.TagAnswer.{TagAnswer}
use Rattle.liquid_extend.specs.meaning.text_tags.Sense.{TextTagSense, answer_sense}

-- the arguments that all tokens make, if they fit the parameters
abbrev pub tag_given : {K : Type 0} → (K → TextTagSense) → K → Tokens → Result (CallShape (TagAnswer K)) Refusal
tag_given sense kind ts = ok_then (arguments_given ts) (call_made (answer_sense sense) (record { tag = kind }))
