-- What text blocks take.
use Rattle.std.specs.Prelude.{[], false, Result, Ok}
use Rattle.liquid_error.specs.meaning.Refusal.{Refusal, ok_then}
use Rattle.liquid_parser.specs.meaning.Handed.{Tokens, expect_nothing}
use Rattle.liquid_parser.specs.meaning.Lang.{Block, BlockNames}
use Rattle.liquid_extend.specs.meaning.Sense.{TextBlockSense}

module _ {K : Type 0} (sense : K → TextBlockSense) where
  -- the names of its tags
  abbrev pub names_of : K → BlockNames
  names_of kind = (sense kind).names

  -- the kind, if there are no tokens
  abbrev pub without_tokens : K → Tokens → Result K Refusal
  without_tokens kind ts = ok_then (expect_nothing ts) (λ u. Ok kind)

  -- its tags take no tokens, it has no dividers, and its body is read as a template
  abbrev pub text_block : {F : Type 0} → K → Block F K K
  text_block kind = record {
    names = names_of kind;
    means = record {
      dividers = [];
      escapes = false;
      nests = false;
      begin = λ filters ts. without_tokens kind ts;
      divide = λ plan name ts. without_tokens plan ts;
      finish = λ plan body. Ok plan;
    };
  }
