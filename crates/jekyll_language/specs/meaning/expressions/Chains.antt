-- Reading the chain in the argument of a filter.
use Rattle.std.specs.Prelude.{ℕ, List, ◌++◌, codes, Option, Result, ok_or}
use Rattle.std.specs.Result.{result_ok}
use Rattle.liquid_error.specs.meaning.Refusal.{Refusal, ok_then}
use Rattle.liquid_plugins.specs.meaning.Chain.{ChainShape}
use Rattle.liquid_parser.specs.meaning.Cursors.{expect_filter_chain}
use Rattle.liquid_parser.specs.meaning.Handed.{Tokens}
use Rattle.liquid_parser.specs.meaning.Lang.{Filters}
use Rattle.liquid_tags.specs.meaning.Asked.{alone, next_as}
use Rattle.jekyll_language.specs.meaning.expressions.Reading as Reading
use Rattle.jekyll_language.specs.meaning.expressions.Reading.{text_found}

-- the tag `echo` with a string after its name
abbrev pub echo_tag : List ℕ → List ℕ
echo_tag inside = codes "{% echo " ++ (inside ++ codes " %}")

module _ {F : Type 0} (filters : Filters F) where
  -- the chain that tokens are
  abbrev pub chain_given : Tokens → Result (ChainShape F) Refusal
  chain_given ts = ok_then (next_as (expect_filter_chain filters) ts) (λ chain. alone chain.0 chain.1)

  -- the chain of a string that has to be a tag
  abbrev pub tag_read : List ℕ → Result (ChainShape F) Refusal
  tag_read source = Reading.tag_read chain_given source

  -- the chain that a string is, if it is one
  abbrev pub chain_in : List ℕ → Option (ChainShape F)
  chain_in inside = result_ok (tag_read (echo_tag inside))

  abbrev pub chain_read : List ℕ → Result (ChainShape F) Refusal
  chain_read inside = ok_or (chain_in inside) (text_found inside)
