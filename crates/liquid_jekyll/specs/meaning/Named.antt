-- Jekyll's filters that read names.
use Rattle.std.specs.Prelude.{ℕ, List, [], codes, Result, Ok, Err}
use Rattle.liquid_error.specs.meaning.Refusal.{Refusal}
use Rattle.liquid_value.specs.meaning.Tree.{Tree}
use Rattle.liquid_runtime.specs.meaning.View.{View}
use Rattle.liquid_plugins.specs.meaning.ArgumentsOf.{Arguments}
use Rattle.liquid_plugins.specs.meaning.Chain.{FilterMeaning}
use Rattle.liquid_plugins.specs.meaning.Expression.{ExpressionShape}
use Rattle.liquid_filters.specs.meaning.value.Errors.{unexpected_arguments}
use Rattle.liquid_jekyll.specs.meaning.value.Urls.{absolute_url, relative_url}
use Rattle.liquid_jekyll.specs.declared.named.NamedKind.{NamedKind}
use Rattle.liquid_jekyll.specs.declared.named.NamedKind.TheVariants.{
  RelativeUrl,
  AbsoluteUrl,
  Markdownify,
  Smartify,
  Sassify,
  Scssify,
}
use Rattle.liquid_jekyll.specs.meaning.Rendered.{rendered_text, smart_text}
use Rattle.liquid_jekyll.specs.meaning.Seen.{member_text, value_seen}

abbrev pub named_name : NamedKind → List ℕ
named_name RelativeUrl = codes "relative_url"
named_name AbsoluteUrl = codes "absolute_url"
named_name Markdownify = codes "markdownify"
named_name Smartify = codes "smartify"
named_name Sassify = codes "sassify"
named_name Scssify = codes "scssify"

-- a path and a URL of a site, which is an object with the members `baseurl` and `url`
abbrev pub relative_in : Tree → Tree → Tree
relative_in site input = relative_url (member_text (codes "baseurl") site) input

abbrev pub absolute_in : Tree → Tree → Tree
absolute_in site input = absolute_url (member_text (codes "url") site) (member_text (codes "baseurl") site) input

-- what a filter makes of an input, by the names `site` and `rendered` alone
abbrev pub named_answer : {Reg : Type 0} → NamedKind → Tree → View Reg → Result Tree Refusal
named_answer RelativeUrl input v = Ok (relative_in (value_seen (codes "site") v) input)
named_answer AbsoluteUrl input v = Ok (absolute_in (value_seen (codes "site") v) input)
named_answer Markdownify input v = rendered_text (codes "markdownify") input v
named_answer Smartify input v = smart_text input v
named_answer Sassify input v = rendered_text (codes "sassify") input v
named_answer Scssify input v = rendered_text (codes "scssify") input v

-- what the filters mean
abbrev pub named_calls : FilterMeaning NamedKind
named_calls = record { answers = λ kind input seen. named_answer kind input seen; label = named_name }

-- they take no argument
abbrev pub without_arguments : NamedKind → List ExpressionShape → List (List ℕ × ExpressionShape) → Result NamedKind Refusal
without_arguments kind [] [] = Ok kind
without_arguments kind es ks = Err unexpected_arguments

abbrev pub named_made : NamedKind → Arguments → Result NamedKind Refusal
named_made kind arguments = without_arguments kind arguments.positional arguments.keyword
