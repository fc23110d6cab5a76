-- What each of Jekyll's filters means.
use Rattle.std.specs.Prelude.{ℕ, List, Bool, codes, Ok}
use Rattle.liquid_filters.specs.meaning.Json.{as_json}
use Rattle.liquid_filters.specs.meaning.Sense.{FilterSense}
use Rattle.liquid_filters.specs.meaning.Standard.{alone, at_most_two, none, one, one_or_none, one_or_two, placed, two}
use Rattle.liquid_filters.specs.meaning.string.Encoding.{url_encoded}
use Rattle.liquid_jekyll.specs.meaning.list.Choosing as choosing
use Rattle.liquid_jekyll.specs.meaning.list.Grouping as grouping
use Rattle.liquid_jekyll.specs.meaning.list.Ordering as ordering
use Rattle.liquid_jekyll.specs.meaning.value.Lists as list
use Rattle.liquid_jekyll.specs.meaning.value.Numbers as number
use Rattle.liquid_jekyll.specs.meaning.value.Texts as text
use Rattle.liquid_jekyll.specs.declared.date_kinds.JekyllDateKind.{JekyllDateKind}
use Rattle.liquid_jekyll.specs.declared.dates.DateForm.{DateForm}
use Rattle.liquid_jekyll.specs.declared.dates.DateForm.TheVariants.{Short, Long, Xmlschema, Rfc822}
use Rattle.liquid_jekyll.specs.declared.kinds.JekyllKind.{JekyllKind}
use Rattle.liquid_jekyll.specs.declared.kinds.JekyllKind.TheVariants as kinds
use Rattle.liquid_jekyll.specs.declared.list_kinds.JekyllListKind.{JekyllListKind}
use Rattle.liquid_jekyll.specs.declared.list_kinds.JekyllListKind.TheVariants as lists
use Rattle.liquid_jekyll.specs.declared.text_kinds.JekyllTextKind.{JekyllTextKind}
use Rattle.liquid_jekyll.specs.declared.text_kinds.JekyllTextKind.TheVariants as texts
use Rattle.liquid_jekyll.specs.meaning.Dates.{written_date}
use Rattle.liquid_jekyll.specs.meaning.Texts.{inspected}

-- the filters on strings
abbrev pub text_sense : JekyllTextKind → FilterSense
text_sense texts.CgiEscape = alone (codes "cgi_escape") (λ input. Ok (url_encoded input))
text_sense texts.Inspect = alone (codes "inspect") (λ input. Ok (inspected input))
text_sense texts.Jsonify = alone (codes "jsonify") (λ input. Ok (as_json input))
text_sense texts.NormalizeWhitespace = alone (codes "normalize_whitespace") (λ input. Ok (text.normalized input))
text_sense texts.NumberOfWords = placed (codes "number_of_words") one_or_none text.words_counted
text_sense texts.Slugify = placed (codes "slugify") one_or_none text.slugified
text_sense texts.StripIndex = alone (codes "strip_index") (λ input. Ok (text.index_stripped input))
text_sense texts.ToInteger = alone (codes "to_integer") number.to_integer
text_sense texts.UriEscape = alone (codes "uri_escape") (λ input. Ok (text.uri_escaped input))
text_sense texts.XmlEscape = alone (codes "xml_escape") (λ input. Ok (text.xml_escaped input))

-- the filters on lists
abbrev pub list_sense : JekyllListKind → FilterSense
list_sense lists.ArrayToSentenceString = placed (codes "array_to_sentence_string") one_or_none list.sentenced
list_sense lists.Find = placed (codes "find") two choosing.found
list_sense lists.GroupBy = placed (codes "group_by") one grouping.grouped
list_sense lists.Pop = placed (codes "pop") one_or_none list.pop
list_sense lists.Push = placed (codes "push") one list.push
list_sense lists.Shift = placed (codes "shift") one_or_none list.shift
list_sense lists.Sort = placed (codes "sort") at_most_two ordering.sorted
list_sense lists.Unshift = placed (codes "unshift") one list.unshift
list_sense lists.Where = placed (codes "where") one_or_two choosing.kept_where

-- the name of the filter of a form of dates, and which arguments it takes
abbrev pub form_name : DateForm → List ℕ
form_name Short = codes "date_to_string"
form_name Long = codes "date_to_long_string"
form_name Xmlschema = codes "date_to_xmlschema"
form_name Rfc822 = codes "date_to_rfc822"

abbrev pub form_optional : DateForm → List Bool
form_optional Short = at_most_two
form_optional Long = at_most_two
form_optional Xmlschema = none
form_optional Rfc822 = none

-- the filters on dates
abbrev pub date_sense : JekyllDateKind → FilterSense
date_sense kind = placed (form_name kind.form) (form_optional kind.form) (written_date kind.form kind.now)

-- what each kind means
abbrev pub jekyll_sense : JekyllKind → FilterSense
jekyll_sense (kinds.Texts kind) = text_sense kind
jekyll_sense (kinds.Lists kind) = list_sense kind
jekyll_sense (kinds.Dates kind) = date_sense kind
