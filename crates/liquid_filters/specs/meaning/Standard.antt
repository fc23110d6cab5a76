-- The standard filters: each kind's name, parameters and result.
use Rattle.std.specs.Prelude.{ℕ, List, [], ◌∷◌, Bool, true, false, codes, Result, Ok}
use Rattle.liquid_error.specs.meaning.Refusal.{Refusal}
use Rattle.liquid_value.specs.meaning.Tree.{Tree}
use Rattle.liquid_filters.specs.meaning.string.Truncation as text_cutting
use Rattle.liquid_filters.specs.meaning.string.Encoding as text_encoding
use Rattle.liquid_filters.specs.meaning.string.Stripping as text_ends
use Rattle.liquid_filters.specs.meaning.string.Html as text_html
use Rattle.liquid_filters.specs.meaning.string.Appending as text_joints
use Rattle.liquid_filters.specs.meaning.string.Case as text_letters
use Rattle.liquid_filters.specs.meaning.string.Lines as text_lines
use Rattle.liquid_filters.specs.meaning.string.Replacement as text_replacing
use Rattle.liquid_filters.specs.meaning.string.Splitting as text_splitting
use Rattle.liquid_filters.specs.meaning.list.Choices as choice
use Rattle.liquid_filters.specs.meaning.list.Lists as listed
use Rattle.liquid_filters.specs.meaning.sort.Numbers as by_number
use Rattle.liquid_filters.specs.meaning.sort.Order as order
use Rattle.liquid_filters.specs.meaning.list.Searches as searching
use Rattle.liquid_filters.specs.meaning.list.Sums as sums
use Rattle.liquid_filters.specs.meaning.number.Filters as number
use Rattle.liquid_filters.specs.meaning.number.Units as units
use Rattle.liquid_filters.specs.declared.date_kind.DateKind.{DateKind}
use Rattle.liquid_filters.specs.declared.kinds.StdKind.{StdKind}
use Rattle.liquid_filters.specs.declared.kinds.StdKind.TheVariants as std
use Rattle.liquid_filters.specs.declared.text_kinds.TextKind.{TextKind}
use Rattle.liquid_filters.specs.declared.text_kinds.TextKind.TheVariants as texts
use Rattle.liquid_filters.specs.declared.list_kinds.ListKind.{ListKind}
use Rattle.liquid_filters.specs.declared.list_kinds.ListKind.TheVariants as lists
use Rattle.liquid_filters.specs.declared.number_kinds.NumberKind.{NumberKind}
use Rattle.liquid_filters.specs.declared.number_kinds.NumberKind.TheVariants as numbers
use Rattle.liquid_filters.specs.declared.value_kinds.ValueKind.{ValueKind}
use Rattle.liquid_filters.specs.declared.value_kinds.ValueKind.TheVariants as values
use Rattle.liquid_filters.specs.meaning.Dates.{dated}
use Rattle.liquid_filters.specs.meaning.Given.{Given}
use Rattle.liquid_filters.specs.meaning.Sense.{FilterSense}
use Rattle.liquid_filters.specs.meaning.Json.{as_json}
use Rattle.liquid_filters.specs.meaning.Values.{defaulted, size}

-- the positional arguments that a filter takes: for each whether it may be left out
abbrev pub none : List Bool
none = []

abbrev pub one : List Bool
one = false ∷ []

abbrev pub one_or_none : List Bool
one_or_none = true ∷ []

abbrev pub two : List Bool
two = false ∷ false ∷ []

abbrev pub one_or_two : List Bool
one_or_two = false ∷ true ∷ []

abbrev pub one_to_three : List Bool
one_to_three = false ∷ true ∷ true ∷ []

abbrev pub at_most_two : List Bool
at_most_two = true ∷ true ∷ []

-- a filter of this name that takes only positional arguments
abbrev pub placed : List ℕ → List Bool → (Tree → List Tree → Result Tree Refusal) → FilterSense
placed name optional answers = record { name = name; optional = optional; keywords = []; answers = λ input g. answers input g.positional }

-- a filter of this name that takes no argument
abbrev pub alone : List ℕ → (Tree → Result Tree Refusal) → FilterSense
alone name answers = record { name = name; optional = none; keywords = []; answers = λ input g. answers input }

-- the filters on strings
abbrev pub text_sense : TextKind → FilterSense
text_sense texts.Append = placed (codes "append") one text_joints.appended
text_sense texts.Base64Decode = alone (codes "base64_decode") text_encoding.base64_decoded
text_sense texts.Base64Encode = alone (codes "base64_encode") (λ input. Ok (text_encoding.base64_encoded input))
text_sense texts.Base64UrlSafeDecode = alone (codes "base64_url_safe_decode") text_encoding.base64_url_safe_decoded
text_sense texts.Base64UrlSafeEncode =
    alone (codes "base64_url_safe_encode") (λ input. Ok (text_encoding.base64_url_safe_encoded input))
text_sense texts.Capitalize = alone (codes "capitalize") (λ input. Ok (text_letters.capitalized input))
text_sense texts.Downcase = alone (codes "downcase") (λ input. Ok (text_letters.downcased input))
text_sense texts.Escape = alone (codes "escape") (λ input. Ok (text_html.html_escaped input))
text_sense texts.EscapeOnce = alone (codes "escape_once") (λ input. Ok (text_html.html_escaped_once input))
text_sense texts.H = alone (codes "h") (λ input. Ok (text_html.html_escaped input))
text_sense texts.Lstrip = alone (codes "lstrip") (λ input. Ok (text_ends.left_stripped input))
text_sense texts.NewlineToBr = alone (codes "newline_to_br") (λ input. Ok (text_lines.marked_lines input))
text_sense texts.Prepend = placed (codes "prepend") one text_joints.prepended
text_sense texts.Remove = placed (codes "remove") one text_replacing.remove
text_sense texts.RemoveFirst = placed (codes "remove_first") one text_replacing.remove_first
text_sense texts.RemoveLast = placed (codes "remove_last") one text_replacing.remove_last
text_sense texts.Replace = placed (codes "replace") one_or_two text_replacing.replace
text_sense texts.ReplaceFirst = placed (codes "replace_first") one_or_two text_replacing.replace_first
text_sense texts.ReplaceLast = placed (codes "replace_last") two text_replacing.replace_last
text_sense texts.Rstrip = alone (codes "rstrip") (λ input. Ok (text_ends.right_stripped input))
text_sense texts.Slice = placed (codes "slice") one_or_two text_cutting.slice
text_sense texts.Split = placed (codes "split") one text_splitting.split
text_sense texts.Strip = alone (codes "strip") (λ input. Ok (text_ends.stripped input))
text_sense texts.StripHtml = alone (codes "strip_html") (λ input. Ok (text_html.without_tags input))
text_sense texts.StripNewlines = alone (codes "strip_newlines") (λ input. Ok (text_lines.joined_lines input))
text_sense texts.Truncate = placed (codes "truncate") at_most_two text_cutting.truncate
text_sense texts.TruncateWords = placed (codes "truncatewords") at_most_two text_cutting.truncatewords
text_sense texts.Upcase = alone (codes "upcase") (λ input. Ok (text_letters.upcased input))
text_sense texts.UrlDecode = alone (codes "url_decode") text_encoding.url_decoded
text_sense texts.UrlEncode = alone (codes "url_encode") (λ input. Ok (text_encoding.url_encoded input))

-- the filters on lists
abbrev pub list_sense : ListKind → FilterSense
list_sense lists.Compact = placed (codes "compact") one_or_none choice.compacted
list_sense lists.Concat = placed (codes "concat") one listed.concat
list_sense lists.Find = placed (codes "find") one_or_two searching.found
list_sense lists.FindIndex = placed (codes "find_index") one_or_two searching.found_index
list_sense lists.First = alone (codes "first") (λ input. Ok (listed.first input))
list_sense lists.Has = placed (codes "has") one_or_two searching.has_any
list_sense lists.Join = placed (codes "join") one_or_none listed.join
list_sense lists.Last = alone (codes "last") (λ input. Ok (listed.last input))
list_sense lists.Map = placed (codes "map") one choice.mapped
list_sense lists.Reject = placed (codes "reject") one_or_two searching.rejected
list_sense lists.Reverse = alone (codes "reverse") (λ input. Ok (listed.reversed input))
list_sense lists.Sort = placed (codes "sort") one_or_none order.sorted
list_sense lists.SortNatural = placed (codes "sort_natural") one_or_none order.sorted_naturally
list_sense lists.SortNumeric = placed (codes "sort_numeric") one_or_none by_number.sorted_numerically
list_sense lists.Sum = placed (codes "sum") one_or_none sums.summed
list_sense lists.Uniq = placed (codes "uniq") one_or_none choice.unique
list_sense lists.Where = placed (codes "where") one_or_two choice.where_property

-- the filters on numbers
abbrev pub number_sense : NumberKind → FilterSense
number_sense numbers.Abs = alone (codes "abs") number.abs
number_sense numbers.AtLeast = placed (codes "at_least") one number.at_least
number_sense numbers.AtMost = placed (codes "at_most") one number.at_most
number_sense numbers.Ceil = alone (codes "ceil") number.ceil
number_sense numbers.Decimal = placed (codes "decimal") one_to_three units.written_decimal
number_sense numbers.DividedBy = placed (codes "divided_by") one_or_two number.divided_by
number_sense numbers.Floor = alone (codes "floor") number.floor
number_sense numbers.FromMinor = placed (codes "from_minor") one units.from_minor
number_sense numbers.Minus = placed (codes "minus") one number.minus
number_sense numbers.Modulo = placed (codes "modulo") one number.modulo
number_sense numbers.Plus = placed (codes "plus") one number.plus
number_sense numbers.Round = placed (codes "round") one_or_none number.round
number_sense numbers.Times = placed (codes "times") one number.times
number_sense numbers.ToMinor = placed (codes "to_minor") one units.to_minor

-- the filters on any value
abbrev pub value_sense : ValueKind → FilterSense
value_sense values.Default =
    record { name = codes "default"; optional = one_or_none; keywords = codes "allow_false" ∷ []; answers = defaulted }
value_sense values.Json = alone (codes "json") (λ input. Ok (as_json input))
value_sense values.Size = alone (codes "size") (λ input. Ok (size input))

-- the filter on dates
abbrev pub date_sense : DateKind → FilterSense
date_sense kind = placed (codes "date") one (dated kind.now)

-- what each kind means
abbrev pub std_sense : StdKind → FilterSense
std_sense (std.Texts kind) = text_sense kind
std_sense (std.Lists kind) = list_sense kind
std_sense (std.Numbers kind) = number_sense kind
std_sense (std.Values kind) = value_sense kind
std_sense (std.Dates kind) = date_sense kind
