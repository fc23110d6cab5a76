-- Filters by their names.
use Rattle.std.specs.Prelude.{◌≡◌, ℕ, List, [], ◌∷◌, map, take, Option}
use Rattle.std.specs.FinMap.{empty, insert}
use Rattle.liquid_dates.specs.declared.date_time.DateTime.{DateTime}
use Rattle.liquid_runtime.specs.meaning.Maps.{NameMap}
use Rattle.liquid_filters.specs.declared.beside.Beside.{Beside}
use Rattle.liquid_filters.specs.declared.beside.Beside.TheVariants.{Library, Own}
use Rattle.liquid_filters.specs.declared.kinds.StdKind.{StdKind}
use Rattle.liquid_filters.specs.declared.kinds.StdKind.TheVariants as std
use Rattle.liquid_filters.specs.declared.text_kinds.TextKind.TheVariants as texts
use Rattle.liquid_filters.specs.declared.list_kinds.ListKind.TheVariants as lists
use Rattle.liquid_filters.specs.declared.number_kinds.NumberKind.TheVariants as numbers
use Rattle.liquid_filters.specs.declared.value_kinds.ValueKind.TheVariants as values
use Rattle.liquid_filters.specs.declared.plugin.FilterPlugin.{FilterPlugin}
use Rattle.liquid_filters.specs.meaning.Sense.{FilterSense}
use Rattle.liquid_filters.specs.meaning.Standard.{std_sense}

-- what a kind means that is a library's or a host's own kind
abbrev pub sense_beside : {L O : Type 0} → (L → FilterSense) → (O → FilterSense) → Beside L O → FilterSense
sense_beside library own (Library kind) = library kind
sense_beside library own (Own kind) = own kind

-- the filter under its name
abbrev pub register : {K : Type 0} → (K → FilterSense) → NameMap (FilterPlugin K) → K → NameMap (FilterPlugin K)
register sense before kind = insert before (sense kind).name (record { kind = kind })

-- filters under their names; of two with one name the later is kept
abbrev pub registered : {K : Type 0} → (K → FilterSense) → NameMap (FilterPlugin K) → List K → NameMap (FilterPlugin K)
registered sense before [] = before
registered sense before (kind ∷ kinds) = registered sense (register sense before kind) kinds

-- the first ones of these filters are registered, and the others are not
abbrev pub FirstOnes : {K : Type 0} → (K → FilterSense) → NameMap (FilterPlugin K) → List K → NameMap (FilterPlugin K) → Type 0
FirstOnes sense before kinds after = (count : ℕ) × (after ≡ registered sense before (take count kinds))

-- all kinds but `date`
abbrev pub timeless_kinds : List StdKind
timeless_kinds =
    std.Texts texts.Append ∷ std.Texts texts.Base64Decode ∷ std.Texts texts.Base64Encode
    ∷ std.Texts texts.Base64UrlSafeDecode ∷ std.Texts texts.Base64UrlSafeEncode ∷ std.Texts texts.Capitalize
    ∷ std.Texts texts.Downcase ∷ std.Texts texts.Escape ∷ std.Texts texts.EscapeOnce ∷ std.Texts texts.H
    ∷ std.Texts texts.Lstrip ∷ std.Texts texts.NewlineToBr ∷ std.Texts texts.Prepend ∷ std.Texts texts.Remove
    ∷ std.Texts texts.RemoveFirst ∷ std.Texts texts.RemoveLast ∷ std.Texts texts.Replace
    ∷ std.Texts texts.ReplaceFirst ∷ std.Texts texts.ReplaceLast ∷ std.Texts texts.Rstrip ∷ std.Texts texts.Slice
    ∷ std.Texts texts.Split ∷ std.Texts texts.Strip ∷ std.Texts texts.StripHtml ∷ std.Texts texts.StripNewlines
    ∷ std.Texts texts.Truncate ∷ std.Texts texts.TruncateWords ∷ std.Texts texts.Upcase ∷ std.Texts texts.UrlDecode
    ∷ std.Texts texts.UrlEncode ∷ std.Lists lists.Compact ∷ std.Lists lists.Concat ∷ std.Lists lists.Find
    ∷ std.Lists lists.FindIndex ∷ std.Lists lists.First ∷ std.Lists lists.Has ∷ std.Lists lists.Join
    ∷ std.Lists lists.Last ∷ std.Lists lists.Map ∷ std.Lists lists.Reject ∷ std.Lists lists.Reverse
    ∷ std.Lists lists.Sort ∷ std.Lists lists.SortNatural ∷ std.Lists lists.SortNumeric ∷ std.Lists lists.Sum
    ∷ std.Lists lists.Uniq ∷ std.Lists lists.Where ∷ std.Numbers numbers.Abs ∷ std.Numbers numbers.AtLeast
    ∷ std.Numbers numbers.AtMost ∷ std.Numbers numbers.Ceil ∷ std.Numbers numbers.Decimal
    ∷ std.Numbers numbers.DividedBy ∷ std.Numbers numbers.Floor ∷ std.Numbers numbers.FromMinor
    ∷ std.Numbers numbers.Minus ∷ std.Numbers numbers.Modulo ∷ std.Numbers numbers.Plus ∷ std.Numbers numbers.Round
    ∷ std.Numbers numbers.Times ∷ std.Numbers numbers.ToMinor ∷ std.Values values.Default ∷ std.Values values.Json
    ∷ std.Values values.Size ∷ []

-- `date`, for which `now` and `today` are this moment, if there is one
abbrev pub date_kind : Option DateTime → StdKind
date_kind now = std.Dates (record { now = now })

-- the standard filters
abbrev pub standard_filters : Option DateTime → NameMap (FilterPlugin StdKind)
standard_filters now = register std_sense (registered std_sense empty timeless_kinds) (date_kind now)

-- the same, as a part of a table with a host's own filters
abbrev pub library_filters : {O : Type 0} → (O → FilterSense) → Option DateTime → NameMap (FilterPlugin (Beside StdKind O))
library_filters own now =
    register (sense_beside std_sense own) (registered (sense_beside std_sense own) empty (map Library timeless_kinds))
    (Library (date_kind now))

-- the standard filters, and a host's own, which replace those of the same name
abbrev pub filters_beside : {O : Type 0} → (O → FilterSense) → Option DateTime → List O → NameMap (FilterPlugin (Beside StdKind O))
filters_beside own now kinds = registered (sense_beside std_sense own) (library_filters own now) (map Own kinds)
