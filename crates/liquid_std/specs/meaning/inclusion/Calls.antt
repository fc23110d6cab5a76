-- Calls of partials that were read.
use Rattle.std.specs.Prelude.{string_bytes, option_map}
use Rattle.liquid_plugins.specs.meaning.ExpressionOf.{expression_of}
use Rattle.liquid_tags.specs.meaning.Partials as library
use Rattle.liquid_tags.specs.meaning.Series.{series_of}
use Rattle.liquid_std.specs.declared.inclusion.calls.PartialCall.{PartialCall}
use Rattle.liquid_std.specs.declared.inclusion.calls.PartialCallShape.{PartialCallShape}
use Rattle.liquid_std.specs.declared.inclusion.read_call.ReadCall.{ReadCall}
use Rattle.liquid_std.specs.declared.inclusion.read_call.ReadCall.TheVariants.{Alone, Passing}
use Rattle.liquid_std.specs.meaning.inclusion.CallsGiven.{CallRead, alone, passing, pairs_of}

-- the shape of a call with a value, and of a call that was read
abbrev pub call_of : PartialCall → PartialCallShape
call_of c = record {
  inclusion = c.inclusion;
  name = expression_of c.name;
  manner = c.manner;
  series = series_of c.series;
  alias = option_map (λ s. string_bytes s) c.alias;
  pairs = pairs_of c.pairs;
}

abbrev pub read_of : ReadCall → CallRead
read_of (Alone c) = alone (library.call_of c)
read_of (Passing c) = passing (call_of c)
