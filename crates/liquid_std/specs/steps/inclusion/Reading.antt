-- The shape of what comes before the pairs of a call.
use Rattle.liquid_plugins.specs.meaning.ExpressionOf.{expression_of}
use Rattle.liquid_tags.specs.meaning.Series.{series_of}
use Rattle.liquid_std.specs.declared.inclusion.read_call.Front as code
use Rattle.liquid_std.specs.meaning.inclusion.CallsGiven.{Front}

abbrev pub front_of : code.Front → Front
front_of f = record { inclusion = f.inclusion; name = expression_of f.name; manner = f.manner; series = series_of f.series }
