-- Jekyll's filters as one type of plug-ins: each means what it means alone.
use Rattle.std.specs.Prelude.{ℕ, List, Result, Ok}
use Rattle.liquid_error.specs.meaning.Refusal.{Refusal, ok_then}
use Rattle.liquid_value.specs.meaning.Tree.{Tree}
use Rattle.liquid_runtime.specs.meaning.Erased.{Erased}
use Rattle.liquid_plugins.specs.meaning.ArgumentsOf.{Arguments}
use Rattle.liquid_plugins.specs.meaning.Chain.{FilterMeaning}
use Rattle.liquid_filters.specs.declared.beside.Beside.{Beside}
use Rattle.liquid_filters.specs.declared.kinds.StdKind.{StdKind}
use Rattle.liquid_filters.specs.meaning.Calls.{call_answer, call_made, call_of}
use Rattle.liquid_filters.specs.meaning.Registered.{sense_beside}
use Rattle.liquid_filters.specs.meaning.Sense.{FilterSense}
use Rattle.liquid_filters.specs.meaning.Standard.{std_sense}
use Rattle.liquid_jekyll.specs.declared.kinds.JekyllKind.{JekyllKind}
use Rattle.liquid_jekyll.specs.declared.plugin.JekyllFilter.{JekyllFilter}
use Rattle.liquid_jekyll.specs.declared.plugin.JekyllFilter.TheVariants as filters
use Rattle.liquid_jekyll.specs.declared.plugin.JekyllFilterShape.{JekyllFilterShape}
use Rattle.liquid_jekyll.specs.declared.plugin.JekyllFilterShape.TheVariants as shapes
use Rattle.liquid_jekyll.specs.declared.plugin.JekyllPlugin.{JekyllPlugin}
use Rattle.liquid_jekyll.specs.declared.plugin.JekyllPlugin.TheVariants as plugins
use Rattle.liquid_jekyll.specs.meaning.Named.{named_answer, named_made, named_name}
use Rattle.liquid_jekyll.specs.meaning.Senses.{jekyll_sense}

-- what a kind of the table means: a standard filter, or one of Jekyll's
abbrev pub table_sense : Beside StdKind JekyllKind → FilterSense
table_sense = sense_beside std_sense jekyll_sense

abbrev pub plugin_name : JekyllPlugin → List ℕ
plugin_name (plugins.Table plugin) = (table_sense plugin.kind).name
plugin_name (plugins.Named kind) = named_name kind

-- the shape of a filter
abbrev pub filter_of : JekyllFilter → JekyllFilterShape
filter_of (filters.Table call) = shapes.Table (call_of call)
filter_of (filters.Named kind) = shapes.Named kind

-- the filter that arguments make, or the refusal
abbrev pub jekyll_made : JekyllPlugin → Arguments → Result JekyllFilterShape Refusal
jekyll_made (plugins.Table plugin) arguments = ok_then (call_made table_sense plugin.kind arguments) (λ call. Ok (shapes.Table call))
jekyll_made (plugins.Named kind) arguments = ok_then (named_made kind arguments) (λ named. Ok (shapes.Named named))

-- what a filter makes of an input, and its label
abbrev pub jekyll_answer : JekyllFilterShape → Tree → Erased → Result Tree Refusal
jekyll_answer (shapes.Table call) input seen = call_answer table_sense call input seen
jekyll_answer (shapes.Named kind) input seen = named_answer kind input seen

abbrev pub jekyll_label : JekyllFilterShape → List ℕ
jekyll_label (shapes.Table call) = (table_sense call.kind).name
jekyll_label (shapes.Named kind) = named_name kind

abbrev pub jekyll_calls : FilterMeaning JekyllFilterShape
jekyll_calls = record { answers = jekyll_answer; label = jekyll_label }
