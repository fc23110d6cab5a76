-- The filters of a page of Jekyll, as one type of plug-ins: each means what it means alone.
use Rattle.std.specs.Prelude.{ℕ, List, Result, Ok}
use Rattle.liquid_error.specs.meaning.Refusal.{Refusal, ok_then}
use Rattle.liquid_value.specs.meaning.Tree.{Tree}
use Rattle.liquid_runtime.specs.meaning.Erased.{Erased}
use Rattle.liquid_plugins.specs.meaning.ArgumentsOf.{Arguments}
use Rattle.liquid_plugins.specs.meaning.Chain.{FilterMeaning}
use Rattle.liquid_parser.specs.meaning.Plugins.{registry_of}
use Rattle.liquid_jekyll.specs.declared.plugin.JekyllFilterShape.{JekyllFilterShape}
use Rattle.liquid_jekyll.specs.declared.plugin.JekyllPlugin.{JekyllPlugin}
use Rattle.liquid_jekyll.specs.meaning.Plugins as jekyll
use Rattle.jekyll_language.specs.declared.expressions.plugin.FilterOver.{FilterOver}
use Rattle.jekyll_language.specs.declared.expressions.plugin.FilterOver.TheVariants as filters
use Rattle.jekyll_language.specs.declared.expressions.plugin.FilterShapeOver.{FilterShapeOver}
use Rattle.jekyll_language.specs.declared.expressions.plugin.FilterShapeOver.TheVariants as shapes
use Rattle.jekyll_language.specs.declared.expressions.plugin.PluginOver.{PluginOver}
use Rattle.jekyll_language.specs.declared.expressions.plugin.PluginOver.TheVariants as plugins
use Rattle.jekyll_language.specs.meaning.expressions.Groups as groups
use Rattle.jekyll_language.specs.meaning.expressions.Groups.{group_by_exp}
use Rattle.jekyll_language.specs.meaning.expressions.Kinds.{answer, call_made, call_of, kind_name}

abbrev pub plugin_name : {P : Type 0} → PluginOver P → List ℕ
plugin_name (plugins.Plain plugin) = jekyll.plugin_name plugin
plugin_name (plugins.Expression kind) = kind_name kind
plugin_name (plugins.Group plugin) = group_by_exp

-- the shape of a filter
abbrev pub filter_of : {X F : Type 0} → (X → F) → FilterOver X → FilterShapeOver F
filter_of shape (filters.Plain filter) = shapes.Plain (jekyll.filter_of filter)
filter_of shape (filters.Expression call) = shapes.Expression (call_of call)
filter_of shape (filters.Group call) = shapes.Group (groups.call_of shape call)

-- the filter that arguments make, or the refusal; the filters of a chain are made by the first argument here
abbrev pub made_over : {P F : Type 0} → (P → Arguments → Result F Refusal)
    → PluginOver P → Arguments → Result (FilterShapeOver F) Refusal
made_over makes (plugins.Plain plugin) arguments = ok_then (jekyll.jekyll_made plugin arguments) (λ filter. Ok (shapes.Plain filter))
made_over makes (plugins.Expression kind) arguments = ok_then (call_made kind arguments) (λ call. Ok (shapes.Expression call))
made_over makes (plugins.Group plugin) arguments =
    ok_then (groups.call_made (registry_of makes plugin.filters) arguments) (λ call. Ok (shapes.Group call))

-- what a filter makes of an input, and its label
abbrev pub answer_over : {F : Type 0} → FilterMeaning F → FilterShapeOver F → Tree → Erased → Result Tree Refusal
answer_over m (shapes.Plain filter) input seen = jekyll.jekyll_answer filter input seen
answer_over m (shapes.Expression call) input seen = answer call input seen
answer_over m (shapes.Group call) input seen = groups.answer m call input seen

abbrev pub label_over : {F : Type 0} → FilterShapeOver F → List ℕ
label_over (shapes.Plain filter) = jekyll.jekyll_label filter
label_over (shapes.Expression call) = kind_name call.kind
label_over (shapes.Group call) = group_by_exp

abbrev pub calls_over : {F : Type 0} → FilterMeaning F → FilterMeaning (FilterShapeOver F)
calls_over m = record { answers = answer_over m; label = label_over }

-- the filters of a page: a chain in a text can have one with a chain in a text of its own
abbrev pub OfPage : Type 0
OfPage = PluginOver (PluginOver JekyllPlugin)

abbrev pub ShapeOfPage : Type 0
ShapeOfPage = FilterShapeOver (FilterShapeOver JekyllFilterShape)

abbrev pub page_made : OfPage → Arguments → Result ShapeOfPage Refusal
page_made = made_over (made_over jekyll.jekyll_made)

abbrev pub page_calls : FilterMeaning ShapeOfPage
page_calls = calls_over (calls_over jekyll.jekyll_calls)
