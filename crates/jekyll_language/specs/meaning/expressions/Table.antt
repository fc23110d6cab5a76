-- All of Jekyll's filters, under their names.
use Rattle.std.specs.Prelude.{List, [], ◌∷◌, map, Option}
use Rattle.std.specs.FinMap.{empty, insert, values}
use Rattle.liquid_dates.specs.declared.date_time.DateTime.{DateTime}
use Rattle.liquid_runtime.specs.meaning.Maps.{NameMap}
use Rattle.liquid_jekyll.specs.declared.plugin.JekyllPlugin.{JekyllPlugin}
use Rattle.liquid_jekyll.specs.meaning.Table.{jekyll_filters}
use Rattle.jekyll_language.specs.declared.expressions.kinds.ExpressionKind.TheVariants.{WhereExp, FindExp}
use Rattle.jekyll_language.specs.declared.expressions.plugin.PluginOver.{PluginOver}
use Rattle.jekyll_language.specs.declared.expressions.plugin.PluginOver.TheVariants.{Plain, Expression, Group}
use Rattle.jekyll_language.specs.meaning.expressions.Plugins.{OfPage, plugin_name}

-- filters under their own names; of two with one name the later is kept
abbrev pub registered : {P : Type 0} → NameMap (PluginOver P) → List (PluginOver P) → NameMap (PluginOver P)
registered before [] = before
registered before (plugin ∷ plugins) = registered (insert before (plugin_name plugin) plugin) plugins

-- those whose arguments are values, those with a condition, and the one with a chain of these filters
abbrev pub filters_over : {P : Type 0} → NameMap JekyllPlugin → NameMap P → NameMap (PluginOver P)
filters_over plain chained =
    registered (registered empty (map Plain (values plain)))
    (Expression WhereExp ∷ Expression FindExp ∷ Group (record { filters = chained }) ∷ [])

abbrev pub page_filters : Option DateTime → NameMap OfPage
page_filters now = filters_over (jekyll_filters now) (filters_over (jekyll_filters now) (jekyll_filters now))
