-- Jekyll's filters beside the standard ones.
use Rattle.std.specs.Prelude.{List, [], ◌∷◌, map, Option}
use Rattle.std.specs.FinMap.{empty, insert, values}
use Rattle.liquid_dates.specs.declared.date_time.DateTime.{DateTime}
use Rattle.liquid_runtime.specs.meaning.Maps.{NameMap}
use Rattle.liquid_filters.specs.declared.beside.Beside.{Beside}
use Rattle.liquid_filters.specs.declared.kinds.StdKind.{StdKind}
use Rattle.liquid_filters.specs.declared.plugin.FilterPlugin.{FilterPlugin}
use Rattle.liquid_filters.specs.meaning.Registered.{filters_beside}
use Rattle.liquid_jekyll.specs.declared.dates.DateForm.{DateForm}
use Rattle.liquid_jekyll.specs.declared.dates.DateForm.TheVariants.{Short, Long, Xmlschema, Rfc822}
use Rattle.liquid_jekyll.specs.declared.kinds.JekyllKind.{JekyllKind}
use Rattle.liquid_jekyll.specs.declared.kinds.JekyllKind.TheVariants.{Texts, Lists, Dates}
use Rattle.liquid_jekyll.specs.declared.list_kinds.JekyllListKind.TheVariants as lists
use Rattle.liquid_jekyll.specs.declared.named.NamedKind.{NamedKind}
use Rattle.liquid_jekyll.specs.declared.named.NamedKind.TheVariants as named
use Rattle.liquid_jekyll.specs.declared.plugin.JekyllPlugin.{JekyllPlugin}
use Rattle.liquid_jekyll.specs.declared.plugin.JekyllPlugin.TheVariants as plugins
use Rattle.liquid_jekyll.specs.declared.text_kinds.JekyllTextKind.TheVariants as texts
use Rattle.liquid_jekyll.specs.meaning.Plugins.{plugin_name}
use Rattle.liquid_jekyll.specs.meaning.Senses.{jekyll_sense}

-- a filter that writes dates in a form
abbrev pub date_kind : Option DateTime → DateForm → JekyllKind
date_kind now form = Dates (record { form = form; now = now })

-- Jekyll's filters that are functions of values
abbrev pub jekyll_kinds : Option DateTime → List JekyllKind
jekyll_kinds now =
    Texts texts.CgiEscape ∷ Texts texts.Inspect ∷ Texts texts.Jsonify ∷ Texts texts.NormalizeWhitespace
    ∷ Texts texts.NumberOfWords ∷ Texts texts.Slugify ∷ Texts texts.StripIndex ∷ Texts texts.ToInteger
    ∷ Texts texts.UriEscape ∷ Texts texts.XmlEscape ∷ Lists lists.ArrayToSentenceString ∷ Lists lists.Find
    ∷ Lists lists.GroupBy ∷ Lists lists.Pop ∷ Lists lists.Push ∷ Lists lists.Shift ∷ Lists lists.Sort
    ∷ Lists lists.Unshift ∷ Lists lists.Where ∷ date_kind now Short ∷ date_kind now Long ∷ date_kind now Xmlschema
    ∷ date_kind now Rfc822 ∷ []

-- the standard filters and these, which replace those of the same name
abbrev pub table_filters : Option DateTime → NameMap (FilterPlugin (Beside StdKind JekyllKind))
table_filters now = filters_beside jekyll_sense now (jekyll_kinds now)

-- Jekyll's filters that read names
abbrev pub named_kinds : List NamedKind
named_kinds =
    named.RelativeUrl ∷ named.AbsoluteUrl ∷ named.Markdownify ∷ named.Smartify ∷ named.Sassify ∷ named.Scssify ∷ []

-- filters under their own names; of two with one name the later is kept
abbrev pub registered : NameMap JekyllPlugin → List JekyllPlugin → NameMap JekyllPlugin
registered before [] = before
registered before (plugin ∷ plugins) = registered (insert before (plugin_name plugin) plugin) plugins

-- all of them
abbrev pub jekyll_filters : Option DateTime → NameMap JekyllPlugin
jekyll_filters now =
    registered (registered empty (map plugins.Table (values (table_filters now)))) (map plugins.Named named_kinds)
