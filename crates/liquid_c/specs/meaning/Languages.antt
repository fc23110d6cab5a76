-- The languages that the options of a page choose from.
use Rattle.std.specs.Prelude.{ℕ, List, Option, Result, map}
use Rattle.std.specs.FinMap.{empty}
use Rattle.liquid_dates.specs.declared.date_time.DateTime.{DateTime}
use Rattle.liquid_error.specs.meaning.Refusal.{Refusal}
use Rattle.liquid_plugins.specs.meaning.ArgumentsOf.{Arguments}
use Rattle.liquid_plugins.specs.meaning.Chain.{FilterMeaning}
use Rattle.liquid_parser.specs.meaning.Lang.{Lang}
use Rattle.liquid_parser.specs.meaning.Plugins.{registry_of}
use Rattle.liquid_tags.specs.declared.tags.TagShape.{TagShape}
use Rattle.liquid_tags.specs.declared.blocks.BlockShape.{BlockShape}
use Rattle.liquid_tags.specs.declared.block_plugins.PlanShape.{PlanShape}
use Rattle.liquid_tags.specs.meaning.Languages.{tags_and_blocks}
use Rattle.liquid_tags.specs.meaning.Library.{library}
use Rattle.liquid_std.specs.meaning.marks.Held.{marks_alone}
use Rattle.liquid_std.specs.meaning.marks.Marks.{no_marks}
use Rattle.liquid_std.specs.declared.tags.StdTagShape.{StdTagShape}
use Rattle.liquid_std.specs.declared.blocks.StdBlockShape.{StdBlockShape}
use Rattle.liquid_std.specs.declared.block_plugins.StdPlanShape.{StdPlanShape}
use Rattle.liquid_std.specs.meaning.Languages.{tags_and_blocks as standard_tags_and_blocks}
use Rattle.liquid_std.specs.meaning.Standard.{standard}
use Rattle.liquid_filters.specs.declared.call.CallShape.{CallShape}
use Rattle.liquid_filters.specs.declared.kinds.StdKind.{StdKind}
use Rattle.liquid_filters.specs.declared.plugin.FilterPlugin.{FilterPlugin}
use Rattle.liquid_filters.specs.meaning.Calls.{call_made, calls}
use Rattle.liquid_filters.specs.meaning.Registered.{standard_filters}
use Rattle.liquid_filters.specs.meaning.Standard.{std_sense}
use Rattle.jekyll_language.specs.meaning.Rendered.{jekyll}
use Rattle.jekyll_language.specs.meaning.Site as site
use Rattle.liquid_pages.specs.declared.options.PageOptions.{PageOptions}
use Rattle.liquid_pages.specs.meaning.Shown.{ComesTo, NameAndText, Page}
use Rattle.liquid_c.specs.declared.languages.Dialect.{Dialect}
use Rattle.liquid_c.specs.declared.languages.Dialect.TheVariants.{Plain, Standard, Jekyll}
use Rattle.liquid_c.specs.meaning.Jekyll.{partial_as_read, text_as_read}

-- what arguments make of a filter, and what a filter does
abbrev pub filter_made : FilterPlugin StdKind → Arguments → Result (CallShape StdKind) Refusal
filter_made plugin arguments = call_made std_sense plugin.kind arguments

abbrev pub filter_calls : FilterMeaning (CallShape StdKind)
filter_calls = calls std_sense

-- the tags and blocks of the library without filters
abbrev pub plain_language : Lang (CallShape StdKind) (TagShape (CallShape StdKind)) PlanShape BlockShape
plain_language = tags_and_blocks (registry_of filter_made empty)

-- the standard tags, blocks and filters, for which `now` and `today` are this moment, if there is one
abbrev pub standard_language : Option DateTime → Lang (CallShape StdKind) (StdTagShape (CallShape StdKind)) StdPlanShape StdBlockShape
standard_language now = standard_tags_and_blocks (registry_of filter_made (standard_filters now))

-- the page of these bytes in one of the languages. The standard one and Jekyll's have this moment, and keep marks, of which
-- there are none at first. In Jekyll's the texts are as its authors write them
abbrev pub ComesToIn : Option DateTime → Dialect → PageOptions → List ℕ → List ℕ → List NameAndText → Page → Type 0
ComesToIn now Plain = ComesTo (library (tt {0}) filter_calls) plain_language
ComesToIn now Standard = ComesTo (standard marks_alone no_marks filter_calls) (standard_language now)
ComesToIn now Jekyll = λ options text globals partials.
    ComesTo (jekyll marks_alone no_marks site.filter_calls) (site.site_language now) options (text_as_read text) globals
    (map partial_as_read partials)
