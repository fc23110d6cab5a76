-- The two languages of the program: the tag library with two filters, and standard Liquid; and what their templates are
-- rendered with.
use Rattle.std.specs.Prelude.{ℕ, [], ◌∷◌, false, codes, Option, None, Result, Err}
use Rattle.std.specs.FinMap.{empty}
use Rattle.liquid_error.specs.meaning.Refusal.{Refusal, plain}
use Rattle.liquid_runtime.specs.meaning.Maps.{NameMap}
use Rattle.liquid_plugins.specs.meaning.ArgumentsOf.{Arguments}
use Rattle.liquid_parser.specs.meaning.Lang.{Lang}
use Rattle.liquid_parser.specs.meaning.Plugins.{registry_of}
use Rattle.liquid_template.specs.meaning.Nodes.{Setting}
use Rattle.liquid_template.specs.meaning.Partials.{Found}
use Rattle.liquid_tags.specs.declared.tags.TagShape.{TagShape}
use Rattle.liquid_tags.specs.declared.blocks.BlockShape.{BlockShape}
use Rattle.liquid_tags.specs.declared.blocks.ProgressShape.{ProgressShape}
use Rattle.liquid_tags.specs.declared.block_plugins.PlanShape.{PlanShape}
use Rattle.liquid_tags.specs.meaning.Languages.{tags_and_blocks}
use Rattle.liquid_tags.specs.meaning.Library.{library}
use Rattle.liquid_std.specs.declared.marks.marks.MarksShape.{MarksShape}
use Rattle.liquid_std.specs.meaning.marks.Held.{marks_alone}
use Rattle.liquid_std.specs.meaning.marks.Marks.{no_marks}
use Rattle.liquid_std.specs.declared.tags.StdTagProgressShape.{StdTagProgressShape}
use Rattle.liquid_std.specs.declared.tags.StdTagShape.{StdTagShape}
use Rattle.liquid_std.specs.declared.blocks.StdBlockShape.{StdBlockShape}
use Rattle.liquid_std.specs.declared.blocks.StdProgressShape.{StdProgressShape}
use Rattle.liquid_std.specs.declared.block_plugins.StdPlanShape.{StdPlanShape}
use Rattle.liquid_std.specs.meaning.Languages.{tags_and_blocks as standard_tags_and_blocks}
use Rattle.liquid_std.specs.meaning.Standard.{standard}
use Rattle.liquid_filters.specs.declared.call.CallShape.{CallShape}
use Rattle.liquid_filters.specs.declared.kinds.StdKind.{StdKind}
use Rattle.liquid_filters.specs.declared.plugin.FilterPlugin.{FilterPlugin}
use Rattle.liquid_filters.specs.meaning.Calls.{call_made, calls}
use Rattle.liquid_filters.specs.meaning.Registered.{registered, standard_filters}
use Rattle.liquid_filters.specs.meaning.Sense.{FilterSense}
use Rattle.liquid_filters.specs.meaning.Standard.{std_sense}
use Rattle.liquid_filters.specs.meaning.string.Appending.{appended}
use Rattle.liquid_program.specs.declared.filters.PlainKind.{PlainKind}
use Rattle.liquid_program.specs.declared.filters.PlainKind.TheVariants.{Append, Fail}

-- `append`, and `fail`, which refuses every input
abbrev pub plain_sense : PlainKind → FilterSense
plain_sense Append =
    record { name = codes "append"; optional = false ∷ []; keywords = []; answers = λ input g. appended input g.positional }
plain_sense Fail = record { name = codes "fail"; optional = []; keywords = []; answers = λ input g. Err (plain (codes "bad")) }

abbrev pub plain_filters : NameMap (FilterPlugin PlainKind)
plain_filters = registered plain_sense empty (Append ∷ Fail ∷ [])

-- what arguments make of a filter
abbrev pub plain_made : FilterPlugin PlainKind → Arguments → Result (CallShape PlainKind) Refusal
plain_made plugin arguments = call_made plain_sense plugin.kind arguments

abbrev pub standard_made : FilterPlugin StdKind → Arguments → Result (CallShape StdKind) Refusal
standard_made plugin arguments = call_made std_sense plugin.kind arguments

-- the language without `--standard`, and what its templates are rendered with; the register is empty
abbrev pub PlainLang : Type 0
PlainLang = Lang (CallShape PlainKind) (TagShape (CallShape PlainKind)) PlanShape BlockShape

abbrev pub plain_language : PlainLang
plain_language = tags_and_blocks (registry_of plain_made plain_filters)

abbrev pub plain_setting : Option (Found (CallShape PlainKind) (TagShape (CallShape PlainKind)) BlockShape)
    → Setting (Unit {0}) (CallShape PlainKind) (TagShape (CallShape PlainKind)) ℕ BlockShape ProgressShape
plain_setting = library tt (calls plain_sense)

-- the standard language, and what its templates are rendered with; the register holds marks, of which there are none at
-- first
abbrev pub StandardLang : Type 0
StandardLang = Lang (CallShape StdKind) (StdTagShape (CallShape StdKind)) StdPlanShape StdBlockShape

abbrev pub standard_language : StandardLang
standard_language = standard_tags_and_blocks (registry_of standard_made (standard_filters None))

abbrev pub standard_setting : Option (Found (CallShape StdKind) (StdTagShape (CallShape StdKind)) StdBlockShape)
    → Setting MarksShape (CallShape StdKind) (StdTagShape (CallShape StdKind)) StdTagProgressShape StdBlockShape StdProgressShape
standard_setting = standard marks_alone no_marks (calls std_sense)
