-- The language that is chosen before a page is rendered, for proofs alone.
use Rattle.std.specs.Prelude.{◌≡◌, ◌<◌, ◌≤◌, ℕ, List, Option, Result, Ok, Err}
use Rattle.std.specs.declared.alloc.Global.{Global}
use Rattle.std.specs.declared.rc.Rc.{Rc}
use Rattle.liquid_dates.specs.declared.date_time.DateTime.{DateTime}
use Rattle.liquid_parser.specs.declared.plugin.language.Language.{Language}
use Rattle.liquid_tags.specs.declared.block_plugins.Blocks.{Blocks}
use Rattle.liquid_tags.specs.declared.tag_plugins.Tags.{Tags}
use Rattle.liquid_tags.specs.meaning.Languages.{meaning_of}
use Rattle.liquid_std.specs.declared.block_plugins.StdBlocks.{StdBlocks}
use Rattle.liquid_std.specs.declared.tag_plugins.StdTags.{StdTags}
use Rattle.liquid_std.specs.meaning.Languages.{meaning_of as standard_meaning}
use Rattle.liquid_filters.specs.declared.kinds.StdKind.{StdKind}
use Rattle.liquid_filters.specs.declared.plugin.FilterPlugin.{FilterPlugin}
use Rattle.jekyll_language.specs.meaning.Languages.{meaning_of as jekyll_meaning}
use Rattle.jekyll_language.specs.meaning.Plugins.{SiteBlock, SiteTag}
use Rattle.jekyll_language.specs.meaning.Site as site
use Rattle.liquid_c.specs.declared.languages.Dialect.{Dialect}
use Rattle.liquid_c.specs.declared.languages.Dialect.TheVariants.{Plain, Standard, Jekyll}
use Rattle.liquid_c.specs.declared.moments.MomentFault.{MomentFault}
use Rattle.liquid_c.specs.declared.moments.MomentFault.TheVariants.{NoMoment, NoMemory}
use Rattle.liquid_c.specs.declared.page.Outcome.{Outcome}
use Rattle.liquid_c.specs.declared.page.Page.{Page}
use Rattle.liquid_c.specs.declared.languages.Chosen.{Chosen}
use Rattle.liquid_c.specs.declared.languages.Chosen.TheVariants as chosen
use Rattle.liquid_c.specs.meaning.Languages.{filter_made, plain_language, standard_language}
use Rattle.liquid_c.specs.meaning.Moments.{HasMoment, LacksMoment}
use Rattle.liquid_c.specs.meaning.Options.{dialect_of}

abbrev pub PlainLanguage : Type 0
PlainLanguage = Rc (Language (FilterPlugin StdKind) Tags Blocks) Global

abbrev pub StandardLanguage : Type 0
StandardLanguage = Rc (Language (FilterPlugin StdKind) StdTags StdBlocks) Global

abbrev pub JekyllLanguage : Type 0
JekyllLanguage = Rc (Language site.SiteFilter SiteTag SiteBlock) Global

-- the moment of a page, as it was read
abbrev pub IsGiven : Page → Result (Option DateTime) MomentFault → Type 0
IsGiven asked (Ok now) = HasMoment asked now
IsGiven asked (Err NoMoment) = LacksMoment asked
IsGiven asked (Err NoMemory) = Unit {0}

-- the language with this moment, if there was memory for it
abbrev pub IsChosenAt : Option DateTime → Dialect → Chosen → Type 0
IsChosenAt now dialect chosen.NoOptions = ⊥
IsChosenAt now dialect chosen.NoMoment = ⊥
IsChosenAt now dialect chosen.NoMemory = Unit {0}
IsChosenAt now dialect (chosen.Plain l) = (dialect ≡ Plain) × (meaning_of filter_made l.value ≡ plain_language)
IsChosenAt now dialect (chosen.Standard l) = (dialect ≡ Standard) × (standard_meaning filter_made l.value ≡ standard_language now)
IsChosenAt now dialect (chosen.Jekyll l) = (dialect ≡ Jekyll) × (jekyll_meaning site.filter_made l.value ≡ site.site_language now)

-- the language with the page's moment
abbrev pub HasLanguage : Page → Chosen → Type 0
HasLanguage asked it =
    (asked.options < 64) × ((now : Option DateTime) × HasMoment asked now × IsChosenAt now (dialect_of asked.options) it)

abbrev pub IsChosen : Page → Chosen → Type 0
IsChosen asked chosen.NoOptions = 64 ≤ asked.options
IsChosen asked chosen.NoMoment = (asked.options < 64) × LacksMoment asked
IsChosen asked chosen.NoMemory = asked.options < 64
IsChosen asked (chosen.Plain l) = HasLanguage asked (chosen.Plain l)
IsChosen asked (chosen.Standard l) = HasLanguage asked (chosen.Standard l)
IsChosen asked (chosen.Jekyll l) = HasLanguage asked (chosen.Jekyll l)

-- a page is refused with this outcome, and nothing is written
abbrev pub IsRefused : Outcome → List ℕ → List ℕ → List ℕ → Outcome → Type 0
IsRefused outcome globals old new o = (o ≡ outcome) × (new ≡ old)
