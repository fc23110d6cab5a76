use Rattle.std.proofs.Common.{◌≡◌, subst}
use Rattle.std.specs.Prelude.{IfOk}
use Rattle.liquid_parser.specs.meaning.Plugins.{registry_of}
use Rattle.jekyll_language.specs.meaning.Languages.{meaning_of, tags_and_blocks}
use Rattle.jekyll_language.specs.meaning.Site.{filter_made}
use Rattle.jekyll_language.proofs.site.site_language.Goals as goal

pub returns : goal.returns
returns c =
    subst (λ filters. IfOk c.language.result (λ l. meaning_of filter_made l ≡ tags_and_blocks (registry_of filter_made filters)))
    c.in_ok-filters.ensures c.language.ensures.means
