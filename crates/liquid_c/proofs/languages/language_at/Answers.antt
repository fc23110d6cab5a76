use Rattle.std.proofs.Common.{rules, ◌≡◌}
use Rattle.liquid_tags.specs.meaning.Languages.{meaning_of}
use Rattle.liquid_std.specs.meaning.Languages.{meaning_of as standard_meaning}
use Rattle.jekyll_language.specs.meaning.Languages.{meaning_of as jekyll_meaning}
use Rattle.jekyll_language.specs.meaning.Site as site
use Rattle.liquid_c.specs.meaning.Languages.{filter_made, plain_language, standard_language}
use Rattle.liquid_c.proofs.ChosenLemmas.{made}
use Rattle.liquid_c.proofs.languages.language_at.Goals as goal

pub returns-in-Ok : goal.returns-in-Ok
returns-in-Ok c = (
  search rules,
  made (λ l. meaning_of filter_made l.value ≡ plain_language) c.plain_language.result c.in-Ok.language c.in-Ok.is c.plain_language.ensures,
)

pub returns-in-Ok-standard_language : goal.returns-in-Ok-standard_language
returns-in-Ok-standard_language c = (
  search rules,
  made (λ l. standard_meaning filter_made l.value ≡ standard_language c.args.now) c.standard_language.result
      c.in-Ok-standard_language.language c.in-Ok-standard_language.is c.standard_language.ensures,
)

pub returns-in-Ok-jekyll_language : goal.returns-in-Ok-jekyll_language
returns-in-Ok-jekyll_language c = (
  search rules,
  made (λ l. jekyll_meaning site.filter_made l.value ≡ site.site_language c.args.now) c.jekyll_language.result
      c.in-Ok-jekyll_language.language c.in-Ok-jekyll_language.is c.jekyll_language.ensures,
)
