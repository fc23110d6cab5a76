use Rattle.example_shop.proofs.LanguageLemmas.{shop_language}
use Rattle.example_shop.proofs.languages.language.Goals as goal

pub returns-clause-means : goal.returns-clause-means
returns-clause-means c = shop_language _ _ _ c.in_ok-filters_beside.ensures c.in_ok-tags.ensures c.in_ok-blocks.ensures
