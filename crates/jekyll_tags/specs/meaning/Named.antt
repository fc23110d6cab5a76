-- What the tags are called, and the names of their partials.
use Rattle.std.specs.Prelude.{ℕ, List, [], codes}
use Rattle.jekyll_tags.specs.declared.plugin.JekyllTags.{JekyllTags}
use Rattle.jekyll_tags.specs.declared.plugin.JekyllTags.TheVariants.{Include, IncludeCached, IncludeRelative, Seo}

abbrev pub tag_name : JekyllTags → List ℕ
tag_name Include = codes "include"
tag_name IncludeCached = codes "include_cached"
tag_name IncludeRelative = codes "include_relative"
tag_name Seo = codes "seo"

-- what is before the given name in the name of the partial
abbrev pub prefix : JekyllTags → List ℕ
prefix Include = []
prefix IncludeCached = []
prefix IncludeRelative = codes "./"
prefix Seo = codes "seo"

-- what is before the partial's name in the trace of an error
abbrev pub word : JekyllTags → List ℕ
word Include = codes "include "
word IncludeCached = codes "include_cached "
word IncludeRelative = codes "include_relative "
word Seo = codes "include "
