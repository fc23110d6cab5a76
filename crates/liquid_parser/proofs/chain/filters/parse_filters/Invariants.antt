use denote.Text.{Utf8}
use denote.Shadow.{shadow}
use Rattle.std.proofs.Common.{◌≡◌, ℕ, List, None, length, map}
use Rattle.liquid_grammar.specs.meaning.Faults.{filter_fault, first_fault}
use Rattle.liquid_grammar.specs.meaning.Rules.{Repeated}
use Rattle.liquid_grammar.specs.meaning.Tokens as token
use Rattle.liquid_grammar.specs.meaning.Tokens.{Following, FilterRule}
use Rattle.liquid_parser.specs.meaning.Plugins.{registry_of}
use Rattle.liquid_parser.specs.meaning.Reading.{filters_read}
use Rattle.liquid_parser.proofs.FiltersLeft.{Left}
use Rattle.liquid_parser.proofs.chain.filters.parse_filters.Given as goal

abbrev pub decreases-filters : goal.decreases-filters
decreases-filters g l = length l.rest

-- what is left of the filters is here
abbrev pub invariant-filters : goal.invariant-filters
invariant-filters g l =
    shadow (Utf8 l.rest)
    × ((end : List ℕ) (fs : List token.Filter) → Repeated (Following 124 FilterRule) l.s end fs → first_fault filter_fault fs ≡ None
    → Left (registry_of g.F.ParseFilter.makes l.registry) l.source l.rest end (map g.F.Filter.Meant.shape l.filters.items)
    (filters_read (registry_of g.F.ParseFilter.makes l.registry) l.source fs) (first_fault filter_fault fs))
