-- Where an error is, as plain data: a position in the text at hand, and the partials around the error.
use Rattle.std.specs.Prelude.{ℕ, zero, suc, List, [], ◌∷◌, ◌++◌, Option, None, Some, map, string_bytes}
use Rattle.std.specs.Option.{option_or}
use Rattle.liquid_error.specs.declared.error.Error.{Error, fold-Error}
use Rattle.liquid_error.specs.declared.error.Error.TheOpen.{Error-F}
use Rattle.liquid_error.specs.declared.place.Place.{Place}
use Rattle.liquid_error.specs.declared.site.Location.{Location}
use Rattle.liquid_error.specs.declared.site.Location.TheVariants as location
use Rattle.liquid_error.specs.declared.site.Site.{Site}
use Rattle.liquid_error.specs.declared.site.Spot.{Spot}
use Rattle.liquid_error.specs.declared.site.Spot.TheVariants as spot

-- a position in the text of the partial of this name
pub record SiteShape : Type 0 where
  pub partial : List ℕ
  pub spot : Spot

abbrev pub site_of : Site → SiteShape
site_of s = record { partial = string_bytes s.partial; spot = s.spot }

-- the place that reading found
abbrev pub place_of : Location → Option Place
place_of location.Unknown = None
place_of (location.At place) = Some place
place_of (location.Node left) = None
place_of (location.Through trail) = trail.value.place

-- the position in the text at hand
abbrev pub here_of : Location → Option Spot
here_of location.Unknown = None
here_of (location.At place) = Some (spot.Place place)
here_of (location.Node left) = Some (spot.Left left)
here_of (location.Through trail) = trail.value.here

-- the partials around the error, the innermost first
abbrev pub sites_of : Location → List SiteShape
sites_of location.Unknown = []
sites_of (location.At place) = []
sites_of (location.Node left) = []
sites_of (location.Through trail) = map site_of trail.value.sites.items

-- a node of the text at hand has failed: the innermost node is reached first, and its position is kept. That of a node
-- from which no byte is left is not known
abbrev pub at_node : ℕ → Option Spot → Option Spot
at_node left known = option_or known (Some (spot.Left left))

abbrev pub at_known_node : ℕ → Option Spot → Option Spot
at_known_node zero known = known
at_known_node (suc left) known = at_node (suc left) known

-- the partials, seen from the text that renders this one: a position in its text is its own
abbrev pub sites_within : List ℕ → Option Spot → List SiteShape → List SiteShape
sites_within partial None sites = sites
sites_within partial (Some here) sites = sites ++ record { partial = partial; spot = here } ∷ []

-- the same of an error; an error that is out of memory is nowhere
abbrev here_step : Error-F (Option Spot) → Option Spot
here_step Error-F.Memory = None
here_step (Error-F.Liquid report cause) = here_of report.location

abbrev pub error_here : Error → Option Spot
error_here = fold-Error (Option Spot) here_step

abbrev sites_step : Error-F (List SiteShape) → List SiteShape
sites_step Error-F.Memory = []
sites_step (Error-F.Liquid report cause) = sites_of report.location

abbrev pub error_sites : Error → List SiteShape
error_sites = fold-Error (List SiteShape) sites_step
