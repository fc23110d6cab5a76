-- A filter's row and its meaning.
use Rattle.std.specs.Prelude.{◌≡◌, map}
use Rattle.liquid_filters.specs.declared.row.FilterRow.{FilterRow}
use Rattle.liquid_filters.specs.meaning.Sense.{FilterSense}

-- the row has the name, parameters that are optional if the argument may be left out, and the keywords
pub record IsRow (sense : FilterSense) (row : FilterRow) : Type 0 where
  pub name : row.name.now ≡ sense.name
  pub parameters : map (λ p. p.is_optional) row.parameters.now ≡ sense.optional
  pub keywords : map (λ p. p.name.now) row.keywords.now ≡ sense.keywords
