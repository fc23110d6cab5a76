-- The place in a list that an index names: the definition is the one of the values.
pub use Rattle.liquid_value.specs.meaning.Place.{place_at, nth, item_at}
