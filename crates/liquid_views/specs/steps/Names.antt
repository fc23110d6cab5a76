-- The names of an object's members: the definition is the one of the values.
pub use Rattle.liquid_value.specs.meaning.Names.{names}
