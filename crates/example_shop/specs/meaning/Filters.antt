-- The shop's own filter.
use Rattle.std.specs.Prelude.{[], ◌++◌, codes, Ok}
use Rattle.liquid_scalar.specs.meaning.Scalar.{text}
use Rattle.liquid_value.specs.meaning.Render.{render}
use Rattle.liquid_value.specs.meaning.Tree.{scalar}
use Rattle.example_shop.specs.declared.filters.Quoted.{Quoted}
use Rattle.liquid_filters.specs.meaning.Sense.{FilterSense}

-- the text in quotes
abbrev pub quoted : Quoted → FilterSense
quoted kind =
    record {
      name = codes "quoted";
      optional = [];
      keywords = [];
      answers = λ input given. Ok (scalar (text (codes "\"" ++ (render input ++ codes "\""))));
    }
