-- The block `twice`.
use Rattle.std.specs.Prelude.{◌++◌, codes, Ok}
use Rattle.example_shop.specs.declared.twice.Twice.{Twice}
use Rattle.liquid_extend.specs.meaning.Sense.{TextBlockSense}

-- its body's text, twice
abbrev pub twice : Twice → TextBlockSense
twice kind = record {
  names = record { start_name = codes "twice"; end_name = codes "endtwice" };
  transforms = λ body. Ok (body ++ body);
}
