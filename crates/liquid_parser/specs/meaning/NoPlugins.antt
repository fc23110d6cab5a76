-- What the plug-in that does nothing means.
use Rattle.std.specs.Prelude.{[], false, Ok, codes}
use Rattle.liquid_parser.specs.meaning.Lang.{Block, BlockNames}

-- the names of a block that does nothing
abbrev pub no_names : BlockNames
no_names = record { start_name = codes "nothing"; end_name = codes "endnothing" }

-- it has no dividers, and ignores its tokens and its body
abbrev pub no_block : {F : Type 0} → Block F (Unit {0}) (Unit {0})
no_block = record {
  names = no_names;
  means = record {
    dividers = [];
    escapes = false;
    nests = false;
    begin = λ filters tokens. Ok tt;
    divide = λ plan name tokens. Ok tt;
    finish = λ plan body. Ok tt;
  };
}
