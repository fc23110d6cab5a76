-- The names of blocks of two types are those of the blocks.
use Rattle.std.proofs.Common.{◌≡◌}
use Rattle.liquid_parser.specs.meaning.Lang.{Block, BlockNames}
use Rattle.liquid_extend.specs.declared.beside.one_of.Beside.{Beside}
use Rattle.liquid_extend.specs.declared.beside.one_of.Beside.TheVariants.{Library, Own}
use Rattle.liquid_extend.specs.meaning.Plugins.{block_beside, names_beside}

pub named_beside : {L O F P Q S T : Type 0} (l : L → BlockNames) (o : O → BlockNames) (library : L → Block F P S) (own : O → Block F Q T)
    → ((b : L) → l b ≡ (library b).names) → ((b : O) → o b ≡ (own b).names)
    → (b : Beside L O) → names_beside l o b ≡ (block_beside library own b).names
named_beside l o library own named other (Library b) = named b
named_beside l o library own named other (Own b) = other b
