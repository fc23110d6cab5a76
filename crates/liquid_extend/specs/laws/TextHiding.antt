-- Text blocks do not depend on hidden globals.
use Rattle.std.proofs.Common.{None, Ok, refl}
use Rattle.liquid_plugins.specs.meaning.Discreet.{Discreet}
use Rattle.liquid_plugins.proofs.Hiding.{answers_hide}
use Rattle.liquid_extend.specs.meaning.TextNodes.{text_nodes, turn_at}
use Rattle.liquid_extend.specs.meaning.Sense.{TextBlockSense}

pub text_blocks_hide : {K Reg : Type 0} (sense : K → TextBlockSense) → Discreet {Reg = Reg} (text_nodes sense)
text_blocks_hide sense = record {
  start = λ kind g v. answers_hide (Ok None) tt (λ w. w) (λ h w. refl) g v;
  turn = λ kind progress g v. answers_hide (turn_at sense kind progress) progress (λ w. w) (λ h w. refl) g v;
}
