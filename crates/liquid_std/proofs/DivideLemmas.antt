-- A divider after `else`.
use Rattle.std.proofs.Common.{◌≡◌, ℕ, List, codes, Option, None, Some, Err, cond, true, sym, ap, ◌∙◌}
use Rattle.std.specs.Prelude.{IfSome}
use Rattle.liquid_error.specs.meaning.Refusal.{Refusal, located}
use Rattle.liquid_parser.specs.meaning.Handed.{Tokens}
use Rattle.liquid_std.specs.declared.block_plugins.StdPlanShape.{StdPlanShape}
use Rattle.liquid_std.specs.meaning.BlockPlugins.{divided, divided_on}

pub closed_divided : (p : StdPlanShape) (name : List ℕ) (ts : Tokens) (o : Option Refusal) → p.is_closed ≡ true
    → IfSome o (λ r. r ≡ located (codes "Divider after else") ts.following) → IfSome o (λ r. divided p name ts ≡ Err r)
closed_divided p name ts None closed told = told
closed_divided p name ts (Some r) closed told =
    ap (λ b. cond b (Err (located (codes "Divider after else") ts.following)) (divided_on p name ts)) closed ∙ ap (λ q. Err q) (sym told)
