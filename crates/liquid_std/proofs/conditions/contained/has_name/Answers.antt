use Rattle.std.proofs.Common.{◌≡◌, Option, None, Some, refl, ap, ◌∙◌}
use Rattle.std.specs.Prelude.{is_some, option_map}
use Rattle.liquid_value.specs.meaning.View.{view}
use Rattle.liquid_paths.proofs.Values.{value_of_member}
use Rattle.liquid_paths.proofs.Turns.{now_mapped}
use Rattle.liquid_std.proofs.conditions.contained.has_name.Goals as goal

some_mapped : {A B : Type 0} (f : A → B) (o : Option A) → is_some o ≡ is_some (option_map f o)
some_mapped f None = refl
some_mapped f (Some x) = refl

pub returns : goal.returns
returns c =
    c.is_some.ensures ∙ some_mapped (λ v. view v.now) c.get.result
    ∙ ap is_some (now_mapped view c.get.result ∙ ap (option_map view) c.get.ensures.value
    ∙ value_of_member c.args.name.now c.args.members.now.entries)
