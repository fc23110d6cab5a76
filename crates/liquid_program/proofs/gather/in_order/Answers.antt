use Rattle.std.proofs.Common.{◌≡◌, ◌∙◌, ◌∷◌, ap, map, option_map, string_bytes, sym, None, rules}
use Rattle.std.specs.FinMap.{empty, insert}
use Rattle.liquid_plugins.specs.meaning.Registry.{by_name}
use Rattle.liquid_plugins.proofs.Registries.{by_name-empty, by_name-insert}
use Rattle.liquid_program.specs.meaning.Gathered.{names_into, stem_of}
use Rattle.liquid_program.proofs.EndingLemmas.{names_step}
use Rattle.std.specs.Option.{option_map_or}
use Rattle.liquid_program.proofs.gather.in_order.Goals as goal
use Rattle.liquid_program.proofs.gather.in_order.Goals.{in-Some-stem_of+in_ok-from_str+in_ok-insert, in_default}

pub loop-name-init : goal.loop-name-init
loop-name-init c =
    let rest : c.into_iter-name-iterator.result.rest.items ≡ c.args.names.items = c.into_iter-name-iterator.ensures.into_iter_gives.0 in
    let none : by_name c.new-set.result ≡ empty = by_name-empty c.new-set.result c.new-set.ensures.empty in
    let ending = option_map (λ e. e.now) c.args.ending in
    ap (λ m. names_into ending m (map string_bytes c.into_iter-name-iterator.result.rest.items)) none
    ∙ ap (λ ns. names_into ending empty (map string_bytes ns)) rest

pub loop-name-preserved : goal.loop-name-preserved
loop-name-preserved c =
    let ending = option_map (λ e. e.now) c.args.ending in
    let found = by_name c.loop-name.set in
    let left : c.loop-name.name-iterator.rest.items ≡ c.in-Some.name ∷ c.next.new.self.rest.items = c.in-Some.ensures.steps.0 in
    let stem : option_map (λ s. s.now) c.stem_of.result ≡ stem_of ending (string_bytes c.in-Some.name) =
    rw c.as_str.ensures.value at c.stem_of.ensures in
    let put : by_name c.match-stem_of.set ≡ option_map_or (λ s. insert found s tt) (option_map (λ s. s.now) c.stem_of.result) found =
    elim c.match-stem_of.branch [
      | in-Some-stem_of+in_ok-from_str+in_ok-insert w ↦
          ap by_name w.set-is ∙ by_name-insert c.loop-name.set w.insert.new.self w.in_ok-from_str.field-0 tt w.in_ok-insert.ensures.updates
          ∙ ap (λ k. insert found k tt) w.in_ok-from_str.ensures.ok
          ∙ sym (ap (λ r. option_map_or (λ s. insert found s tt) (option_map (λ s. s.now) r) found) w.in-Some-stem_of.is)
      | in_default w ↦
          let none : c.stem_of.result ≡ None = search rules in
          ap by_name w.set-is ∙ sym (ap (λ r. option_map_or (λ s. insert found s tt) (option_map (λ s. s.now) r) found) none)
    ] in
    names_step ending found (by_name c.match-stem_of.set) (string_bytes c.in-Some.name) (option_map (λ s. s.now) c.stem_of.result)
    (map string_bytes c.next.new.self.rest.items) stem put
    ∙ sym (ap (λ ns. names_into ending found (map string_bytes ns)) left)
    ∙ c.loop-name.invariant
