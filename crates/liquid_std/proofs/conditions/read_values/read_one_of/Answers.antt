use Rattle.std.proofs.Common.{◌≡◌, map, true, false, rules}
use Rattle.std.specs.List.{list_any}
use Rattle.std.specs.Prelude.{bytes_eq}
use Rattle.liquid_error.specs.meaning.Told.{told}
use Rattle.liquid_std.proofs.ValueLemmas.{one_of_refused, one_of_taken}
use Rattle.liquid_std.proofs.conditions.read_values.read_one_of.Goals as goal

pub returns-then-is_one_of : goal.returns-then-is_one_of
returns-then-is_one_of c t is =
    let found : list_any (bytes_eq c.as_str.result.now) (map (λ s. s.now) c.args.texts.now) ≡ true = search rules in
    one_of_taken (map (λ s. s.now) c.args.texts.now) t c.as_str.result.now (c.as_str.ensures t is) found

pub returns-else-is_one_of : goal.returns-else-is_one_of
returns-else-is_one_of c t is =
    let missing : list_any (bytes_eq c.as_str.result.now) (map (λ s. s.now) c.args.texts.now) ≡ false = search rules in
    one_of_refused (map (λ s. s.now) c.args.texts.now) t c.as_str.result.now (told c.raise_error.result) (c.as_str.ensures t is) missing
    (c.raise_error.ensures t is)
