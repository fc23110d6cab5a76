use Rattle.std.proofs.Common.{refl}
use Rattle.std.proofs.lemmas.Grind.{flat_map-append}
use Rattle.std.proofs.lemmas.Str.{chars-append, encodes-append}
use Rattle.liquid_strings.proofs.laws.lower_case_is_by_parts.Goals as goal

pub returns : goal.returns
returns c = rw (chars-append c.args.front.now c.args.back.now c.utf8.front, flat_map-append, encodes-append) refl
