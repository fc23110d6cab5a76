use Rattle.std.proofs.Common.{◌≡◌, Some, None, sym, ap, ◌∙◌}
use Rattle.liquid_error.specs.meaning.Told.{told}
use Rattle.liquid_parser.specs.meaning.Handed.{or_unexpected}
use Rattle.liquid_std.specs.meaning.conditions.ConditionsGiven.{connective_of}
use Rattle.liquid_std.proofs.ReadLemmas.{unexpected_told}
use Rattle.liquid_std.proofs.conditions.read_condition.read_connective.Goals as goal

pub returns-in-Some : goal.returns-in-Some
returns-in-Some c t is =
    let fits : connective_of t.text ≡ Some c.in-Some.connective = ap connective_of (sym (c.as_str.ensures t is)) ∙ sym c.in-Some.ensures in
    ap (or_unexpected t) fits

pub returns-in-None : goal.returns-in-None
returns-in-None c t is =
    let fails : connective_of t.text ≡ None = ap connective_of (sym (c.as_str.ensures t is)) ∙ sym c.in-None.ensures in
    unexpected_told t (connective_of t.text) (told c.raise_error.result) fails (c.raise_error.ensures t is)
