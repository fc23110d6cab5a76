use Rattle.std.proofs.Common.{inl, refl}
use Rattle.liquid_parser.proofs.cursor.element.Raw.into_renderable.Goals as goal

pub returns-then-self-gt-BRIEF_LIMIT : goal.returns-then-self-gt-BRIEF_LIMIT
returns-then-self-gt-BRIEF_LIMIT g c = inl (c.in_ok-from_str.field-0, refl, c.in_ok-from_str.ensures.ok)
