use Rattle.std.proofs.Common.{◌∙◌}
use Rattle.liquid_parser.proofs.ElementLemmas.{raw_text, tag_text, expression_text, invalid_text}
use Rattle.liquid_parser.proofs.cursor.element.BlockElement.as_str.Goals as goal

pub returns-in-Raw : goal.returns-in-Raw
returns-in-Raw c source following e m = c.as_str.ensures ∙ raw_text c.in-Raw.raw source following e (rw c.in-Raw.is at m)

pub returns-in-Tag : goal.returns-in-Tag
returns-in-Tag c source following e m = c.as_str-in-Tag.ensures ∙ tag_text c.in-Tag.tag source following e (rw c.in-Tag.is at m)

pub returns-in-Expression : goal.returns-in-Expression
returns-in-Expression c source following e m =
    c.as_str-in-Expression.ensures ∙ expression_text c.in-Expression.exp source following e (rw c.in-Expression.is at m)

pub returns-in-Invalid : goal.returns-in-Invalid
returns-in-Invalid c source following e m =
    c.as_str-in-Invalid.ensures ∙ invalid_text c.in-Invalid.token source following e (rw c.in-Invalid.is at m)
