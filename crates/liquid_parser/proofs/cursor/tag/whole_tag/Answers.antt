use Rattle.std.proofs.Common.{[], sym, ◌∙◌, subst}
use Rattle.liquid_grammar.specs.meaning.Cover.{tag_element}
use Rattle.liquid_grammar.specs.meaning.Elements.{Means}
use Rattle.liquid_parser.proofs.TagLemmas.{tag_alone, no_other, tag_found, is_nothing, is_something}
use Rattle.liquid_parser.proofs.cursor.tag.whole_tag.Goals as goal

pub returns-in_err-element-clause-only : goal.returns-in_err-element-clause-only
returns-in_err-element-clause-only c t m =
    absurd (c.in_err-element.ensures.only [] (tag_element t c.args.text.now) (tag_alone c.args.text.now t m))

pub returns-then-is_empty-clause-only : goal.returns-then-is_empty-clause-only
returns-then-is_empty-clause-only c t m =
    let seen = c.in_ok-element.ensures.only [] (tag_element t c.args.text.now) (tag_alone c.args.text.now t m) in
    subst (λ e. Means e (tag_element t c.args.text.now)) c.in-Tag.is seen.0

pub returns-then-is_empty-clause-found : goal.returns-then-is_empty-clause-found
returns-then-is_empty-clause-found c =
    let seen = c.in_ok-element.ensures.found in
    tag_found c.args.text.now c.in_ok-element.rest.now c.in-Tag.tag seen.0 seen.1 (subst (λ e. Means e seen.0) c.in-Tag.is seen.2)
    (is_nothing c.in_ok-element.rest.now (sym c.is_empty.ensures ∙ c.if-is_empty.true))

pub returns-else-is_empty-clause-only : goal.returns-else-is_empty-clause-only
returns-else-is_empty-clause-only c t m =
    let seen = c.in_ok-element.ensures.only [] (tag_element t c.args.text.now) (tag_alone c.args.text.now t m) in
    is_something c.in_ok-element.rest.now (sym c.is_empty.ensures ∙ c.if-is_empty.false) seen.1

pub returns-in-Raw : goal.returns-in-Raw
returns-in-Raw c = record {
  only = λ t m.
      let seen = c.in_ok-element.ensures.only [] (tag_element t c.args.text.now) (tag_alone c.args.text.now t m) in
      no_other c.in_ok-element.element c.args.text.now t seen.0 c.in-Raw.is;
  found = tt;
}
