use Rattle.std.proofs.Common.{map, sym, ap, ◌∙◌, arith, rules}
use Rattle.std.specs.Prelude.{option_map}
use Rattle.std.proofs.lemmas.List.{map_push}
use Rattle.liquid_plugins.specs.meaning.ExpressionOf.{expression_of}
use Rattle.liquid_grammar.specs.meaning.Faults.{argument_fault, first_fault}
use Rattle.liquid_parser.specs.meaning.Handed.{arguments_meant, expression_meant}
use Rattle.liquid_parser.proofs.ArgumentsLeft.{left_next, left_none, name_of, key_of, keyword_then, positional_then}
use Rattle.liquid_parser.proofs.chain.arguments.build_arguments.Goals as goal

pub arguments-preserved-in_ok-push-in-Some-name : goal.arguments-preserved-in_ok-push-in-Some-name
arguments-preserved-in_ok-push-in-Some-name c = (
  search rules,
  search rules,
  λ end given m.
      let left = c.arguments.invariant.2 end given m in
      let next = left_next _ _ _ _ _ _ c.in-Some.start left (c.in-Some.ensures.only end left.arguments left.match) in
      let h =
      rw c.in-Some-2.is at c.in_ok-value.ensures.value next.place next.middle next.value next.head
      (λ some. absurd (omega (arith, some))) in
      keyword_then c.in-Some-2.following.now next.middle end (record
      { positional = map expression_of c.arguments.positional.items; keyword = map key_of c.arguments.keyword.items })
      (arguments_meant given) (first_fault argument_fault given) (name_of c.in-Some.start) c.in-Some-name.name.now
      (expression_meant next.value) (expression_of c.in-Some-2.value) (map key_of c.push.new.self.items) (next.then h.0)
      (ap (λ o. option_map (λ n. n.now) o) c.in-Some-name.is) h.1 h.2
      (ap (map key_of) c.in_ok-push-in-Some-name.ensures.items ∙ map_push key_of c.arguments.keyword.items
      (c.in-Some-name.name, c.in-Some-2.value)),
)

pub arguments-preserved : goal.arguments-preserved
arguments-preserved c = (
  search rules,
  search rules,
  λ end given m.
      let left = c.arguments.invariant.2 end given m in
      let next = left_next _ _ _ _ _ _ c.in-Some.start left (c.in-Some.ensures.only end left.arguments left.match) in
      let h =
      rw c.in-Some-2.is at c.in_ok-value.ensures.value next.place next.middle next.value next.head
      (λ some. absurd (omega (arith, some))) in
      positional_then c.in-Some-2.following.now next.middle end (record
      { positional = map expression_of c.arguments.positional.items; keyword = map key_of c.arguments.keyword.items })
      (arguments_meant given) (first_fault argument_fault given) (name_of c.in-Some.start) (expression_meant next.value)
      (expression_of c.in-Some-2.value) (map expression_of c.push-in-None-name.new.self.items) (next.then h.0)
      (ap (λ o. option_map (λ n. n.now) o) c.in-None-name.is) h.1 h.2
      (ap (map expression_of) c.in_ok-push-in-None-name.ensures.items
      ∙ map_push expression_of c.arguments.positional.items c.in-Some-2.value),
)

pub returns-in-None-clause-value : goal.returns-in-None-clause-value
returns-in-None-clause-value c end given m =
    let left = c.arguments.invariant.2 end given m in
    let next = left_next _ _ _ _ _ _ c.in-Some.start left (c.in-Some.ensures.only end left.arguments left.match) in
    let h =
    rw c.in-None.is at c.in_ok-value.ensures.value next.place next.middle next.value next.head (λ some. absurd (omega (arith, some))) in
    λ none. h (next.fine none)

pub returns-clause-value : goal.returns-clause-value
returns-clause-value c end given m =
    let left = c.arguments.invariant.2 end given m in
    let none = c.in_default.ensures.only end left.arguments left.match in
    let done = left_none _ _ _ _ _ _ left none in
    (done.0, done.1, sym none.ends)
