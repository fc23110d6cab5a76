use Rattle.std.proofs.Common.{◌≡◌, [], ◌∷◌, ◌++◌, suc, map, None, sym, ap, ◌∙◌, subst, add-one, arith, rules}
use Rattle.std.proofs.lemmas.List.{map-append}
use Rattle.std.specs.Option.{option_or}
use Rattle.liquid_grammar.specs.meaning.Faults.{fault_within, index_fault, indexes_fault, deep_fault}
use Rattle.liquid_grammar.specs.meaning.Values.{CloseBracket, gather}
use Rattle.liquid_scalar.specs.meaning.Scalar.{text}
use Rattle.liquid_plugins.specs.meaning.Expression.{literal, variable}
use Rattle.liquid_plugins.specs.meaning.ExpressionOf.{expression_of, expressions_of}
use Rattle.liquid_parser.specs.meaning.Handed.{expression_meant, index_meant, indexes_meant}
use Rattle.liquid_parser.proofs.Indexes.{Left, left_all, left_next, left_none}
use Rattle.liquid_parser.proofs.LiteralLemmas.{not_deep, literal_built}
use Rattle.liquid_parser.proofs.chain.build.+build.Goals as goal

pub build_value-returns-in-Some-clause-value : goal.build_value-returns-in-Some-clause-value
build_value-returns-in-Some-clause-value t c rest v m closes =
    c.build_from.ensures.value c.args.s.now rest v (c.in-Some.ensures.only rest v m) closes

pub build_from-returns-in-Some-clause-value : goal.build_from-returns-in-Some-clause-value
build_from-returns-in-Some-clause-value t c place rest v is closes =
    let l = rw c.in-Literal.is at is in
    let h = rw c.in-Some.is at c.in_ok-value-in-Literal.ensures place in
    (ap (fault_within c.args.depth) l.is ∙ h.0, literal_built c.in-Some.value ∙ (ap literal h.1 ∙ sym (ap expression_meant l.is)), l.ends)

pub build_from-returns-in-None-clause-value : goal.build_from-returns-in-None-clause-value
build_from-returns-in-None-clause-value t c place rest v is closes =
    let l = rw c.in-Literal.is at is in
    let h = rw c.in-None.is at c.in_ok-value-in-Literal.ensures place in
    λ none. h (sym (ap (fault_within c.args.depth) l.is) ∙ none)

pub build_index-returns-in-Some-close_bracket-clause-value : goal.build_index-returns-in-Some-close_bracket-clause-value
build_index-returns-in-Some-close_bracket-clause-value t c place rest i m =
    let b = rw c.in-Bracket.is at m in
    let h =
    rw c.in-Some.is at c.in_ok-value-in-Bracket.ensures.value b.following b.value b.match
    (λ _. record { rest = rest; shape = b.byte; match = b.closes }) in
    let shallow : deep_fault c.args.depth place ≡ None = not_deep c.args.depth place (omega (arith, c.if-depth-ge-BRACKET_LIMIT.false)) in (
      ap (index_fault c.args.depth) b.is ∙ (ap (λ o. option_or o (fault_within (suc c.args.depth) b.value)) shallow ∙ rw add-one at h.0),
      h.1 ∙ sym (ap index_meant b.is),
      c.in-Some-close_bracket.ensures.only rest b.byte (subst (λ p. CloseBracket p rest b.byte) (sym h.2) b.closes),
    )

pub build_variable-indexes-init : goal.build_variable-indexes-init
build_variable-indexes-init t c = (
  search rules,
  search rules,
  λ end is m closes.
      subst (λ xs. Left c.args.depth c.args.s.now end (map expression_of xs) (indexes_meant (gather is))
      (indexes_fault c.args.depth (gather is))) (sym c.new-indexes.ensures.items) (left_all c.args.depth c.args.s.now end is m),
)

pub build_variable-indexes-preserved : goal.build_variable-indexes-preserved
build_variable-indexes-preserved t c = (
  search rules,
  search rules,
  λ end is m closes.
      let left = c.indexes.invariant.2 end is m closes in
      let next =
      left_next c.args.depth c.indexes.rest.now end (map expression_of c.indexes.indexes.items) (indexes_meant (gather is))
      (indexes_fault c.args.depth (gather is)) c.in-Some.start c.in-Some.after.now left
      (c.in-Some.ensures.only end left.indexes left.match closes) in
      let h = rw c.in-Some-2.is at c.in_ok-index.ensures.value c.indexes.rest.now next.middle next.index_here next.found in
      let items : map expression_of c.push.new.self.items ≡ map expression_of c.indexes.indexes.items ++ index_meant next.index_here ∷ [] =
      ap (map expression_of) c.in_ok-push-in-Some-2.ensures.items ∙ map-append expression_of c.indexes.indexes.items
      (c.in-Some-2.index ∷ []) ∙ ap (λ e. map expression_of c.indexes.indexes.items ++ e ∷ []) h.1 in
      rw items (subst (λ p. Left c.args.depth p end (map expression_of c.indexes.indexes.items ++ index_meant next.index_here ∷ [])
      (indexes_meant (gather is)) (indexes_fault c.args.depth (gather is))) (sym h.2) (next.then h.0)),
)

pub build_variable-returns-in-None-clause-value : goal.build_variable-returns-in-None-clause-value
build_variable-returns-in-None-clause-value t c end is m closes =
    let left = c.indexes.invariant.2 end is m closes in
    let next =
    left_next c.args.depth c.indexes.rest.now end (map expression_of c.indexes.indexes.items) (indexes_meant (gather is))
    (indexes_fault c.args.depth (gather is)) c.in-Some.start c.in-Some.after.now left
    (c.in-Some.ensures.only end left.indexes left.match closes) in
    let h = rw c.in-None.is at c.in_ok-index.ensures.value c.indexes.rest.now next.middle next.index_here next.found in
    λ none. h (next.fine none)

pub build_variable-returns-clause-value : goal.build_variable-returns-clause-value
build_variable-returns-clause-value t c rest is m closes =
    let left = c.indexes.invariant.2 rest is m closes in
    let none = c.in_default.ensures.only rest left.indexes left.match closes in
    let done =
    left_none c.args.depth c.indexes.rest.now rest (map expression_of c.indexes.indexes.items) (indexes_meant (gather is))
    (indexes_fault c.args.depth (gather is)) left none in (
      done.0,
      c.of_parts.ensures
          ∙ (ap (λ n. variable (text n) (expressions_of c.indexes.indexes.items)) c.in_ok-from_str.ensures.ok
          ∙ ap (variable (text c.args.name.now)) done.1),
      sym none.ends,
    )
