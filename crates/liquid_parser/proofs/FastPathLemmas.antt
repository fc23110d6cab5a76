-- Expressions without a fault, by the beginnings of their chains.
use Rattle.std.proofs.Common.{◌≡◌, ℕ, List, [], ◌∷◌, ◌++◌, Option, Some, None, Ok, Err, Bor, refl, sym, ap, ◌∙◌, subst}
use Rattle.std.specs.Option.{option_or}
use Rattle.std.specs.Prelude.{IfSome, codes}
use Rattle.liquid_error.specs.meaning.Refusal.{Refusal, ok_then}
use Rattle.liquid_grammar.specs.declared.head.Head.{Head}
use Rattle.liquid_grammar.specs.declared.head.Head.TheVariants as head
use Rattle.liquid_grammar.specs.meaning.Cover.{Element, expression, invalid}
use Rattle.liquid_grammar.specs.meaning.Faults.{chain_fault, filter_fault, first_fault, value_fault}
use Rattle.liquid_grammar.specs.meaning.Kinds.{chain_kind, identifier_of}
use Rattle.liquid_grammar.specs.meaning.Parts.{IsHead, HasHead, OpensExpression, ClosesExpression}
use Rattle.liquid_grammar.specs.meaning.Rules.{Repeated}
use Rattle.liquid_grammar.specs.meaning.Tokens.{Chain, Following, FilterRule, ChainRule}
use Rattle.liquid_grammar.specs.meaning.Values.{variable_value, no_index, gather}
use Rattle.liquid_grammar.specs.steps.TokenSteps.{following, filter}
use Rattle.liquid_grammar.proofs.ExactRepeated.{repeated_total}
use Rattle.liquid_grammar.proofs.ExpressionPartLemmas.{element_stands, no_index_here, no_filter_here}
use Rattle.liquid_grammar.proofs.PartLemmas.{none_left}
use Rattle.liquid_grammar.proofs.TokenExact.{exact-filters}
use Rattle.liquid_plugins.specs.meaning.Chain.{ChainShape}
use Rattle.liquid_plugins.specs.meaning.Nodes.{NodeShape, chain_node}
use Rattle.liquid_plugins.specs.meaning.NodesOf.{name_chain}
use Rattle.liquid_parser.specs.meaning.Lang.{Filters, Lang}
use Rattle.liquid_parser.specs.meaning.Reading.{Open, among, checked, chain_read, expression_read, node_added, refused_at}
use Rattle.liquid_parser.specs.steps.Built.{MakesNode}
use Rattle.liquid_parser.specs.steps.Views.{advanced, past_escaped}
use Rattle.liquid_parser.proofs.NameLemmas.{name_read}

-- the chain whose value has this beginning
pub record IsHeaded (start : List ℕ) (h : Head) (after : List ℕ) : Type 0 where
  pub middle : List ℕ
  pub end : List ℕ
  pub chain : Chain
  pub match : ChainRule start end chain
  pub begun : IsHead start middle h after chain.what.0
  pub filters : Repeated (Following 124 FilterRule) middle end chain.what.1

pub headed : (start after : List ℕ) (h : Head) → HasHead start h after → IsHeaded start h after
headed start after h has =
    let all = repeated_total (following 124 filter) has.rest in
    let filters = exact-filters.sound has.rest all.0.1 all.0.0 all.1 in
    record {
      middle = has.rest;
      end = all.0.1;
      chain = record { place = start; following = all.0.1; what = (has.value, all.0.0) };
      match = record { begins = refl; ends = refl; match = record { middle = has.rest; before = has.match; after = filters } };
      begun = has.head;
      filters = filters;
    }

module _ {F T B : Type 0} (filters : Filters F) (source : List ℕ) where
  -- a chain between an expression's beginning and its end
  pub chain_makes : (s start after end rest : List ℕ) (h : Head) (x : ChainShape F) (has : IsHeaded start h after) → OpensExpression s start
      → (chain_fault has.chain ≡ None) × (chain_read filters source has.chain ≡ Ok x) × (end ≡ has.end) → ClosesExpression end rest
      → MakesNode {T = T} {B = B} filters source s rest (chain_node x)
  chain_makes s start after end rest h x has opens made closes =
      let stands =
      element_stands s start end rest has.chain opens (subst (λ e. ChainRule start e has.chain) (sym made.2) has.match) closes in
      record {
        chain = has.chain;
        text = stands.0;
        stands = stands.1;
        fine = made.0;
        read = ap (λ r. ok_then r (λ c. Ok (chain_node c))) made.1;
      }

  -- a name alone
  pub name_makes : (s start after rest : List ℕ) (name : Bor (List ℕ)) → OpensExpression s start → HasHead start (head.Name name) after
      → ClosesExpression after rest
      → MakesNode {T = T} {B = B} filters source s rest (chain_node (name_chain name.now))
  name_makes s start after rest name opens has closes =
      let h = headed start after (head.Name name) has in
      let unindexed = none_left after h.middle h.begun.indexes h.begun.match (no_index_here after rest closes) in
      let others : Repeated (Following 124 FilterRule) after h.end h.chain.what.1 =
      subst (λ m. Repeated (Following 124 FilterRule) m h.end h.chain.what.1) unindexed.ends h.filters in
      let unfiltered = none_left after h.end h.chain.what.1 others (no_filter_here after rest closes) in
      let value : h.chain.what.0 ≡ variable_value start h.middle name.now no_index =
      h.begun.is ∙ ap (λ is. variable_value start h.middle name.now (gather is)) unindexed.none in
      let fine : chain_fault h.chain ≡ None =
      ap (λ v. option_or (value_fault v) (first_fault filter_fault h.chain.what.1)) value ∙ ap (first_fault filter_fault) unfiltered.none
      in
      let kind : Some name.now ≡ identifier_of (chain_kind h.chain.what.0 h.chain.what.1) =
      sym (ap (λ v. identifier_of (chain_kind v h.chain.what.1)) value
      ∙ ap (λ fs. identifier_of (chain_kind (variable_value start h.middle name.now no_index) fs)) unfiltered.none)
      in
      chain_makes s start after after rest (head.Name name) _ h opens
      (fine, name_read filters source name.now h.chain kind, sym unfiltered.ends) closes

-- such an expression is one more node
pub node_advanced : {F T P B : Type 0} (l : Lang F T P B) (source : List ℕ) (outside : ℕ) (blocks : List (Open F T P B))
    (nodes : List (NodeShape F T B)) (s following : List ℕ) (node : NodeShape F T B)
    → (made : MakesNode l.filters source s following node) → (es : List Element)
    → advanced l source outside (among blocks nodes) source following (expression made.chain made.text) es ≡ Ok
    (among blocks (nodes ++ node ∷ []), es)
node_advanced l source outside blocks nodes s following node made es =
    ap (λ o. ok_then (ok_then (checked source o) (λ _. node_added blocks nodes (expression_read l.filters source made.chain)))
    (λ next. past_escaped source next es)) made.fine
    ∙ ap (λ r. ok_then (node_added blocks nodes r) (λ next. past_escaped source next es)) made.read

-- what is neither a tag nor an expression is refused at its brace
pub invalid_advanced : {F T P B : Type 0} (l : Lang F T P B) (source : List ℕ) (outside : ℕ) (blocks : List (Open F T P B))
    (nodes : List (NodeShape F T B)) (following text : List ℕ) (es : List Element) (o : Option Refusal)
    → IfSome o (λ r. r ≡ refused_at source (codes "Invalid liquid") (123 ∷ following))
    → IfSome o (λ r. advanced l source outside (among blocks nodes) source following (invalid text) es ≡ Err r)
invalid_advanced l source outside blocks nodes following text es None is = tt
invalid_advanced l source outside blocks nodes following text es (Some r) is = ap (λ x. Err x) (sym is)
