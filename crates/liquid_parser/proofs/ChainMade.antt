-- A chain with its filters, as a plug-in that expects one sees it.
use Rattle.std.proofs.Common.{◌≡◌, ℕ, Bool, true, false, List, [], ◌∷◌, map, Option, Some, None, Result, Ok, Err, refl, sym, ap, ◌∙◌}
use Rattle.std.specs.Prelude.{option_map, option_and_then, IfSome, IsNone}
use Rattle.std.specs.Result.{result_ok}
use Rattle.liquid_error.specs.declared.place.Place.{Place}
use Rattle.liquid_error.specs.meaning.Refusal.{Refusal, ok_then}
use Rattle.liquid_grammar.specs.declared.kind.TokenKind.{TokenKind}
use Rattle.liquid_grammar.specs.declared.parts.TokenParts.TheVariants as parts
use Rattle.liquid_grammar.specs.meaning.Faults.{token_fault, chain_fault}
use Rattle.liquid_grammar.specs.meaning.Tokens as token
use Rattle.liquid_grammar.specs.meaning.Tokens.{ChainRule}
use Rattle.liquid_plugins.specs.meaning.ArgumentsOf.{Arguments}
use Rattle.liquid_plugins.specs.meaning.Chain.{ChainShape}
use Rattle.liquid_parser.specs.declared.cursor.token.TagToken.{TagToken}
use Rattle.liquid_parser.specs.meaning.Cursors.{IsToken, made_by, calls_made, chain_made, expect_filter_chain}
use Rattle.liquid_parser.specs.meaning.Handed.{Token, chain, call_of, expression_meant, arguments_meant}
use Rattle.liquid_parser.specs.meaning.Lang.{Filters}
use Rattle.liquid_parser.specs.meaning.Reading.{filter_refused, filter_or, filters_read, chain_read}
use Rattle.liquid_parser.proofs.ExpectLemmas.{has_parts, shape_of_parts}

ok_of_refused : {F : Type 0} (place : Place) (text : List ℕ) (r : Result F Refusal) → result_ok (filter_refused place text r) ≡ result_ok r
ok_of_refused place text (Ok x) = refl
ok_of_refused place text (Err r) = refl

made_or : {F : Type 0} (filters : Filters F) (source : List ℕ) (o : Option (Arguments → Result F Refusal)) (f : token.Filter)
    → made_by o (arguments_meant f.what.1) ≡ result_ok (filter_or filters source o f)
made_or filters source None f = refl
made_or filters source (Some make) f = sym (ok_of_refused _ _ (make (arguments_meant f.what.1)))

both_ok : {F : Type 0} (a : Result F Refusal) (b : Result (List F) Refusal)
    → option_and_then (λ x. option_map (λ xs. x ∷ xs) (result_ok b)) (result_ok a) ≡ result_ok
    (ok_then a (λ x. ok_then b (λ xs. Ok (x ∷ xs))))
both_ok (Ok x) (Ok xs) = refl
both_ok (Ok x) (Err r) = refl
both_ok (Err r) b = refl

calls_read : {F : Type 0} (filters : Filters F) (source : List ℕ) (fs : List token.Filter)
    → calls_made filters (map call_of fs) ≡ result_ok (filters_read filters source fs)
calls_read filters source [] = refl
calls_read filters source (f ∷ fs) =
    ap (λ o. option_and_then (λ x. option_map (λ xs. x ∷ xs) o) (made_by (filters.get f.what.0) (arguments_meant f.what.1)))
    (calls_read filters source fs)
    ∙ (ap (option_and_then (λ x. option_map (λ xs. x ∷ xs) (result_ok (filters_read filters source fs))))
    (made_or filters source (filters.get f.what.0) f)
    ∙ both_ok (filter_or filters source (filters.get f.what.0) f) (filters_read filters source fs))

entry_ok : {F : Type 0} (c : token.Chain) (r : Result (List F) Refusal)
    → option_map {U = ChainShape F} (λ xs. record { entry = expression_meant c.what.0; filters = xs }) (result_ok r) ≡ result_ok
    (ok_then r (λ xs. Ok (record { entry = expression_meant c.what.0; filters = xs })))
entry_ok c (Ok xs) = refl
entry_ok c (Err r) = refl

-- what is made of a chain is what the reading makes of it, refusals aside
pub chain_is_read : {F : Type 0} (filters : Filters F) (source : List ℕ) (c : token.Chain)
    → chain_made filters (chain (expression_meant c.what.0) (map call_of c.what.1)) ≡ result_ok (chain_read filters source c)
chain_is_read filters source c =
    ap (option_map (λ xs. record { entry = expression_meant c.what.0; filters = xs })) (calls_read filters source c.what.1)
    ∙ entry_ok c (filters_read filters source c.what.1)

-- a token that is a chain, and what the reading makes of it
pub record IsChainRead {F : Type 0} (filters : Filters F) (t : TagToken) (handed : Token) : Type 0 where
  pub shape : token.Chain
  pub match : ChainRule t.text.place.now t.text.rest.now shape
  pub fine : chain_fault shape ≡ None
  pub is : expect_filter_chain filters handed ≡ result_ok (chain_read filters t.source.now shape)

pub chain_expected : {F : Type 0} (filters : Filters F) (t : TagToken) (handed : Token) (k : TokenKind) → IsToken t handed
    → t.text.parts ≡ parts.Chain k → IsChainRead filters t handed
chain_expected filters t handed k is e =
    let h = has_parts t handed is (parts.Chain k) e in
    record {
      shape = h.chain_here;
      match = h.match;
      fine = ap token_fault (sym h.is) ∙ is.fine;
      is = ap (chain_made filters) (shape_of_parts t handed is _ h.is) ∙ chain_is_read filters t.source.now h.chain_here;
    }

-- a refusal makes nothing
pub nothing_made : {A : Type 0} (o : Option Refusal) (meant : Result A Refusal) (is_none : Bool) → IfSome o (λ r. meant ≡ Err r)
    → (IsNone o → is_none ≡ true) → is_none ≡ false → result_ok meant ≡ None
nothing_made None meant is_none told memory other = let both : true ≡ false = sym (memory refl) ∙ other in cc
nothing_made (Some r) meant is_none told memory other = ap result_ok told
