-- The nodes of elements, and the next node of a block.
use Rattle.std.proofs.Common.{◌≡◌, ℕ, List, [], ◌∷◌, ◌++◌, Option, Some, None, Result, Ok, Err, append_assoc, refl, sym, ap, ◌∙◌, subst}
use Rattle.std.specs.Prelude.{IfSome}
use Rattle.liquid_error.specs.declared.error.Error.{Error}
use Rattle.liquid_error.specs.meaning.Told.{told, Gives}
use Rattle.liquid_error.specs.meaning.Refusal.{Refusal, ok_then}
use Rattle.liquid_grammar.specs.meaning.Cover.{Element, Cover}
use Rattle.liquid_grammar.proofs.CoverLemmas.{joined_cover}
use Rattle.liquid_plugins.specs.meaning.Nodes.{NodeShape}
use Rattle.liquid_parser.specs.declared.cursor.block.TagBlock.{TagBlock}
use Rattle.liquid_parser.specs.declared.cursor.element.BlockElement.{BlockElement}
use Rattle.liquid_parser.specs.meaning.BlockReading.{
  handed_out,
  following_first,
  element_or_end,
  next_read,
  HandsOut,
  Parsed,
  ParsedNext,
  Passes,
}
use Rattle.liquid_parser.specs.meaning.ElementReading.{read_closed, node_read}
use Rattle.liquid_parser.specs.meaning.Elements.{StandsFor}
use Rattle.liquid_parser.specs.meaning.Lang.{Lang}
use Rattle.liquid_parser.specs.meaning.Reading.{node_added}
use Rattle.liquid_parser.proofs.BlockLemmas.{same_fault}
use Rattle.liquid_parser.proofs.StepLemmas.{then_refused}

-- an element that takes no others
pub parsed_alone : {A N : Type 0} (of : A → N) (result : Result A Error) (block : TagBlock) (es : List Element) (m : Result N Refusal)
    (meant : Result (List N × List Element) Refusal)
    → Cover block.rest.now es → Gives of result m → meant ≡ ok_then m (λ n. Ok (n ∷ [], es)) → Parsed of result block meant
parsed_alone of (Ok x) block es m meant c h e = (es, c, e ∙ ap (λ r. ok_then r (λ n. Ok (n ∷ [], es))) h)
parsed_alone of (Err x) block es m meant c h e = same_fault (told x) _ _ e (then_refused (told x) m (λ n. Ok (n ∷ [], es)) h)

pub added_alone : {F T P B : Type 0} (l : Lang F T P B) (source : List ℕ) (outside : ℕ) (m : Result (NodeShape F T B) Refusal)
    (es : List Element)
    → ok_then (node_added [] [] m) (λ x. read_closed l source outside x es) ≡ ok_then m (λ n. Ok (n ∷ [], es))
added_alone l source outside (Ok n) es = refl
added_alone l source outside (Err r) es = refl

module _ {F T P B : Type 0} (l : Lang F T P B) (source end_name : List ℕ) (outside : ℕ) where
  next_element : (es : List Element) (e : Element) (rest : List ℕ) → handed_out source end_name es ≡ Ok (Some e)
      → Cover rest (following_first es)
      → next_read l source end_name outside es ≡ ok_then (node_read l source outside source rest e (following_first es))
      (λ p. Ok (Some p.0, p.1))
  next_element es e rest out c =
      ap (λ r. ok_then r (λ found. element_or_end l source end_name outside found (following_first es))) out
      ∙ ap (λ b. ok_then (node_read l source outside source b e (following_first es)) (λ p. Ok (Some p.0, p.1)))
      (joined_cover rest (following_first es) c)

  -- the next element was returned, and parsed
  pub next_node : {A : Type 0} (of : A → NodeShape F T B) (n : A) (x : BlockElement) (between block : TagBlock) (es : List Element)
      → between.source.now ≡ source → block.is_closed ≡ between.is_closed
      → HandsOut (Ok (Some x)) between (handed_out source end_name es) → Cover between.rest.now (following_first es)
      → ((e : Element) → StandsFor x between.source.now between.rest.now e
      → Parsed of (Ok n) block (node_read l between.source.now outside between.source.now between.rest.now e (following_first es)))
      → ParsedNext of (Ok (Some n)) block (next_read l source end_name outside es)
  next_node of n x between block es same kept out c parsed =
      let p = parsed out.0 out.2 in
      let here : node_read l source outside source between.rest.now out.0 (following_first es) ≡ Ok (of n ∷ [], p.0) =
      subst (λ s. node_read l s outside s between.rest.now out.0 (following_first es) ≡ Ok (of n ∷ [], p.0)) same p.2 in
      (p.0, p.1, next_element es out.0 between.rest.now out.1 c ∙ ap (λ r. ok_then r (λ q. Ok (Some q.0, q.1))) here, kept ∙ out.3)

  pub next_refused : {A : Type 0} (of : A → NodeShape F T B) (error : Error) (x : BlockElement) (between block : TagBlock)
      (es : List Element)
      → between.source.now ≡ source
      → HandsOut (Ok (Some x)) between (handed_out source end_name es) → Cover between.rest.now (following_first es)
      → ((e : Element) → StandsFor x between.source.now between.rest.now e
      → Parsed of (Err error) block (node_read l between.source.now outside between.source.now between.rest.now e (following_first es)))
      → IfSome (told error) (λ r. next_read l source end_name outside es ≡ Err r)
  next_refused of error x between block es same out c parsed = go (told error) (parsed out.0 out.2)
    where
      go : (o : Option Refusal) → IfSome o (λ r. node_read l between.source.now outside between.source.now between.rest.now out.0
          (following_first es) ≡ Err r) → IfSome o (λ r. next_read l source end_name outside es ≡ Err r)
      go None h = tt
      go (Some r) h =
          let here : node_read l source outside source between.rest.now out.0 (following_first es) ≡ Err r =
          subst (λ s. node_read l s outside s between.rest.now out.0 (following_first es) ≡ Err r) same h in
          next_element es out.0 between.rest.now out.1 c ∙ ap (λ q. ok_then q (λ p. Ok (Some p.0, p.1))) here

-- one cursor further on than another
pub passes_on : (a b c : TagBlock) → Passes a b → Passes b c → Passes a c
passes_on a b c p q = record {
  source_is = q.source_is ∙ p.source_is;
  start_is = q.start_is ∙ p.start_is;
  end_is = q.end_is ∙ p.end_is;
  passed = p.passed ++ q.passed;
  joined = p.joined ∙ (ap (λ t. p.passed ++ t) q.joined ∙ sym (append_assoc p.passed q.passed c.rest.now));
}
