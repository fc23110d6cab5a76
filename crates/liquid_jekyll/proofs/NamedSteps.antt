-- What a filter sees of a view is all that the filters that read names need.
use Rattle.std.proofs.Common.{◌≡◌, ℕ, List, codes, Ok, ap}
use Rattle.std.specs.Prelude.{ok_or}
use Rattle.std.specs.Option.{option_map_or, unwrap_or}
use Rattle.liquid_scalar.specs.meaning.Scalar.{text}
use Rattle.liquid_value.specs.meaning.Render.{render}
use Rattle.liquid_value.specs.meaning.Tree.{Tree, nil}
use Rattle.liquid_runtime.specs.meaning.Erased.{erase}
use Rattle.liquid_runtime.specs.meaning.View.{View}
use Rattle.liquid_plugins.specs.meaning.Expression.{no_indexes, variable}
use Rattle.liquid_plugins.proofs.ErasedLemmas.{try_erased}
use Rattle.liquid_jekyll.specs.declared.named.NamedKind.{NamedKind}
use Rattle.liquid_jekyll.specs.declared.named.NamedKind.TheVariants.{
  RelativeUrl,
  AbsoluteUrl,
  Markdownify,
  Smartify,
  Sassify,
  Scssify,
}
use Rattle.liquid_jekyll.specs.meaning.Named.{absolute_in, named_answer, relative_in}
use Rattle.liquid_jekyll.specs.meaning.Rendered.{entry, no_rendered_text, rendered_text, typographic}
use Rattle.liquid_jekyll.specs.meaning.Seen.{value_seen}

module _ {Reg : Type 0} where
  seen_erased : (name : List ℕ) (v : View Reg) → value_seen name (erase v) ≡ value_seen name v
  seen_erased name v = ap (λ found. unwrap_or found nil) (try_erased v (variable (text name) no_indexes))

  rendered_erased : (filter : List ℕ) (input : Tree) (v : View Reg) → rendered_text filter input (erase v) ≡ rendered_text filter input v
  rendered_erased filter input v =
      ap (λ r. ok_or (entry filter (render input) r) (no_rendered_text filter (render input))) (seen_erased (codes "rendered") v)

  pub named_answer_erased : (kind : NamedKind) (input : Tree) (v : View Reg) → named_answer kind input (erase v) ≡ named_answer kind input v
  named_answer_erased RelativeUrl input v = ap (λ site. Ok (relative_in site input)) (seen_erased (codes "site") v)
  named_answer_erased AbsoluteUrl input v = ap (λ site. Ok (absolute_in site input)) (seen_erased (codes "site") v)
  named_answer_erased Markdownify input v = rendered_erased (codes "markdownify") input v
  named_answer_erased Smartify input v =
      ap (λ r. option_map_or (λ t. Ok t) (entry (codes "smartify") (render input) r) (typographic (render input)))
      (seen_erased (codes "rendered") v)
  named_answer_erased Sassify input v = rendered_erased (codes "sassify") input v
  named_answer_erased Scssify input v = rendered_erased (codes "scssify") input v
