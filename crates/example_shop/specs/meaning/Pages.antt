-- What the shop's page and its customers' texts are rendered as.
use Rattle.std.specs.Prelude.{◌≡◌, ℕ, List, Option, None, Some, Result, Ok, Err, String, codes}
use Rattle.std.specs.BTreeMap.{BTreeMap}
use Rattle.std.specs.FinMap.{empty, insert}
use Rattle.std.specs.declared.alloc.Global.{Global}
use Rattle.liquid_error.specs.declared.error.Error.{Error}
use Rattle.liquid_error.specs.meaning.ErrorText.{error_text}
use Rattle.liquid_error.specs.meaning.Refusal.{Refusal}
use Rattle.liquid_error.specs.meaning.Told.{told}
use Rattle.liquid_scalar.specs.meaning.Scalar.{text}
use Rattle.liquid_value.specs.declared.value.Value.{Value}
use Rattle.liquid_value.specs.meaning.Tree.{scalar}
use Rattle.liquid_value.specs.meaning.View.{members_view}
use Rattle.liquid_json.specs.meaning.Given.{object_read}
use Rattle.liquid_runtime.specs.meaning.Frames.{built_view}
use Rattle.liquid_runtime.specs.meaning.Maps.{Names, names_of}
use Rattle.liquid_runtime.specs.meaning.View.{View}
use Rattle.liquid_plugins.specs.meaning.Chain.{FilterMeaning}
use Rattle.liquid_plugins.specs.meaning.Nodes.{NodeShape, nodes_from}
use Rattle.liquid_parser.specs.meaning.Lang.{Lang}
use Rattle.liquid_parser.specs.meaning.Reading.{Reads}
use Rattle.liquid_template.specs.meaning.Nodes.{Setting}
use Rattle.liquid_template.specs.meaning.Partials.{Found}
use Rattle.liquid_template.specs.meaning.Rendering.{sandboxed_run}
use Rattle.liquid_template.specs.meaning.Runs.{setting}
use Rattle.liquid_template.specs.meaning.Sunk.{Sunk}
use Rattle.liquid_partials.specs.meaning.Compiled.{Compiled}
use Rattle.liquid_partials.specs.meaning.Rendered.{Rendered, RenderedBy}
use Rattle.liquid_partials.specs.meaning.Sources.{Texts}
use Rattle.liquid_tags.specs.meaning.Blocks.{block_nodes}
use Rattle.liquid_tags.specs.meaning.Tags.{tag_nodes}
use Rattle.liquid_filters.specs.meaning.Calls.{calls}
use Rattle.liquid_filters.specs.meaning.Registered.{sense_beside}
use Rattle.liquid_filters.specs.meaning.Standard.{std_sense}
use Rattle.liquid_extend.specs.meaning.TextNodes.{text_nodes}
use Rattle.liquid_extend.specs.meaning.Nodes.{nodes_beside}
use Rattle.example_shop.specs.declared.pages.TheConstants.{GOODS, ITEM, PAGE, REFUSED}
use Rattle.example_shop.specs.meaning.Badges.{badge}
use Rattle.example_shop.specs.meaning.Filters.{quoted}
use Rattle.example_shop.specs.meaning.Languages.{the_language}
use Rattle.example_shop.specs.meaning.Shapes.{ShopFilter, ShopTag, ShopPlan, ShopBlock, TagProgress, BlockProgress}
use Rattle.example_shop.specs.meaning.Stocks.{stock}
use Rattle.example_shop.specs.meaning.Twices.{twice}

-- what the shop's filters do
abbrev pub filter_calls : FilterMeaning ShopFilter
filter_calls = calls (sense_beside std_sense quoted)

abbrev pub ShopFound : Type 0
ShopFound = Found ShopFilter ShopTag ShopBlock

abbrev pub ShopLang : Type 0
ShopLang = Lang ShopFilter ShopTag ShopPlan ShopBlock

-- what the shop's templates are rendered with, by what its store finds
abbrev pub shop_setting : Option ShopFound → Setting (Unit {0}) ShopFilter ShopTag TagProgress ShopBlock BlockProgress
shop_setting =
    setting tt filter_calls (nodes_beside (tag_nodes filter_calls) badge) (nodes_beside block_nodes (nodes_beside stock (text_nodes twice)))

-- what a text is read as
abbrev pub ShopAnswer : Type 0
ShopAnswer = Result (List (NodeShape ShopFilter ShopTag ShopBlock)) Refusal

-- the shop's partials: one, for an item
abbrev pub the_partials : Texts
the_partials = insert empty (codes "item") ITEM.now

-- the view of an open shop: the globals are the shop's goods
abbrev pub SeesGoods : View (Unit {0}) → Type 0
SeesGoods v =
    (goods : BTreeMap (String Global) Value) × (object_read GOODS.now ≡ Some (Ok (members_view goods.entries)))
    × (v ≡ built_view tt 32 (names_of goods))

-- its store finds the shop's partials
abbrev pub FindsPartials : Option ShopFound → Type 0
FindsPartials None = ⊥
FindsPartials (Some found) = Compiled the_language the_partials found

-- the names that a review sees
abbrev pub visit_names : Names
visit_names = insert (insert empty (codes "visitor") (scalar (text (codes "Ada")))) (codes "item") (scalar (text (codes "Rain gauge")))

-- the one that the text after it sees, by its error
abbrev pub refusal_names : Error → Names
refusal_names error = insert empty (codes "refusal") (scalar (text (error_text (told error))))

module _ (l : ShopLang) (found : Option ShopFound) where
  -- the shop's page was rendered in its view
  abbrev pub PageShown : View (Unit {0}) → Sunk → Sunk → View (Unit {0}) → Result (Unit {0}) Error → Type 0
  PageShown v before after left result =
      (answer : ShopAnswer) → Reads l PAGE.now answer → Rendered (shop_setting found) answer v before after left result

  -- a text was rendered in a sandbox that sees these names alone
  abbrev pub SandboxShown : Names → List ℕ → View (Unit {0}) → Sunk → Sunk → View (Unit {0}) → Result (Unit {0}) Error → Type 0
  SandboxShown names source v before after left result =
      (answer : ShopAnswer) → Reads l source answer → RenderedBy (λ nodes. sandboxed_run (shop_setting found) names None (nodes_from nodes))
      answer v before after left result

  -- nothing follows a review without an error; an error is shown in the same way
  abbrev pub Follows : Result (Unit {0}) Error → View (Unit {0}) → Sunk → Sunk → View (Unit {0}) → Result (Unit {0}) Error → Type 0
  Follows (Ok _) v before after left result = (after ≡ before) × ((left ≡ v) × (result ≡ Ok tt))
  Follows (Err error) v before after left result = SandboxShown (refusal_names error) REFUSED.now v before after left result

  -- a review was shown, and then its error, if it has one
  pub record ReviewShown (review : List ℕ) (v : View (Unit {0})) (before after : Sunk) (left : View (Unit {0}))
      (result : Result (Unit {0}) Error) : Type 0 where
    pub answer : Result (Unit {0}) Error
    pub between : Sunk
    pub seen : View (Unit {0})
    pub shown : SandboxShown visit_names review v before between seen answer
    pub followed : Follows answer seen between after left result
