-- A page's text within its layouts. What renders a text is given by what it may answer: the page of a text over names, or
-- none if it fails.
use Rattle.std.specs.Prelude.{◌≡◌, ℕ, List, [], ◌∷◌, ◌++◌, ◌⊎◌, Bool, true, false, Option, Some, None, option_and_then, codes}
use Rattle.std.specs.List.{list_any}
use Rattle.std.specs.Str.{bytes_eq}
use Rattle.liquid_scalar.specs.meaning.Scalar.{text}
use Rattle.liquid_value.specs.meaning.Members.{get_member, put_member}
use Rattle.liquid_value.specs.meaning.Tree.{Tree, Members, scalar, object}
use Rattle.page_site.specs.meaning.Answers.{Answers}
use Rattle.page_site.specs.meaning.Front.{Splits}

-- the text of a scalar that is one
abbrev pub text_of : Tree → Option (List ℕ)
text_of (scalar (text bytes)) = Some bytes
text_of other = None

-- the layout that front matter names
abbrev pub layout_in : Option Members → Option (List ℕ)
layout_in None = None
layout_in (Some matter) = option_and_then text_of (get_member (codes "layout") matter)

-- the names that a page with this front matter sees: the front matter is `page`
abbrev pub with_page : Option Members → Members → Members
with_page None names = names
with_page (Some matter) names = put_member (codes "page") (object matter) names

-- the names that a layout sees: what is within it is `content`
abbrev pub with_content : List ℕ → Members → Members
with_content content names = put_member (codes "content") (scalar (text content)) names

-- the partial that a layout is
abbrev pub layout_path : List ℕ → List ℕ
layout_path name = codes "layouts/" ++ name

-- whether a name is among these
abbrev pub is_among : List ℕ → List (List ℕ) → Bool
is_among name names = list_any (bytes_eq name) names

-- a layout: its text, its front matter, and the rest of the text
pub record Layout : Type 0 where
  pub whole : List ℕ
  pub matter : Option Members
  pub body : List ℕ

-- why a page is not made: no partial is this layout; the page is within this layout already; front matter that can't be
-- read; or a text that can't be rendered
pub data Trouble : Type 0 where
  no_layout : List ℕ → Trouble
  layout_again : List ℕ → Trouble
  bad_front : Trouble
  unrendered : Trouble

module _ (answers : Answers) (partials : List ℕ → Option (List ℕ)) (names : Members) where
  -- a layout that the page is not within yet, and what it makes of the content
  abbrev pub Wraps : List (List ℕ) → List ℕ → List ℕ → Layout → List ℕ → Type 0
  Wraps seen name content layout made =
      (is_among name seen ≡ false) × (partials (layout_path name) ≡ Some layout.whole)
      × Splits layout.whole layout.matter layout.body × answers layout.body (with_content content names) (Some made)

  -- within these layouts, from the one of this name on, the content becomes this page
  abbrev pub WrappedIn : List Layout → List (List ℕ) → Option (List ℕ) → List ℕ → List ℕ → Type 0
  WrappedIn [] seen None content page = page ≡ content
  WrappedIn [] seen (Some name) content page = ⊥
  WrappedIn (layout ∷ layouts) seen None content page = ⊥
  WrappedIn (layout ∷ layouts) seen (Some name) content page =
      (made : List ℕ) × Wraps seen name content layout made
      × WrappedIn layouts (seen ++ name ∷ []) (layout_in layout.matter) made page

  abbrev pub Wrapped : List (List ℕ) → Option (List ℕ) → List ℕ → List ℕ → Type 0
  Wrapped seen next content page = (layouts : List Layout) × WrappedIn layouts seen next content page

  -- the layout of this name is in trouble
  abbrev pub IsBroken : List (List ℕ) → List ℕ → List ℕ → Trouble → Type 0
  IsBroken seen name content (no_layout other) = (other ≡ name) × (partials (layout_path name) ≡ None)
  IsBroken seen name content (layout_again other) = (other ≡ name) × (is_among name seen ≡ true)
  IsBroken seen name content bad_front = (whole : List ℕ) × (partials (layout_path name) ≡ Some whole)
  IsBroken seen name content unrendered =
      (layout : Layout) × (partials (layout_path name) ≡ Some layout.whole) × Splits layout.whole layout.matter layout.body
      × answers layout.body (with_content content names) None

  -- within these layouts the content comes to one that is in trouble
  abbrev pub BrokenIn : List Layout → List (List ℕ) → Option (List ℕ) → List ℕ → Trouble → Type 0
  BrokenIn layouts seen None content trouble = ⊥
  BrokenIn [] seen (Some name) content trouble = IsBroken seen name content trouble
  BrokenIn (layout ∷ layouts) seen (Some name) content trouble =
      (made : List ℕ) × Wraps seen name content layout made
      × BrokenIn layouts (seen ++ name ∷ []) (layout_in layout.matter) made trouble

  abbrev pub Broken : List (List ℕ) → Option (List ℕ) → List ℕ → Trouble → Type 0
  Broken seen next content trouble = (layouts : List Layout) × BrokenIn layouts seen next content trouble

module _ (answers : Answers) (partials : List ℕ → Option (List ℕ)) (names : Members) where
  -- the page of a text: the text without its front matter is rendered, and put into its layout, that into its own, and so on
  abbrev pub IsPage : List ℕ → List ℕ → Type 0
  IsPage whole page =
      (matter : Option Members) × (body : List ℕ) × (content : List ℕ) × Splits whole matter body
      × answers body (with_page matter names) (Some content)
      × Wrapped answers partials (with_page matter names) [] (layout_in matter) content page

  -- why a text has no page, if it has front matter and a body
  abbrev pub IsBrokenOver : Option Members → List ℕ → Trouble → Type 0
  IsBrokenOver matter body trouble =
      ((trouble ≡ unrendered) × answers body (with_page matter names) None)
      ⊎ ((content : List ℕ) × answers body (with_page matter names) (Some content)
      × Broken answers partials (with_page matter names) [] (layout_in matter) content trouble)

  abbrev pub HasTrouble : List ℕ → Trouble → Type 0
  HasTrouble whole trouble =
      (trouble ≡ bad_front)
      ⊎ ((matter : Option Members) × (body : List ℕ) × Splits whole matter body × IsBrokenOver matter body trouble)
