-- Layouts around a page, one after another.
use Rattle.std.proofs.Common.{
  ◌≡◌,
  ◌∙◌,
  ℕ,
  List,
  [],
  ◌∷◌,
  ◌++◌,
  Option,
  None,
  Some,
  Result,
  Ok,
  Err,
  String,
  Global,
  IfOk,
  IfErr,
  IfSome,
  string_bytes,
  subst,
  sym,
  refl,
  inl,
  inr,
}
use Rattle.liquid_value.specs.meaning.Tree.{Members}
use Rattle.page_site.specs.declared.fault.PageFault.{PageFault}
use Rattle.page_site.specs.meaning.Answers.{Answers, StaysWithin}
use Rattle.page_site.specs.meaning.Faults.{trouble_of}
use Rattle.page_site.specs.meaning.Front.{Splits}
use Rattle.page_site.specs.meaning.Layouts.{
  Broken,
  BrokenIn,
  HasTrouble,
  IsBroken,
  IsPage,
  Layout,
  Trouble,
  Wrapped,
  WrappedIn,
  Wraps,
  bad_front,
  layout_again,
  layout_in,
  layout_path,
  no_layout,
  unrendered,
  with_page,
}
use Rattle.page_site.specs.steps.Wrapping.{StepsTo}

-- what holds after a call holds before it
pub steps_before : (before after : Answers) (partials : List ℕ → Option (List ℕ)) (names : Members) (seen : List (List ℕ))
    (name content made : List ℕ) (next : Option (List ℕ)) → StaysWithin before after
    → StepsTo after partials names seen name content made next → StepsTo before partials names seen name content made next
steps_before before after partials names seen name content made next same (layout, (new, found, splits, answer), is) =
    (layout, (new, found, splits, same _ _ _ answer), is)

pub broken_before : (before after : Answers) (partials : List ℕ → Option (List ℕ)) (names : Members) (seen : List (List ℕ))
    (name content : List ℕ) (trouble : Trouble) → StaysWithin before after
    → IsBroken after partials names seen name content trouble → IsBroken before partials names seen name content trouble
broken_before before after partials names seen name content (no_layout other) same h = h
broken_before before after partials names seen name content (layout_again other) same h = h
broken_before before after partials names seen name content bad_front same h = h
broken_before before after partials names seen name content unrendered same (layout, found, splits, answer) =
    (layout, found, splits, same _ _ _ answer)

-- one more layout
pub wrap_more : (answers : Answers) (partials : List ℕ → Option (List ℕ)) (names : Members) (seen : List (List ℕ))
    (name content made : List ℕ) (next : Option (List ℕ)) (page : List ℕ)
    → StepsTo answers partials names seen name content made next → Wrapped answers partials names (seen ++ name ∷ []) next made page
    → Wrapped answers partials names seen (Some name) content page
wrap_more answers partials names seen name content made next page (layout, wraps, is) (layouts, rest) =
    (layout ∷ layouts, (made, wraps, subst (λ n. WrappedIn answers partials names layouts (seen ++ name ∷ []) n made page) is rest))

pub break_more : (answers : Answers) (partials : List ℕ → Option (List ℕ)) (names : Members) (seen : List (List ℕ))
    (name content made : List ℕ) (next : Option (List ℕ)) (trouble : Trouble)
    → StepsTo answers partials names seen name content made next → Broken answers partials names (seen ++ name ∷ []) next made trouble
    → Broken answers partials names seen (Some name) content trouble
break_more answers partials names seen name content made next trouble (layout, wraps, is) (layouts, rest) =
    (layout ∷ layouts, (made, wraps, subst (λ n. BrokenIn answers partials names layouts (seen ++ name ∷ []) n made trouble) is rest))

-- no further layout
pub wrapped_whole : (answers : Answers) (partials : List ℕ → Option (List ℕ)) (names : Members) (seen : List (List ℕ))
    (content : List ℕ) → Wrapped answers partials names seen None content content
wrapped_whole answers partials names seen content = ([], refl)

pub breaks_here : (answers : Answers) (partials : List ℕ → Option (List ℕ)) (names : Members) (seen : List (List ℕ))
    (name content : List ℕ) (trouble : Trouble) → IsBroken answers partials names seen name content trouble
    → Broken answers partials names seen (Some name) content trouble
breaks_here answers partials names seen name content trouble h = ([], h)

-- the trouble that a fault names, if it is a certain one
pub if_it_is : (o : Option Trouble) (one : Trouble) (X : Type 0) (P : Trouble → Type 0) → IfSome o (λ t. (t ≡ one) × X) → (X → P one)
    → IfSome o P
if_it_is None one X P h makes = tt
if_it_is (Some t) one X P (is, x) makes = subst P (sym is) (makes x)

-- any trouble, by what it comes from
pub if_some : (o : Option Trouble) (P Q : Trouble → Type 0) → IfSome o P → ((t : Trouble) → P t → Q t) → IfSome o Q
if_some None P Q h makes = tt
if_some (Some t) P Q h makes = makes t h

pub if_err : {A : Type 0} (r : Result A PageFault) (fault : PageFault) (P : Trouble → Type 0) → r ≡ Err fault
    → IfSome (trouble_of fault) P → IfErr r (λ fault. IfSome (trouble_of fault) P)
if_err r fault P is h = subst (λ r. IfErr r (λ fault. IfSome (trouble_of fault) P)) (sym is) h

-- what is wrapped after a call is wrapped before it
pub wrapped_before : (before after : Answers) (partials : List ℕ → Option (List ℕ)) (names : Members) (layouts : List Layout)
    (seen : List (List ℕ)) (next : Option (List ℕ)) (content page : List ℕ) → StaysWithin before after
    → WrappedIn after partials names layouts seen next content page → WrappedIn before partials names layouts seen next content page
wrapped_before before after partials names [] seen None content page same h = h
wrapped_before before after partials names [] seen (Some name) content page same h = h
wrapped_before before after partials names (layout ∷ layouts) seen None content page same h = h
wrapped_before before after partials names (layout ∷ layouts) seen (Some name) content page same
    (made, (new, found, splits, answer), rest) = (
      made,
      (new, found, splits, same _ _ _ answer),
      wrapped_before before after partials names layouts (seen ++ name ∷ []) (layout_in layout.matter) made page same rest,
    )

-- a page, by what its text and its layouts came to
pub page_wrapped : (before after : Answers) (partials : List ℕ → Option (List ℕ)) (names : Members) (whole : List ℕ)
    (matter : Option Members) (body content : List ℕ) (more : Members) (next : Option (List ℕ)) (r : Result (String Global) PageFault)
    → StaysWithin before after → Splits whole matter body → more ≡ with_page matter names → next ≡ layout_in matter
    → before body more (Some content)
    → IfOk r (λ page. Wrapped after partials more [] next content (string_bytes page))
    → IfOk r (λ page. IsPage before partials names whole (string_bytes page))
page_wrapped before after partials names whole matter body content more next (Err fault) same splits is named answer h = tt
page_wrapped before after partials names whole matter body content more next (Ok page) same splits is named answer (layouts, h) = (
  matter,
  body,
  content,
  splits,
  subst (λ n. before body n (Some content)) is answer,
  (
    layouts,
    subst (λ n. WrappedIn before partials n layouts [] (layout_in matter) content (string_bytes page)) is
        (subst (λ l. WrappedIn before partials more layouts [] l content (string_bytes page)) named
        (wrapped_before before after partials more layouts [] next content (string_bytes page) same h)),
  ),
)

-- the front matter of a layout can't be read
pub bad_front_breaks : (answers : Answers) (partials : List ℕ → Option (List ℕ)) (names : Members) (seen : List (List ℕ))
    (name content : List ℕ) (o : Option Trouble) (whole : List ℕ) → partials (layout_path name) ≡ Some whole
    → IfSome o (λ t. t ≡ bad_front) → IfSome o (IsBroken answers partials names seen name content)
bad_front_breaks answers partials names seen name content None whole found h = tt
bad_front_breaks answers partials names seen name content (Some t) whole found is =
    subst (IsBroken answers partials names seen name content) (sym is) (whole, found)

broken_in_before : (before after : Answers) (partials : List ℕ → Option (List ℕ)) (names : Members) (layouts : List Layout)
    (seen : List (List ℕ)) (next : Option (List ℕ)) (content : List ℕ) (trouble : Trouble) → StaysWithin before after
    → BrokenIn after partials names layouts seen next content trouble → BrokenIn before partials names layouts seen next content trouble
broken_in_before before after partials names layouts seen None content trouble same h = h
broken_in_before before after partials names [] seen (Some name) content trouble same h =
    broken_before before after partials names seen name content trouble same h
broken_in_before before after partials names (layout ∷ layouts) seen (Some name) content trouble same
    (made, (new, found, splits, answer), rest) = (
      made,
      (new, found, splits, same _ _ _ answer),
      broken_in_before before after partials names layouts (seen ++ name ∷ []) (layout_in layout.matter) made trouble same rest,
    )

-- why a page has no end, by what its text and its layouts came to
pub page_broken : (before after : Answers) (partials : List ℕ → Option (List ℕ)) (names : Members) (whole : List ℕ)
    (matter : Option Members) (body content : List ℕ) (more : Members) (next : Option (List ℕ)) (r : Result (String Global) PageFault)
    → StaysWithin before after → Splits whole matter body → more ≡ with_page matter names → next ≡ layout_in matter
    → before body more (Some content)
    → IfErr r (λ fault. IfSome (trouble_of fault) (Broken after partials more [] next content))
    → IfErr r (λ fault. IfSome (trouble_of fault) (HasTrouble before partials names whole))
page_broken before after partials names whole matter body content more next (Ok page) same splits is named answer h = tt
page_broken before after partials names whole matter body content more next (Err fault) same splits is named answer h =
    if_some (trouble_of fault) _ _ h (λ t (layouts, broken). inr (
      matter,
      body,
      splits,
      inr (
        content,
        subst (λ n. before body n (Some content)) is answer,
        (
          layouts,
          subst (λ n. BrokenIn before partials n layouts [] (layout_in matter) content t) is
              (subst (λ l. BrokenIn before partials more layouts [] l content t) named
              (broken_in_before before after partials more layouts [] next content t same broken)),
        ),
      ),
    ))
