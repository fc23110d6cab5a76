use Rattle.std.proofs.Common.{◌≡◌, ◌≢◌, ◌∷◌, ℕ, List, Bor, Some, None, length, map, sym, ◌∙◌, rules}
use Rattle.std.proofs.lemmas.Bool.{eqb-true, eqb-false}
use Rattle.std.proofs.lemmas.List.{length-map}
use Rattle.liquid_value.specs.meaning.View.{members_view}
use Rattle.page_site.specs.declared.data_files.assign.SetFault.TheVariants.{Memory}
use Rattle.page_site.specs.meaning.data_files.Merged.{set_at}
use Rattle.page_site.proofs.Paths.{fails, last_name, no_object, inside, put_inside}
use Rattle.page_site.proofs.data_files.assign.+set.Goals as goal

pub set_from-returns-then-is_empty : goal.set_from-returns-then-is_empty
set_from-returns-then-is_empty t c =
    let now = λ (name : Bor (List ℕ)). name.now in
    let none : length (map now c.args.rest.now) ≡ 0 = length-map c.args.rest.now now
    ∙ eqb-true (length c.args.rest.now) 0 (sym c.is_empty.ensures ∙ c.if-is_empty.true) in
    rw (last_name c.args.name.now (map now c.args.rest.now) c.args.words.now (members_view c.args.object.entries) none)
    (record { set = c.put_text.ensures.put; refused = c.put_text.ensures.refused })

pub set_from-returns-in_err-inner : goal.set_from-returns-in_err-inner
set_from-returns-in_err-inner t c =
    let now = λ (name : Bor (List ℕ)). name.now in
    let names = map now c.args.rest.now in
    let ms = members_view c.args.object.entries in
    let some : length names ≢ 0 = λ e. eqb-false (length c.args.rest.now) 0 (sym c.is_empty.ensures ∙ c.if-is_empty.false)
    (sym (length-map c.args.rest.now now) ∙ e) in
    let both = fails c.from_residual.result c.in_err-inner.field-0.0
    (λ changed. set_at (c.args.name.now ∷ names) c.args.words.now ms ≡ Some (members_view changed.entries))
    (λ fault. fault ≢ Memory → set_at (c.args.name.now ∷ names) c.args.words.now ms ≡ None) (search rules)
    (λ other. no_object c.args.name.now names c.args.words.now ms some (c.in_err-inner.ensures.refused other)) in
    record { set = both.0; refused = both.1 }

pub set_from-returns-in_err-changed : goal.set_from-returns-in_err-changed
set_from-returns-in_err-changed t c =
    let now = λ (name : Bor (List ℕ)). name.now in
    let names = map now c.args.rest.now in
    let ms = members_view c.args.object.entries in
    let some : length names ≢ 0 = λ e. eqb-false (length c.args.rest.now) 0 (sym c.is_empty.ensures ∙ c.if-is_empty.false)
    (sym (length-map c.args.rest.now now) ∙ e) in
    let both = fails c.from_residual-in_err-changed.result c.in_err-changed.field-0.0
    (λ changed. set_at (c.args.name.now ∷ names) c.args.words.now ms ≡ Some (members_view changed.entries))
    (λ fault. fault ≢ Memory → set_at (c.args.name.now ∷ names) c.args.words.now ms ≡ None) (search rules)
    (λ other. inside c.args.name.now names c.args.words.now ms (members_view c.in_ok-inner.inner.entries) None some
    c.in_ok-inner.ensures.found (c.in_err-changed.ensures.refused other)) in
    record { set = both.0; refused = both.1 }

pub set_from-returns : goal.set_from-returns
set_from-returns t c =
    let now = λ (name : Bor (List ℕ)). name.now in
    let names = map now c.args.rest.now in
    let ms = members_view c.args.object.entries in
    let some : length names ≢ 0 = λ e. eqb-false (length c.args.rest.now) 0 (sym c.is_empty.ensures ∙ c.if-is_empty.false)
    (sym (length-map c.args.rest.now now) ∙ e) in
    rw (put_inside c.args.name.now names c.args.words.now ms _ (members_view c.in_ok-inner.inner.entries)
    (members_view c.in_ok-changed.changed.entries) some c.in_ok-inner.ensures.found c.in_ok-changed.ensures.set
    c.in_ok-inner.ensures.left)
    (record { set = c.put_object.ensures.put; refused = c.put_object.ensures.refused })
