use Rattle.std.proofs.Common.{[], refl, ◌∙◌}
use Rattle.std.proofs.lemmas.Result.{err_from_is_err_and}
use Rattle.std.specs.Str.{chars}
use Rattle.liquid_dates.specs.meaning.Pattern.{IsFront, print}
use Rattle.liquid_dates.proofs.FormatLemmas.{
  cut_at,
  cut_front,
  cut_shorter,
  copied_rest,
  printed_directive,
  printed_more,
  printed_shorter,
  refuses,
  formats_once,
  refuses_only,
}
use Rattle.liquid_dates.proofs.date_time.DateTime.format.Goals as goal

pub directives-init : goal.directives-init
unfolding IsFront print
directives-init c = ([], refl, c.in_ok-out.ensures.bytes, c.utf8.pattern)

pub directives-smaller : goal.directives-smaller
directives-smaller c =
    let (items, front, bytes, utf8) = c.directives.invariant in
    let cut = rw c.in-Some.is at (cut_at _ c.split_once.result utf8 c.split_once.ensures.cases) in
    cut_shorter _ _ _ _ cut (printed_shorter _ _ _ _ _ (printed_directive _ (chars c.in-Some.following.now) _ _ _ c.in_ok-rest.ensures.ok))

pub directives-preserved : goal.directives-preserved
directives-preserved c =
    let (items, front, bytes, utf8) = c.directives.invariant in
    let cut = rw c.in-Some.is at (cut_at _ c.split_once.result utf8 c.split_once.ensures.cases) in
    let copied = cut_front c.args.self.now _ _ _ _ _ items front bytes cut in
    let printed = printed_directive _ (chars c.in-Some.following.now) _ _ _ c.in_ok-rest.ensures.ok in
    let more = printed_more _ _ _ _ _ _ copied.0 copied.1 (c.in_ok-write_copied.ensures ∙ copied.2) printed in
    (more.0, more.1, more.2, c.in_ok-rest.ensures.utf8)

pub returns-in_err-rest-clause-refused : goal.returns-in_err-rest-clause-refused
returns-in_err-rest-clause-refused c =
    let (items, front, bytes, utf8) = c.directives.invariant in
    let cut = rw c.in-Some.is at (cut_at _ c.split_once.result utf8 c.split_once.ensures.cases) in
    let copied = cut_front c.args.self.now _ _ _ _ _ items front bytes cut in
    let p = err_from_is_err_and c.from_residual-in_err-rest.result c.from_residual-in_err-rest.ensures.1 in
    rw (p.1, p.2) (refuses c.args.self.now _
    (chars c.in-Some.following.now) copied.0 c.in_err-rest.field-0.0 copied.1 c.in_err-rest.ensures.err)

pub returns-in_err-rest-clause-only : goal.returns-in_err-rest-clause-only
returns-in_err-rest-clause-only c = λ answer formats.
    let (items, front, bytes, utf8) = c.directives.invariant in
    let cut = rw c.in-Some.is at (cut_at _ c.split_once.result utf8 c.split_once.ensures.cases) in
    let copied = cut_front c.args.self.now _ _ _ _ _ items front bytes cut in
    let p = err_from_is_err_and c.from_residual-in_err-rest.result c.from_residual-in_err-rest.ensures.1 in
    rw (p.1, p.2) (refuses_only c.args.self.now _ c.in_err-rest.field-0.0 answer formats
    (refuses c.args.self.now _ (chars c.in-Some.following.now) copied.0 c.in_err-rest.field-0.0 copied.1 c.in_err-rest.ensures.err))

pub returns-clause-text : goal.returns-clause-text
returns-clause-text c =
    let (items, front, bytes, utf8) = c.directives.invariant in
    let none = rw c.in_default.is at (cut_at _ c.split_once.result utf8 c.split_once.ensures.cases) in
    rw c.in_ok-write_copied-2.ensures (copied_rest c.args.self.now _ _ _ items front bytes utf8 none)

pub returns-clause-only : goal.returns-clause-only
returns-clause-only c = λ answer formats.
    let (items, front, bytes, utf8) = c.directives.invariant in
    let none = rw c.in_default.is at (cut_at _ c.split_once.result utf8 c.split_once.ensures.cases) in
    rw c.in_ok-write_copied-2.ensures
    (formats_once c.args.self.now _ answer _ formats (copied_rest c.args.self.now _ _ _ items front bytes utf8 none))
