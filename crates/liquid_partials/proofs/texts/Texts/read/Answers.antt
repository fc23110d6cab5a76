use Rattle.std.proofs.Common.{◌≡◌, Some, Ok, Err, sym, ◌∙◌}
use Rattle.std.proofs.lemmas.Result.{err_from_is_err_and}
use Rattle.std.specs.Cow.{cow_str_bytes}
use Rattle.std.specs.FinMap.{get}
use Rattle.liquid_error.specs.meaning.Told.{told}
use Rattle.liquid_parser.specs.meaning.Plugins.{language_of}
use Rattle.liquid_template.specs.meaning.TemplateOf.{template_nodes}
use Rattle.liquid_partials.proofs.StoreLemmas.{absent, present}
use Rattle.liquid_parser.proofs.TokenLemmas.{if_some_weaker}
use Rattle.liquid_partials.proofs.texts.Texts.read.Goals as goal

pub returns-then-not-contains-clause-gives : goal.returns-then-not-contains-clause-gives
returns-then-not-contains-clause-gives g c =
    absent (language_of g.F.ParseFilter.makes g.T.ParseTag.gives g.B.ParseBlock.block c.args.self.now.parser.language.value)
    (g.S.PartialSource.texts c.args.self.now.source) c.args.name.now (sym c.contains.ensures ∙ c.if-not-contains.true)

pub returns-in_ok-parse-in-Some-clause-gives : goal.returns-in_ok-parse-in-Some-clause-gives
returns-in_ok-parse-in-Some-clause-gives g c =
    let texts = g.S.PartialSource.texts c.args.self.now.source in
    let there : get texts c.args.name.now ≡ Some (cow_str_bytes c.in-Some.text.text) = sym (rw c.in-Some.is at c.in_ok-text.ensures.text) in
    present (language_of g.F.ParseFilter.makes g.T.ParseTag.gives g.B.ParseBlock.block c.args.self.now.parser.language.value) texts
    c.args.name.now (cow_str_bytes c.in-Some.text.text) (Ok (template_nodes g.F.Filter.Meant.shape g.T.Node.Meant.shape
    g.B.Node.Meant.shape c.in_ok-parse-in-Some.field-0.value)) there c.in_ok-parse-in-Some.ensures.gives

pub returns-in_err-parse-in-Some-clause-gives : goal.returns-in_err-parse-in-Some-clause-gives
returns-in_err-parse-in-Some-clause-gives g c =
    let texts = g.S.PartialSource.texts c.args.self.now.source in
    let there : get texts c.args.name.now ≡ Some (cow_str_bytes c.in-Some.text.text) = sym (rw c.in-Some.is at c.in_ok-text.ensures.text) in
    let p = err_from_is_err_and c.from_residual-in_err-parse-in-Some.result c.from_residual-in_err-parse-in-Some.ensures.1 in
    rw (p.1, p.2) (if_some_weaker (told c.in_err-parse-in-Some.field-0.0)
    (λ r e. present (language_of g.F.ParseFilter.makes g.T.ParseTag.gives g.B.ParseBlock.block c.args.self.now.parser.language.value)
    texts c.args.name.now (cow_str_bytes c.in-Some.text.text) (Err r) there e) c.in_err-parse-in-Some.ensures.gives)
