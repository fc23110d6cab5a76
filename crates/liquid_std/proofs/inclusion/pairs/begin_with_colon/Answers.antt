use Rattle.std.proofs.Common.{◌≡◌, codes, sym, ◌∙◌, rules}
use Rattle.std.specs.Prelude.{bytes_eq}
use Rattle.liquid_std.proofs.WordLemmas.{colon_next, no_colon}
use Rattle.liquid_std.proofs.inclusion.pairs.begin_with_colon.Goals as goal

pub returns-in-Some : goal.returns-in-Some
returns-in-Some c ts at =
    let given = c.in-Some.ensures.value ts at in
    let is : c.eq.result ≡ bytes_eq c.as_str.result.now (codes ":") = search rules in
    is ∙ colon_next ts.left given.0 _ given.1 (c.as_str.ensures given.0.0 given.2.token_is)

pub returns-in-None : goal.returns-in-None
returns-in-None c ts at = sym (no_colon ts.left (c.in-None.ensures.value ts at).0)
