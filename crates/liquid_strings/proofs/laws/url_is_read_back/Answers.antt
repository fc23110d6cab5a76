use Rattle.std.proofs.Common.{arith}
use Rattle.std.proofs.lemmas.List.Elements.{All-from_get_or}
use Rattle.percent_encoding.proofs.PercentLemmas.{IsByte}
use Rattle.liquid_strings.proofs.UrlLemmas.{read_back}
use Rattle.liquid_strings.proofs.laws.url_is_read_back.Goals as goal

pub returns : goal.returns
returns c =
    read_back c.args.text.now c.utf8.text (All-from_get_or IsByte c.args.text.now 0 (λ i within. omega (arith, c.type_inv.text i)))
