use Rattle.liquid_tags.proofs.PairLemmas.{pair_taken}
use Rattle.liquid_tags.proofs.partial_call.read_call.read_pair.Goals as goal

pub returns-clause-value : goal.returns-clause-value
returns-clause-value c ts at =
    let named = c.in_ok-name.ensures.value ts at in
    let signed = c.in_ok-next_str.ensures.value named.0 named.2 in
    let valued = c.in_ok-value.ensures.value signed.0 signed.2 in
    (valued.0, pair_taken ts named.0 signed.0 valued.0 _ _ _ _ named.1 signed.1 valued.1 c.in_ok-from_str.ensures.ok, valued.2)
