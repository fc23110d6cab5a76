use Rattle.std.proofs.Common.{sym, ap, ◌∙◌}
use Rattle.std.specs.Option.{option_or}
use Rattle.liquid_value.specs.meaning.Members.{member_count}
use Rattle.liquid_value.specs.meaning.View.{members_view}
use Rattle.liquid_paths.proofs.Values.{count_of_members}
use Rattle.liquid_paths.specs.meaning.Step.{size_asked}
use Rattle.liquid_paths.proofs.steps.member_or_size.Goals as goal

pub returns-in-None-clause-gives : goal.returns-in-None-clause-gives
returns-in-None-clause-gives c =
    let es = c.args.members.now.entries in
    let word = c.args.word.now in
    c.size_asked.ensures.gives ∙ ap (size_asked word) (c.len.ensures.len ∙ sym (count_of_members es))
    ∙ ap (λ o. option_or o (size_asked word (member_count (members_view es)))) c.in-None.ensures
