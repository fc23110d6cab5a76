use Rattle.jekyll_language.proofs.SandboxLemmas.{jekyll_agrees}
use Rattle.jekyll_language.proofs.laws.outsides_agree_on_jekyll.Goals as goal

pub returns : goal.returns
returns g c = λ fresh m. jekyll_agrees _ fresh m
