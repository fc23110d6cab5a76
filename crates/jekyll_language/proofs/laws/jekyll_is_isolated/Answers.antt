use Rattle.jekyll_language.proofs.SandboxLemmas.{jekyll_isolated}
use Rattle.jekyll_language.proofs.laws.jekyll_is_isolated.Goals as goal

pub returns : goal.returns
returns g c = λ fresh m. jekyll_isolated _ fresh m
