use Rattle.liquid_runtime.proofs.SetLaws.{isolated_shows, isolated_assigned}
use Rattle.liquid_runtime.proofs.laws.isolated_frames_show_their_names.Goals as goal

pub returns-clause-begun : goal.returns-clause-begun
returns-clause-begun g c = isolated_shows

pub returns-clause-assigned : goal.returns-clause-assigned
returns-clause-assigned g c = isolated_assigned
