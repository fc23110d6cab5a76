use Rattle.std.proofs.Common.{◌+◌, ◌*◌, length}
use Rattle.page_site.proofs.data_files.assign.+set.Given as goal

abbrev pub decreases-set_at : goal.decreases-set_at
decreases-set_at l = 2 * length l.names.now

abbrev pub decreases-set_from : goal.decreases-set_from
decreases-set_from l = 2 * length l.rest.now + 1
