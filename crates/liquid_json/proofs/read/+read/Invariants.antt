use Rattle.std.proofs.Common.{◌≡◌, ℕ, ◌+◌, ◌*◌, ◌≤◌, List, Ok, length}
use Rattle.json.specs.Json as json
use Rattle.json.specs.Json.{value, parse_map}
use Rattle.serde_json.specs.Data.{Members}
use Rattle.liquid_value.specs.meaning.View.{members_view}
use Rattle.liquid_json.specs.meaning.Given.{members_given}
use Rattle.liquid_json.proofs.TokensRead.{following, AreMade, put_after, ArePut}
use Rattle.liquid_json.proofs.read.+read.Given as goal

abbrev pub decreases-read_value : goal.decreases-read_value
decreases-read_value l = 2 * l.depth

abbrev pub decreases-read_items : goal.decreases-read_items
decreases-read_items l = 2 * l.depth + 1

abbrev pub decreases-read_members : goal.decreases-read_members
decreases-read_members l = 2 * l.depth + 1

abbrev pub invariant-read_items-items : goal.invariant-read_items-items
invariant-read_items-items l =
    (n : ℕ) × (length l.reader ≤ n) × (length l.reader ≤ length l.initial.reader)
    × (done : List json.Json) × AreMade done l.values.items
    × (json.items (value l.depth) (length l.initial.reader) l.initial.reader ≡ parse_map (following done)
    (json.items (value l.depth) n l.reader))

abbrev pub decreases-read_items-items : goal.decreases-read_items-items
decreases-read_items-items l = length l.reader

abbrev pub invariant-read_members-members : goal.invariant-read_members-members
invariant-read_members-members l =
    (n : ℕ) × (length l.reader ≤ n) × (length l.reader ≤ length l.initial.reader)
    × (done : List (List ℕ × json.Json)) × (ds : Members) × ArePut done ds × (members_given ds ≡ Ok (members_view l.object.entries))
    × (json.members (value l.depth) (length l.initial.reader) l.initial.reader ≡ parse_map (put_after done)
    (json.members (value l.depth) n l.reader))

abbrev pub decreases-read_members-members : goal.decreases-read_members-members
decreases-read_members-members l = length l.reader
