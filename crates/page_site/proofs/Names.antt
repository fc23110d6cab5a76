-- Values of names in an object.
use Rattle.std.proofs.Common.{◌≡◌, List, String, Global, string_bytes, string_cmp}
use Rattle.std.specs.BTreeMap.{insert_entry}
use Rattle.liquid_value.proofs.Entries.{Entry, members_view-insert_entry}
use Rattle.liquid_value.specs.meaning.Members.{put_member}
use Rattle.liquid_value.specs.meaning.View.{view, members_view}
use Rattle.liquid_value.specs.declared.value.Value.{Value}

pub inserted : (es : List Entry) (k : String Global) (v : Value)
    → members_view (insert_entry string_cmp es k v) ≡ put_member (string_bytes k) (view v) (members_view es)
inserted es k v = members_view-insert_entry es k v
