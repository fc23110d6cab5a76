use Rattle.std.proofs.Common.{◌≡◌, ◌-◌, ◌<◌, [], ◌∷◌, ◌++◌, length, Some, None, Ok, string_bytes, refl, sym, ap, ◌∙◌, arith, rules}
use Rattle.json.specs.Token.{Token}
use Rattle.json.specs.Json as json
use Rattle.json.specs.Json.{parse_map, after_end_array, read_key, value}
use Rattle.json.specs.Reads.{token_of}
use Rattle.json.proofs.Grammar.{
  value_is,
  value-begin_array,
  value-begin_object,
  read_key-shorter,
  items_end,
  items_more,
  members_end,
  members_more,
}
use Rattle.serde_json.specs.Data as read
use Rattle.serde_json.specs.Find.{of_integer}
use Rattle.liquid_scalar.specs.meaning.Scalar.{text}
use Rattle.liquid_value.specs.meaning.Tree.{scalar, array, object}
use Rattle.liquid_value.specs.meaning.View.{view, members_view}
use Rattle.liquid_value.specs.declared.value.Value.{the_lemmas}
use Rattle.liquid_value.proofs.Entries.{members_view-insert_entry}
use Rattle.liquid_value.proofs.Listed.{view-Array}
use Rattle.liquid_json.proofs.TokensRead.{
  following,
  after_none,
  after_more,
  none_made,
  one_more_made,
  all_made,
  put_after,
  put_after_none,
  put_after_more,
  none_put,
  one_more_put,
  all_put,
  put_made,
  whole_given,
  view_nil,
  view_scalar,
  view_object,
}
use Rattle.liquid_json.proofs.read.+read.Goals as goal

pub read_value-returns-in_ok-from_str-in-String-clause-read : goal.read_value-returns-in_ok-from_str-in-String-clause-read
read_value-returns-in_ok-from_str-in-String-clause-read t c =
    let first : c.args.reader.now ≡ token_of c.in_ok-token.token ∷ c.next.new.self = grind arith in
    let is : c.args.reader.now ≡ Token.string c.in-String.text.now ∷ c.next.new.self = grind (arith, first) in
    let copied : string_bytes c.in_ok-from_str-in-String.field-0 ≡ c.in-String.text.now = search rules in (
      json.string c.in-String.text.now,
      ap (value c.args.depth) is ∙ value_is c.args.depth _,
      (read.string c.in-String.text.now, refl, ap Ok (sym (view_scalar _ ∙ ap (λ bytes. scalar (text bytes)) copied))),
    )

pub read_value-returns-in-Bool-clause-read : goal.read_value-returns-in-Bool-clause-read
read_value-returns-in-Bool-clause-read t c =
    let first : c.args.reader.now ≡ token_of c.in_ok-token.token ∷ c.next.new.self = grind arith in
    let is : c.args.reader.now ≡ Token.boolean c.in-Bool.truth ∷ c.next.new.self = grind (arith, first) in (
      json.boolean c.in-Bool.truth,
      ap (value c.args.depth) is ∙ value_is c.args.depth _,
      (read.boolean c.in-Bool.truth, refl, ap Ok (sym (view_scalar _))),
    )

pub read_value-returns-in-Null-clause-read : goal.read_value-returns-in-Null-clause-read
read_value-returns-in-Null-clause-read t c =
    let first : c.args.reader.now ≡ token_of c.in_ok-token.token ∷ c.next.new.self = grind arith in
    let is : c.args.reader.now ≡ Token.null ∷ c.next.new.self = grind (arith, first) in
    (json.null, ap (value c.args.depth) is ∙ value_is c.args.depth _, (read.null, refl, ap Ok (sym view_nil)))

pub read_value-returns-in-Some-clause-read : goal.read_value-returns-in-Some-clause-read
read_value-returns-in-Some-clause-read t c =
    let first : c.args.reader.now ≡ token_of c.in_ok-token.token ∷ c.next.new.self = grind arith in
    let is : c.args.reader.now ≡ Token.number c.in-Number.text.now ∷ c.next.new.self = grind (arith, first) in (
      json.number c.in-Number.text.now,
      ap (value c.args.depth) is ∙ value_is c.args.depth _,
      (
        read.number (of_integer c.in-Some.number),
        rw c.in-Some.ensures refl,
        whole_given c.in-Some.number (grind arith)
            ∙ ap Ok (search (rules, the_lemmas)),
      ),
    )

pub read_value-returns-in_ok-value_of_array-in-BeginArray-clause-read :
    goal.read_value-returns-in_ok-value_of_array-in-BeginArray-clause-read
read_value-returns-in_ok-value_of_array-in-BeginArray-clause-read t c =
    let first : c.args.reader.now ≡ token_of c.in_ok-token.token ∷ c.next.new.self = grind arith in
    let opened =
    ap (value c.args.depth) (first ∙ ap (λ k. token_of k ∷ c.next.new.self) c.in-BeginArray.is)
    ∙ value-begin_array c.args.depth c.next.new.self (omega arith) in
    let found = c.in_ok-array-in-BeginArray.ensures.read in (
      json.array found.0,
      opened ∙ ap (parse_map json.array) found.1,
      (read.array found.2.0, rw found.2.1 refl, rw found.2.2 (ap Ok (sym c.in_ok-value_of_array-in-BeginArray.ensures))),
    )

pub read_value-returns-in_ok-shared-in-BeginObject-clause-read : goal.read_value-returns-in_ok-shared-in-BeginObject-clause-read
read_value-returns-in_ok-shared-in-BeginObject-clause-read t c =
    let first : c.args.reader.now ≡ token_of c.in_ok-token.token ∷ c.next.new.self = grind arith in
    let opened =
    ap (value c.args.depth) (first ∙ ap (λ k. token_of k ∷ c.next.new.self) c.in-BeginObject.is)
    ∙ value-begin_object c.args.depth c.next.new.self (omega arith) in
    let found = c.in_ok-object-in-BeginObject.ensures.read in (
      json.object found.0,
      opened ∙ ap (parse_map json.object) found.1,
      (
        read.object found.2.0,
        rw found.2.1 refl,
        rw found.2.2 (ap Ok
            (sym (view_object _ ∙ ap object c.in_ok-shared-in-BeginObject.ensures))),
      ),
    )

pub read_items-items-init : goal.read_items-items-init
read_items-items-init t c =
    let all = json.items (value c.args.depth) (length c.args.reader.now) c.args.reader.now in (
      length c.args.reader.now,
      omega arith,
      omega arith,
      [],
      rw c.new-values.ensures.items (λ rest ts given. none_made rest ts given),
      after_none all,
    )

pub read_items-items-preserved : goal.read_items-items-preserved
read_items-items-preserved t c =
    let p = value c.args.depth in
    let l = c.items in
    let n = l.invariant.0 in
    let done = l.invariant.3 in
    let going : (after_end_array l.reader ≡ None) × (c.take_end_array.new.self ≡ l.reader) = grind arith in
    let made = c.in_ok-value.ensures in
    let found = made.read in
    let r = c.read_value.new.reader in
    let less : length r < length l.reader = rw (← going.1) made.shorter in
    let turn = items_more p n l.reader r found.0 (omega (arith, l.invariant.1)) going.0 (rw (← going.1) found.1) in (
      n - 1,
      omega (arith, l.invariant.1),
      omega (arith, l.invariant.2),
      done ++ found.0 ∷ [],
      rw c.in_ok-push_item.ensures (one_more_made done l.values.items found.0 c.in_ok-value.value l.invariant.4 found.2),
      l.invariant.5 ∙ ap (parse_map (following done)) turn ∙ after_more done found.0 _,
    )

pub read_items-returns-clause-read : goal.read_items-returns-clause-read
read_items-returns-clause-read t c =
    let l = c.items in
    let done = l.invariant.3 in
    let over = items_end (value c.args.depth) l.invariant.0 l.reader c.take_end_array.new.self l.invariant.1 (grind arith) in
    (following done json.no_items, l.invariant.5 ∙ ap (parse_map (following done)) over, all_made done l.values.items l.invariant.4)

pub read_members-members-init : goal.read_members-members-init
read_members-members-init t c =
    let all = json.members (value c.args.depth) (length c.args.reader.now) c.args.reader.now in (
      length c.args.reader.now,
      omega arith,
      omega arith,
      [],
      read.no_members,
      none_put,
      rw c.new-object.ensures.empty refl,
      put_after_none all,
    )

pub read_members-members-preserved : goal.read_members-members-preserved
read_members-members-preserved t c =
    let p = value c.args.depth in
    let l = c.members in
    let n = l.invariant.0 in
    let done = l.invariant.3 in
    let k = c.in-Some.text.now in
    let s = c.next_key.new.self in
    let named : read_key l.reader ≡ Some (Some k, s) = grind arith in
    let made = c.in_ok-value.ensures in
    let found = made.read in
    let d = found.2.0 in
    let v = c.in_ok-value.value in
    let r = c.read_value.new.reader in
    let less = read_key-shorter l.reader (Some k) s named in
    let lesser = made.shorter in
    let copied : string_bytes c.in_ok-name.name ≡ k = search rules in
    let inserted = ap members_view c.in_ok-insert.ensures.entries ∙ members_view-insert_entry l.object.entries c.in_ok-name.name v in
    let turn = members_more p n k l.reader s r found.0 (omega (arith, l.invariant.1)) named found.1 in (
      n - 1,
      omega (arith, l.invariant.1),
      omega (arith, l.invariant.2),
      done ++ (k, found.0) ∷ [],
      read.put k d l.invariant.4,
      one_more_put done l.invariant.4 k found.0 d l.invariant.5 found.2.1,
      rw (inserted, copied) (put_made k d (view v) l.invariant.4 (members_view l.object.entries) found.2.2 l.invariant.6),
      l.invariant.7 ∙ ap (parse_map (put_after done)) turn ∙ put_after_more done k found.0 _,
    )

pub read_members-returns-clause-read : goal.read_members-returns-clause-read
read_members-returns-clause-read t c =
    let l = c.members in
    let done = l.invariant.3 in
    let over = members_end (value c.args.depth) l.invariant.0 l.reader c.next_key.new.self l.invariant.1 (grind arith) in (
      put_after done json.no_members,
      l.invariant.7 ∙ ap (parse_map (put_after done)) over,
      all_put done l.invariant.4 (members_view l.object.entries) l.invariant.5 l.invariant.6,
    )
