use Rattle.std.proofs.Common.{◌≡◌, ◌∙◌, ◌∷◌, [], None, Ok, Err, String, Global, ap, map, string_bytes, refl, rules, sym, subst}
use Rattle.std.specs.FinMap.{empty, insert, keys}
use Rattle.std.specs.Map.{keys_of}
use Rattle.liquid_partials.specs.meaning.Sources.{Texts}
use Rattle.liquid_plugins.specs.meaning.Registry.{by_name}
use Rattle.liquid_plugins.proofs.Registries.{names-by_name}
use Rattle.liquid_error.specs.declared.error.Error.{Memory, roll-Error, the_lemmas}
use Rattle.liquid_error.specs.declared.error.Error.TheOpen.{Error-F}
use Rattle.liquid_program.specs.declared.fault.Fault.TheVariants.{Refused}
use Rattle.liquid_program.specs.meaning.Gathered.{WithText, WithFiles, path_in}
use Rattle.liquid_program.specs.steps.Steps.{Brings, Collects, Stops}
use Rattle.liquid_program.proofs.GatheredLemmas.{Files}
use Rattle.liquid_program.specs.meaning.Requests.{file_steps, text_trouble}
use Rattle.liquid_program.proofs.StepsLemmas.{
  CameSoFar,
  came_all,
  came_memory,
  came_more,
  came_stops,
  nothing_came,
  text_known,
  was_requested,
}
use Rattle.liquid_program.proofs.FolderLemmas.{ReadSoFar, nothing_read, read_more, read_stops, read_memory, read_all}
use Rattle.liquid_program.proofs.gather.texts_of.Goals as goal

pub loop-name-init : goal.loop-name-init
loop-name-init g c = record {
  same = refl;
  read =
      nothing_read (g.F.Folder.known c.args.files.now) c.args.folder.now c.args.ending.now
      (keys (by_name c.args.names)) _ c.new-source.result
      (sym (names-by_name c.args.names c.into_iter-name-iterator.ensures.into_iter_gives.5)
      ∙ ap (λ es. map (λ s. string_bytes s) (keys_of es)) (sym c.into_iter-name-iterator.ensures.into_iter_gives.0))
      c.new-source.ensures;
  came =
      λ all known. nothing_came all c.args.folder.now c.args.ending.now (keys (by_name c.args.names)) _
      (g.F.Folder.requests c.args.files.now)
      (sym (names-by_name c.args.names c.into_iter-name-iterator.ensures.into_iter_gives.5)
      ∙ ap (λ es. map (λ s. string_bytes s) (keys_of es)) (sym c.into_iter-name-iterator.ensures.into_iter_gives.0));
}

pub loop-name-preserved : goal.loop-name-preserved
loop-name-preserved g c =
    let known = g.F.Folder.known c.args.files.now in
    let names = keys (by_name c.args.names) in
    let left : c.loop-name.name-iterator ≡ (c.in-Some.name, tt) ∷ c.next.new.self = search rules in
    let so_far =
    subst (λ es. ReadSoFar known c.args.folder.now c.args.ending.now names (map (λ s. string_bytes s) (keys_of es)) c.loop-name.source)
    left c.loop-name.invariant.read in
    let there =
    subst (λ (k : Files). WithText (k (path_in c.args.folder.now c.args.ending.now (string_bytes c.in-Some.name)))
    (Stops (Ok c.in_ok-text.text)) (λ bytes. Brings (string_bytes {Z = Global}) bytes (Ok c.in_ok-text.text)))
    c.loop-name.invariant.same
    (rw c.as_str.ensures.value at c.in_ok-text.ensures.text) in
    let put : c.add.new.self ≡ insert c.loop-name.source (string_bytes c.in-Some.name) (string_bytes c.in_ok-text.text) = search rules in
    record {
      same = c.text_in.ensures.same ∙ c.loop-name.invariant.same;
      read =
          read_more known c.args.folder.now (string_bytes c.in-Some.name) c.args.ending.now names
          (map (λ s. string_bytes s) (keys_of c.next.new.self)) c.loop-name.source c.add.new.self c.in_ok-text.text so_far there put;
      came = λ all known_all.
          let name = string_bytes c.in-Some.name in
          let came =
          subst (λ es. CameSoFar all c.args.folder.now c.args.ending.now names (map (λ s. string_bytes s) (keys_of es))
          (g.F.Folder.requests c.args.files.now) (g.F.Folder.requests c.loop-name.files)) left
          (c.loop-name.invariant.came all known_all) in
          let none : text_trouble (path_in c.args.folder.now c.args.ending.now name)
          (all (path_in c.args.folder.now c.args.ending.now name)) ≡ None =
          text_known (all (path_in c.args.folder.now c.args.ending.now name)) _ (path_in c.args.folder.now c.args.ending.now name)
          (Ok c.in_ok-text.text) (ap (λ (k : Files). k (path_in c.args.folder.now c.args.ending.now name)) known_all) there tt in
          came_more all c.args.folder.now name c.args.ending.now names (map (λ s. string_bytes s) (keys_of c.next.new.self))
          (g.F.Folder.requests c.args.files.now) (g.F.Folder.requests c.loop-name.files) (g.F.Folder.requests c.text_in.new.files) came
          (was_requested _ _ _ _ c.in_ok-text.text (search rules) (rw c.as_str.ensures.value at c.text_in.ensures.requests)) none;
    }

pub returns-in_err-text-clause-texts : goal.returns-in_err-text-clause-texts
returns-in_err-text-clause-texts g c =
    let known = g.F.Folder.known c.args.files.now in
    let names = keys (by_name c.args.names) in
    let fault = c.in_err-text.field-0.0 in
    let left : c.loop-name.name-iterator ≡ (c.in-Some.name, tt) ∷ c.next.new.self = search rules in
    let so_far =
    subst (λ es. ReadSoFar known c.args.folder.now c.args.ending.now names (map (λ s. string_bytes s) (keys_of es)) c.loop-name.source)
    left c.loop-name.invariant.read in
    let step =
    subst (λ (k : Files). WithText (k (path_in c.args.folder.now c.args.ending.now (string_bytes c.in-Some.name)))
    (Stops {A = String Global} (Err fault)) (λ bytes. Brings (string_bytes {Z = Global}) bytes (Err fault))) c.loop-name.invariant.same
    (rw c.as_str.ensures.value at c.in_err-text.ensures.text) in
    let is : c.from_residual.result ≡ Err fault = search rules in
    subst (λ r. WithFiles known c.args.folder.now c.args.ending.now names empty (Stops r) (λ texts. Brings (λ (s : Texts). s) texts r))
    (sym is)
    (read_stops known c.args.folder.now (string_bytes c.in-Some.name) c.args.ending.now names
    (map (λ s. string_bytes s) (keys_of c.next.new.self)) c.loop-name.source fault so_far step)

pub returns-then-is_err-clause-texts : goal.returns-then-is_err-clause-texts
returns-then-is_err-clause-texts g c =
    read_memory (g.F.Folder.known c.args.files.now) c.args.folder.now c.args.ending.now (keys (by_name c.args.names)) _ c.loop-name.source
    (Refused (roll-Error Error-F.Memory)) c.loop-name.invariant.read refl

pub returns-clause-texts : goal.returns-clause-texts
returns-clause-texts g c =
    let none : c.loop-name.name-iterator ≡ [] = search rules in
    read_all (g.F.Folder.known c.args.files.now) c.args.folder.now c.args.ending.now
    (keys (by_name c.args.names)) _ c.loop-name.source c.loop-name.invariant.read (ap (λ es. map (λ s. string_bytes s) (keys_of es)) none)

pub returns-in_err-text-clause-requests : goal.returns-in_err-text-clause-requests
returns-in_err-text-clause-requests g c = λ all known_all.
    let names = keys (by_name c.args.names) in
    let name = string_bytes c.in-Some.name in
    let path = path_in c.args.folder.now c.args.ending.now name in
    let fault = c.in_err-text.field-0.0 in
    let left : c.loop-name.name-iterator ≡ (c.in-Some.name, tt) ∷ c.next.new.self = search rules in
    let came =
    subst (λ es. CameSoFar all c.args.folder.now c.args.ending.now names (map (λ s. string_bytes s) (keys_of es))
    (g.F.Folder.requests c.args.files.now) (g.F.Folder.requests c.loop-name.files)) left (c.loop-name.invariant.came all known_all) in
    let step =
    subst (λ (k : Files). WithText (k path) (Stops {A = String Global} (Err fault))
    (λ bytes. Brings (string_bytes {Z = Global}) bytes (Err fault))) c.loop-name.invariant.same
    (rw c.as_str.ensures.value at c.in_err-text.ensures.text) in
    let reports =
    text_known (all path) _ path (Err fault) (ap (λ (k : Files). k path) known_all) step
    (rw c.as_str.ensures.value at c.in_err-text.ensures.reports) in
    let is : c.from_residual.result ≡ Err fault = search rules in
    subst (λ r. Collects (file_steps all c.args.folder.now c.args.ending.now names) (g.F.Folder.requests c.args.files.now)
    (g.F.Folder.requests c.text_in.new.files) r) (sym is)
    (came_stops all c.args.folder.now name c.args.ending.now names (map (λ s. string_bytes s) (keys_of c.next.new.self))
    (g.F.Folder.requests c.args.files.now) (g.F.Folder.requests c.loop-name.files)
    (g.F.Folder.requests c.text_in.new.files) c.text_in.result fault (search rules) came
    (rw c.as_str.ensures.value at c.text_in.ensures.requests) reports)

pub returns-then-is_err-clause-requests : goal.returns-then-is_err-clause-requests
returns-then-is_err-clause-requests g c = λ all known_all.
    let names = keys (by_name c.args.names) in
    let name = string_bytes c.in-Some.name in
    let path = path_in c.args.folder.now c.args.ending.now name in
    let left : c.loop-name.name-iterator ≡ (c.in-Some.name, tt) ∷ c.next.new.self = search rules in
    let came =
    subst (λ es. CameSoFar all c.args.folder.now c.args.ending.now names (map (λ s. string_bytes s) (keys_of es))
    (g.F.Folder.requests c.args.files.now) (g.F.Folder.requests c.loop-name.files)) left (c.loop-name.invariant.came all known_all) in
    let there =
    subst (λ (k : Files). WithText (k path) (Stops (Ok c.in_ok-text.text))
    (λ bytes. Brings (string_bytes {Z = Global}) bytes (Ok c.in_ok-text.text))) c.loop-name.invariant.same
    (rw c.as_str.ensures.value at c.in_ok-text.ensures.text) in
    let none : text_trouble path (all path) ≡ None =
    text_known (all path) _ path (Ok c.in_ok-text.text) (ap (λ (k : Files). k path) known_all) there tt in
    came_memory all c.args.folder.now c.args.ending.now names (map (λ s. string_bytes s) (keys_of c.next.new.self))
    (g.F.Folder.requests c.args.files.now) (g.F.Folder.requests c.text_in.new.files) (Refused Memory)
    (came_more all c.args.folder.now name c.args.ending.now names (map (λ s. string_bytes s) (keys_of c.next.new.self))
    (g.F.Folder.requests c.args.files.now) (g.F.Folder.requests c.loop-name.files) (g.F.Folder.requests c.text_in.new.files) came
    (was_requested _ _ _ _ c.in_ok-text.text (search rules) (rw c.as_str.ensures.value at c.text_in.ensures.requests)) none)
    (search (rules, the_lemmas))

pub returns-clause-requests : goal.returns-clause-requests
returns-clause-requests g c = λ all known_all.
    let none : c.loop-name.name-iterator ≡ [] = search rules in
    came_all all c.args.folder.now c.args.ending.now (keys (by_name c.args.names)) _ (g.F.Folder.requests c.args.files.now) _
    (c.loop-name.invariant.came all known_all) (ap (λ es. map (λ s. string_bytes s) (keys_of es)) none)
