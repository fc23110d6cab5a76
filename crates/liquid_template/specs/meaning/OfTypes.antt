-- What rendering a template means, by what contracts see of the types of its filters, tags and blocks, and of the store.
use Rattle.std.specs.Prelude.{ℕ, List, String, Option, option_map}
use Rattle.std.specs.Borrow.{Bor}
use Rattle.std.specs.BTreeMap.{BTreeMap}
use Rattle.std.specs.declared.alloc.Global.{Global}
use Rattle.liquid_value.specs.declared.value.Value.{Value}
use Rattle.liquid_runtime.specs.meaning.Maps.{names_of}
use Rattle.liquid_plugins.specs.meaning.Chain.{FilterMeaning}
use Rattle.liquid_plugins.specs.meaning.Turns.{NodeMeaning}
use Rattle.liquid_template.specs.declared.template.Template.{Template}
use Rattle.liquid_template.specs.meaning.Run.{Action}
use Rattle.liquid_template.specs.meaning.Nodes.{Setting}
use Rattle.liquid_template.specs.meaning.Partials.{Found, partials_of}
use Rattle.liquid_template.specs.meaning.Rendering.{isolated_run, sandboxed_run, template_run}
use Rattle.liquid_template.specs.meaning.Runs.{setting}
use Rattle.liquid_template.specs.meaning.TemplateOf.{template_nodes}

-- what contracts see of a type of filters, and of a type of tags or blocks: the shapes of its values, and what they mean
abbrev pub FilterType : Type 0 → Type 0 → Type 0
FilterType X F = record { shape : X → F; means : FilterMeaning F }

abbrev pub NodeType : Type 0 → Type 0 → Type 0 → Type 0 → Type 0
NodeType N T P Reg = record { shape : N → T; means : NodeMeaning T P Reg }

module _ {A X N K Reg F T P B Q : Type 0} (fresh : Reg) (filter : FilterType X F) (tag : NodeType N T P Reg) (block : NodeType K B Q Reg)
    (finds : A → Found F T B) (store : Option A) where
  -- the setting of these types over this store
  abbrev pub setting_of : Setting Reg F T P B Q
  setting_of = setting fresh filter.means tag.means block.means (partials_of finds store)

  -- a template's run in that setting
  abbrev pub template_of : Template X N K → Action Reg
  template_of template = template_run setting_of (template_nodes filter.shape tag.shape block.shape template)

  -- its run in a sandbox, and in isolation, with the names of an object, and under a name, if one is given
  abbrev pub sandboxed_of : Template X N K → BTreeMap (String Global) Value → Option (Bor (List ℕ)) → Action Reg
  sandboxed_of template names name =
      sandboxed_run setting_of (names_of names) (option_map (λ r. r.now) name) (template_nodes filter.shape tag.shape block.shape template)

  abbrev pub isolated_of : Template X N K → BTreeMap (String Global) Value → Option (Bor (List ℕ)) → Action Reg
  isolated_of template names name =
      isolated_run setting_of (names_of names) (option_map (λ r. r.now) name) (template_nodes filter.shape tag.shape block.shape template)
