-- The result of rendering nodes, given the results of their partials.
use Rattle.std.specs.Prelude.{ℕ, zero, suc, List, [], ◌∷◌, Option, Result, Ok, Err}
use Rattle.liquid_error.specs.meaning.Refusal.{Refusal}
use Rattle.liquid_runtime.specs.meaning.Written.{with_written}
use Rattle.liquid_plugins.specs.meaning.Chain.{FilterMeaning, chain_value}
use Rattle.liquid_plugins.specs.meaning.Turns.{TurnShape, text_turn, body_turn, partial_turn, capture_turn, end_turn, NodeMeaning}
use Rattle.liquid_plugins.specs.meaning.Nodes.{
  NodeShape,
  text_node,
  chain_node,
  tag_node,
  block_node,
  Nodes,
  no_nodes,
  node,
  Parts,
  no_parts,
  part,
}
use Rattle.liquid_template.specs.meaning.Run.{Action, written}
use Rattle.liquid_template.specs.meaning.Actions.{
  done,
  refuses,
  writes,
  writes_value,
  asks,
  and_then,
  unless_interrupted,
  under,
  silent,
  part_at,
}

-- what rendering depends on: the register's default, what the plug-ins mean, and the parsed partial of each name, if
-- there is a store
pub record Setting (Reg F T P B Q : Type 0) : Type 0 where
  pub fresh : Reg
  pub filters : FilterMeaning F
  pub tags : NodeMeaning T P Reg
  pub blocks : NodeMeaning B Q Reg
  pub finds : Option (List ℕ → Result (Nodes F T B) Refusal)

module _ {Reg F T P B Q : Type 0} (s : Setting Reg F T P B Q) (partials : List ℕ → Action Reg) where
  -- what a turn renders: its text, a part, or a partial
  unfoldable pub performed : List (Action Reg) → TurnShape → Action Reg
  performed parts (text_turn piece) = writes piece
  performed parts (body_turn place frame trace) = under s.fresh frame trace (part_at parts place)
  performed parts (partial_turn name frame trace) = under s.fresh frame trace (partials name)
  performed parts (capture_turn place frame trace) = under s.fresh frame trace (part_at parts place)
  performed parts end_turn = done

  module _ {N R : Type 0} (m : NodeMeaning N R Reg) (n : N) (parts : List (Action Reg)) where
    -- what follows from a turn's result and the progress that it leaves, where `rest` are the turns after it. A part
    -- that is captured writes nothing, and the node is given its text
    abbrev pub answered : Result TurnShape Refusal → R → (R → Action Reg) → Action Reg
    answered (Err refusal) progress rest v = refuses refusal v
    answered (Ok end_turn) progress rest v = done v
    answered (Ok (capture_turn place frame trace)) progress rest v =
        let r = performed parts (capture_turn place frame trace) v in and_then (silent r) (rest (m.catches n progress (written r)))
    answered (Ok turn) progress rest v = and_then (performed parts turn v) (rest progress)

    -- at most this many turns, each after its checkpoint
    unfoldable pub turns : ℕ → R → Action Reg
    turns zero progress v = done v
    turns (suc left) progress v = and_then (asks v)
        (λ w. answered (m.takes n progress w).answer (m.takes n progress w).progress (turns left)
        (with_written (m.takes n progress w).written w))

    -- at most as many turns as the progress counts, unless the start was refused
    abbrev pub started : Result R Refusal → Action Reg
    started (Err refusal) v = refuses refusal v
    started (Ok progress) v = turns (m.count progress) progress v

    -- a tag's or a block's node is started, and then takes its turns
    unfoldable pub played : Action Reg
    played v = started (m.starts n v).answer (with_written (m.starts n v).written v)

  -- a text is written unchanged, a chain as its value renders; a list continues up to a refusal or an interrupt, which
  -- is checked after each node
  unfoldable mutual
    pub run_node : NodeShape F T B → Action Reg
    run_node (text_node piece) = writes piece
    run_node (chain_node c) = λ v. writes_value (chain_value s.filters c v) v
    run_node (tag_node n) = played s.tags n []
    run_node (block_node n ps) = played s.blocks n (run_parts ps)

    pub run_nodes : Nodes F T B → Action Reg
    run_nodes no_nodes = done
    run_nodes (node n ns) = λ v. and_then (run_node n v) (unless_interrupted (run_nodes ns))

    pub run_parts : Parts F T B → List (Action Reg)
    run_parts no_parts = []
    run_parts (part ns ps) = run_nodes ns ∷ run_parts ps
