use Rattle.std.proofs.Common.{[], ◌≡◌, ◌+◌, ◌≤◌, rules, refl, sym, ap, subst, ◌∙◌, is_some, string_bytes}
use Rattle.liquid_plugins.specs.meaning.NodesOf.{node_of, nodes_of}
use Rattle.liquid_plugins.specs.meaning.Size.{size_node, size_nodes, size_parts}
use Rattle.liquid_template.specs.steps.PartsOf.{parts_of}
use Rattle.liquid_template.specs.steps.Bound.{partials_size}
use Rattle.liquid_template.proofs.Shapes.{nodes_drop, nodes_end, size_member, size_part, node_text, node_brief, node_name, node_chain}
use Rattle.liquid_template.proofs.Shapes.{node_tag, node_block}
use Rattle.liquid_template.proofs.Renderings.{stands, stands_not, left_more, left_none, none_yet}
use Rattle.liquid_template.proofs.Renderings.{start_goes_at, node_puts, node_chains, true-not-false}
use Rattle.liquid_template.proofs.Renderings.{node_tags, node_blocks, part_renders, no_part_renders}
use Rattle.liquid_template.proofs.Framing.{owed_open, framed_kept}
use Rattle.liquid_template.proofs.Goings.{
  renders_ok,
  says_same,
  done_ok,
  start_none,
  takes_more,
  takes_ok,
  takes_last,
  turns_over,
  node_fails,
}
use Rattle.liquid_template.proofs.Goings.{node_stops, node_goes, nodes_over, opens_kept, opens_taken, captured_taken}
use Rattle.liquid_template.proofs.Capturing.{text_stays, closed_aside, closed_around, text_caught, nothing_open, nothing_aside}
use Rattle.liquid_template.proofs.Keeping.{keeps_all, keeps_store, keeps_both, keeps_ended, keeps_asked, keeps_unless, tags_open_none}
use Rattle.liquid_template.proofs.Keeping.{blocks_open_none}
use Rattle.liquid_template.specs.steps.Place.{target}
use Rattle.liquid_template.proofs.cycle.+render.Goals as goal

pub render_list-render_node-requires : goal.render_list-render_node-requires
render_list-render_node-requires g t c =
    let h : size_node (node_of g.X.Meant.shape g.T.Meant.shape g.B.Meant.shape c.node-item.result) ≤ size_nodes
    (nodes_of g.X.Meant.shape g.T.Meant.shape g.B.Meant.shape c.args.nodes.now) = size_member g.X.Meant.shape g.T.Meant.shape
    g.B.Meant.shape c.args.nodes.now c.loop-node.node-index c.node-item.result c.loop-node-test.true c.node-item.is in
    let b = ap partials_size c.loop-node.invariant.keeps.store_finds in
    search rules

pub render_list-loop-node-init : goal.render_list-loop-node-init
render_list-loop-node-init g t c =
    record { owes = refl; keeps = keeps_all _ _ _ _ _ _; answer = search rules; around = refl; renders = λ after left answer h. h }

pub render_list-returns-in-Err : goal.render_list-returns-in-Err
render_list-returns-in-Err g t c =
    let q =
    nodes_drop g.X.Meant.shape g.T.Meant.shape g.B.Meant.shape c.args.nodes.now c.loop-node.node-index c.node-item.result
    c.loop-node-test.true c.node-item.is in
    record {
      renders = says_same _ _ _ _ _ _ _ c.locate.ensures (c.loop-node.invariant.renders _ _ _ (node_fails _ _ _ _ _ q _ _ _ _ _
          (rw c.loop-node.invariant.keeps.store_finds at c.render_node.ensures.renders) _ c.in-Err.is));
      owes = c.render_node.ensures.owes
          ∙ c.loop-node.invariant.owes;
      keeps = keeps_both _ _ _ _ _ _ _ _ c.loop-node.invariant.keeps c.render_node.ensures.keeps;
      around = c.render_node.ensures.around ∙ c.loop-node.invariant.around;
    }

pub render_list-returns-then-interrupted : goal.render_list-returns-then-interrupted
render_list-returns-then-interrupted g t c =
    let q =
    nodes_drop g.X.Meant.shape g.T.Meant.shape g.B.Meant.shape c.args.nodes.now c.loop-node.node-index c.node-item.result
    c.loop-node-test.true c.node-item.is in
    let i : is_some (g.S.Runtime.view c.render_node.new.scopes).interrupt ≡ _ =
    ap (λ x. is_some x.interrupt.current) (sym c.registers.ensures) ∙ stands _ _ c.interrupted.ensures c.if-interrupted.true in
    record {
      renders = c.loop-node.invariant.renders _ _ _ (node_stops _ _ _ _ _ q _ _ _ _ _
          (rw c.loop-node.invariant.keeps.store_finds at c.render_node.ensures.renders) _ c.in-Ok.is i);
      owes = c.render_node.ensures.owes
          ∙ c.loop-node.invariant.owes;
      keeps = keeps_both _ _ _ _ _ _ _ _ c.loop-node.invariant.keeps c.render_node.ensures.keeps;
      around = c.render_node.ensures.around ∙ c.loop-node.invariant.around;
    }

pub render_list-loop-node-preserved : goal.render_list-loop-node-preserved
render_list-loop-node-preserved g t c =
    let q =
    nodes_drop g.X.Meant.shape g.T.Meant.shape g.B.Meant.shape c.args.nodes.now c.loop-node.node-index c.node-item.result
    c.loop-node-test.true c.node-item.is in
    let i : is_some (g.S.Runtime.view c.render_node.new.scopes).interrupt ≡ _ =
    ap (λ x. is_some x.interrupt.current) (sym c.registers.ensures) ∙ stands_not _ _ c.interrupted.ensures c.if-interrupted.false in
    record {
      owes = c.render_node.ensures.owes ∙ c.loop-node.invariant.owes;
      keeps = keeps_both _ _ _ _ _ _ _ _ c.loop-node.invariant.keeps c.render_node.ensures.keeps;
      around = c.render_node.ensures.around
          ∙ c.loop-node.invariant.around;
      answer = rw c.in-Ok.is refl;
      renders = λ after left answer h. c.loop-node.invariant.renders after left answer
          (node_goes _ _ _ _ _ q _ _ _ _ _ (rw c.loop-node.invariant.keeps.store_finds at c.render_node.ensures.renders) _ _ _ _
          c.in-Ok.is i
          h);
    }

pub render_list-returns : goal.render_list-returns
render_list-returns g t c =
    record {
      renders = c.loop-node.invariant.renders _ _ _ (nodes_over _ _ _ _ _ _
          (nodes_end g.X.Meant.shape g.T.Meant.shape g.B.Meant.shape c.args.nodes.now c.loop-node.node-index c.loop-node-test.false)
          c.loop-node.invariant.answer);
      owes = c.loop-node.invariant.owes;
      keeps = c.loop-node.invariant.keeps;
      around = c.loop-node.invariant.around;
    }

pub render_node-render_tag-requires : goal.render_node-render_tag-requires
render_node-render_tag-requires g t c =
    let h : size_node (node_of g.X.Meant.shape g.T.Meant.shape g.B.Meant.shape c.args.node.now) ≡ 1 =
    ap size_node (ap (node_of g.X.Meant.shape g.T.Meant.shape g.B.Meant.shape) c.in-Tag.is
    ∙ node_tag g.X.Meant.shape g.T.Meant.shape g.B.Meant.shape _ _) in
    search rules

pub render_node-render_block-requires : goal.render_node-render_block-requires
render_node-render_block-requires g t c =
    let k : size_parts (parts_of g.X.Meant.shape g.T.Meant.shape g.B.Meant.shape c.deref.result.now) + 1 ≡ size_node
    (node_of g.X.Meant.shape g.T.Meant.shape g.B.Meant.shape c.args.node.now) = ap
    (λ x. size_parts (parts_of g.X.Meant.shape g.T.Meant.shape g.B.Meant.shape x) + 1) c.deref.ensures.value
    ∙ sym (ap size_node (ap (node_of g.X.Meant.shape g.T.Meant.shape g.B.Meant.shape) c.in-Block.is
    ∙ node_block g.X.Meant.shape g.T.Meant.shape g.B.Meant.shape _ _ _)) in
    search rules

pub render_node-returns-in-Text-clause-renders : goal.render_node-returns-in-Text-clause-renders
render_node-returns-in-Text-clause-renders g t c =
    node_puts _ _ _ _ _ _ _ _ (ap (node_of g.X.Meant.shape g.T.Meant.shape g.B.Meant.shape) c.in-Text.is
    ∙ node_text g.X.Meant.shape g.T.Meant.shape g.B.Meant.shape _) (rw c.as_str.ensures.value at c.put_text.ensures.out)

pub render_node-returns-in-Brief-clause-renders : goal.render_node-returns-in-Brief-clause-renders
render_node-returns-in-Brief-clause-renders g t c =
    node_puts _ _ _ _ _ _ _ _ (ap (node_of g.X.Meant.shape g.T.Meant.shape g.B.Meant.shape) c.in-Brief.is
    ∙ node_brief g.X.Meant.shape g.T.Meant.shape g.B.Meant.shape _)
    (rw c.as_str-in-Brief.ensures.value at c.put_text-in-Brief.ensures.out)

pub render_node-returns-in-Name-clause-renders : goal.render_node-returns-in-Name-clause-renders
render_node-returns-in-Name-clause-renders g t c =
    node_chains _ _ _ _ _ _ _ _ _ (ap (node_of g.X.Meant.shape g.T.Meant.shape g.B.Meant.shape) c.in-Name.is
    ∙ node_name g.X.Meant.shape g.T.Meant.shape g.B.Meant.shape _ _) (rw c.as_str-in-Name.ensures.value at c.put_name.ensures.renders)

pub render_node-returns-in-Chain-clause-renders : goal.render_node-returns-in-Chain-clause-renders
render_node-returns-in-Chain-clause-renders g t c =
    node_chains _ _ _ _ _ _ _ _ _ (ap (node_of g.X.Meant.shape g.T.Meant.shape g.B.Meant.shape) c.in-Chain.is
    ∙ node_chain g.X.Meant.shape g.T.Meant.shape g.B.Meant.shape _ _) c.put_chain.ensures.renders

pub render_node-returns-in-Tag-clause-renders : goal.render_node-returns-in-Tag-clause-renders
render_node-returns-in-Tag-clause-renders g t c =
    node_tags _ _ _ _ _ _ _ _ _ (ap (node_of g.X.Meant.shape g.T.Meant.shape g.B.Meant.shape) c.in-Tag.is
    ∙ node_tag g.X.Meant.shape g.T.Meant.shape g.B.Meant.shape _ _) c.render_tag.ensures.renders

pub render_node-returns-in-Block-clause-renders : goal.render_node-returns-in-Block-clause-renders
render_node-returns-in-Block-clause-renders g t c =
    node_blocks _ _ _ _ _ _ _ _ _ _ (ap (node_of g.X.Meant.shape g.T.Meant.shape g.B.Meant.shape) c.in-Block.is
    ∙ node_block g.X.Meant.shape g.T.Meant.shape g.B.Meant.shape _ _ _) (rw c.deref.ensures.value at c.render_block.ensures.renders)

pub render_tag-returns-in-None-clause-renders : goal.render_tag-returns-in-None-clause-renders
render_tag-returns-in-None-clause-renders g t c =
    start_none _ _ _ _ _ _ _ _ _ c.in-None.ensures.begins c.start_node.ensures.frames

pub render_tag-loop-init : goal.render_tag-loop-init
render_tag-loop-init g t c =
    record {
      owes = c.start_node.ensures.owes;
      keeps = keeps_store _ _ _ _ _ _ _ c.start_node.ensures.store c.start_node.ensures.borrows;
      answer = c.in-Some.ensures.begins.0;
      around = refl;
      renders = λ after left answer h. start_goes_at _ _ _ _ _ _ _ _ _ _ _ _ _
          (none_yet c.turns-end.result _ c.turns-end.ensures) c.in-Some.ensures.begins.1 c.in-Some.ensures.begins.2
          c.start_node.ensures.frames h;
    }

pub render_tag-returns-then-not-take_tag : goal.render_tag-returns-then-not-take_tag
render_tag-returns-then-not-take_tag g t c =
    let x = rw c.loop.invariant.keeps.store_finds at c.take_tag.ensures.takes in
    record {
      renders = c.loop.invariant.renders _ _ _ (takes_last _ _ _ _ _ _ _ _ _ _ _ _ _ _ _ _
          (left_more c.loop.counter c.turns-end.result c.loop-test.true) refl c.if-not-take_tag.true x);
      owes = c.take_tag.ensures.owes
          ∙ c.loop.invariant.owes;
      keeps = keeps_both _ _ _ _ _ _ _ _ c.loop.invariant.keeps c.take_tag.ensures.keeps;
      around = c.take_tag.ensures.around ∙ c.loop.invariant.around;
    }

pub render_tag-loop-preserved : goal.render_tag-loop-preserved
render_tag-loop-preserved g t c =
    let x = rw c.loop.invariant.keeps.store_finds at c.take_tag.ensures.takes in
    record {
      owes = c.take_tag.ensures.owes ∙ c.loop.invariant.owes;
      keeps = keeps_both _ _ _ _ _ _ _ _ c.loop.invariant.keeps c.take_tag.ensures.keeps;
      answer = takes_ok _ _ _ _ _ _ _ _ _ _ _ _ _ c.if-not-take_tag.false x;
      around = c.take_tag.ensures.around ∙ c.loop.invariant.around;
      renders = λ after left answer h. c.loop.invariant.renders after left answer
          (takes_more _ _ _ _ _ _ _ _ _ _ _ _ _ _ _ _ _ _ _ (left_more c.loop.counter c.turns-end.result c.loop-test.true) refl
          c.if-not-take_tag.false x h);
    }

pub render_tag-returns : goal.render_tag-returns
render_tag-returns g t c =
    record {
      renders = c.loop.invariant.renders _ _ _ (turns_over _ _ _ _ _ _ _ _ _ _
          (left_none c.loop.counter c.turns-end.result c.loop-test.false) c.loop.invariant.answer);
      owes = c.loop.invariant.owes;
      keeps = c.loop.invariant.keeps;
      around = c.loop.invariant.around;
    }

pub take_tag-returns-in-Stop : goal.take_tag-returns-in-Stop
take_tag-returns-in-Stop g t c =
    record {
      takes = λ k. c.in-Stop.ensures.turned.0 [] k;
      owes = c.in-Stop.ensures.turned.1;
      keeps = (keeps_unless _ _ _ _ _ _ (tags_open_none g.T.Renderable.means g.B.Renderable.means) c.in-Stop.ensures.keeps);
      around = c.in-Stop.ensures.around;
    }

pub take_tag-returns-in-Next : goal.take_tag-returns-in-Next
take_tag-returns-in-Next g t c =
    record {
      takes = (c.in-Next.ensures.turned.1, λ k a x later rest. c.in-Next.ensures.turned.0 [] k a x later rest);
      owes = c.in-Next.ensures.turned.2;
      keeps = (keeps_unless _ _ _ _ _ _
          (tags_open_none g.T.Renderable.means g.B.Renderable.means) c.in-Next.ensures.keeps);
      around = c.in-Next.ensures.around;
    }

pub take_tag-returns-in-Part : goal.take_tag-returns-in-Part
take_tag-returns-in-Part g t c =
    let ends = c.end_turn.ensures.ends (owed_open _ _ _ _ _ c.in-Part.ensures.turned.0.owes refl) in
    record {
      takes = rw c.end_turn.ensures.progress (opens_taken _ _ _ _ _ _ _ _ _ _ _ _ _ _ _ _ _ _ _ _ c.in-Part.ensures.turned.0 refl
          ends _ _ _ c.end_turn.ensures.goes_on c.end_turn.ensures.traced (done_ok _ _ _ c.in-Part.ensures.turned.1));
      owes = opens_kept _ _ _ _ _ _ _ _ _ _ _ _ _ _ _ _ _ _ c.in-Part.ensures.turned.0 refl ends;
      keeps = keeps_ended _ _ _ _ _ _ _ _ (keeps_unless _ _ _ _ _ _
          (tags_open_none g.T.Renderable.means g.B.Renderable.means) c.in-Part.ensures.keeps) c.end_turn.ensures.store
          c.end_turn.ensures.borrows;
      around = c.in-Part.ensures.around;
    }

pub take_tag-returns-then-goes_on-clause-takes : goal.take_tag-returns-then-goes_on-clause-takes
take_tag-returns-then-goes_on-clause-takes g t c =
    let b = target (g.O.Out.place c.take_turn.new.out) in
    let e =
    c.caught.ensures ∙ ap (λ x. g.T.Renderable.means.catches (g.T.Meant.shape c.args.tag.now) x (string_bytes c.new.result))
    c.end_turn-goes_on.ensures.progress ∙ ap (λ x. g.T.Renderable.means.catches (g.T.Meant.shape c.args.tag.now)
    (g.T.Progress.Meant.shape c.take_turn.new.going.progress) x) c.new.ensures.bytes in
    captured_taken _ _ _ _ _ _ _ _ _ _ _ _ _ _ _ _ _ _ _ _ _ c.in-Captured.ensures.turned.0
    (record {
      start = nothing_open b;
      last = nothing_open b;
      left = g.S.Runtime.view c.take_turn.new.scopes;
      own = c.take_turn.new.answer;
      rendered = done_ok _ _ _ c.in-Captured.ensures.turned.1;
      aside = nothing_aside b;
      ends = c.end_turn-goes_on.ensures.ends (owed_open _ _ _ _ _ c.in-Captured.ensures.turned.0.owes refl);
      traced = c.end_turn-goes_on.ensures.traced;
      goes_on = c.end_turn-goes_on.ensures.goes_on;
      progress = λ _. e;
    })

pub take_tag-returns-else-goes_on-clause-takes : goal.take_tag-returns-else-goes_on-clause-takes
take_tag-returns-else-goes_on-clause-takes g t c =
    let b = target (g.O.Out.place c.take_turn.new.out) in
    captured_taken _ _ _ _ _ _ _ _ _ _ _ _ _ _ _ _ _ _ _ _ _ c.in-Captured.ensures.turned.0
    (record {
      start = nothing_open b;
      last = nothing_open b;
      left = g.S.Runtime.view c.take_turn.new.scopes;
      own = c.take_turn.new.answer;
      rendered = done_ok _ _ _ c.in-Captured.ensures.turned.1;
      aside = nothing_aside b;
      ends = c.end_turn-goes_on.ensures.ends (owed_open _ _ _ _ _ c.in-Captured.ensures.turned.0.owes refl);
      traced = c.end_turn-goes_on.ensures.traced;
      goes_on = c.end_turn-goes_on.ensures.goes_on;
      progress = λ i. absurd (true-not-false _ i c.if-goes_on.false);
    })

pub take_tag-returns-then-goes_on-clause-owes : goal.take_tag-returns-then-goes_on-clause-owes
take_tag-returns-then-goes_on-clause-owes g t c =
    framed_kept _ _ _ _ _ _ _ _ c.in-Captured.ensures.turned.0.owes refl
    (c.end_turn-goes_on.ensures.ends (owed_open _ _ _ _ _ c.in-Captured.ensures.turned.0.owes refl))

pub take_tag-returns-else-goes_on-clause-owes : goal.take_tag-returns-else-goes_on-clause-owes
take_tag-returns-else-goes_on-clause-owes g t c =
    framed_kept _ _ _ _ _ _ _ _ c.in-Captured.ensures.turned.0.owes refl
    (c.end_turn-goes_on.ensures.ends (owed_open _ _ _ _ _ c.in-Captured.ensures.turned.0.owes refl))

pub take_tag-returns-then-goes_on-clause-keeps : goal.take_tag-returns-then-goes_on-clause-keeps
take_tag-returns-then-goes_on-clause-keeps g t c =
    keeps_ended _ _ _ _ _ _ _ _ (keeps_unless _ _ _ _ _ _ (tags_open_none g.T.Renderable.means g.B.Renderable.means)
    c.in-Captured.ensures.keeps) c.end_turn-goes_on.ensures.store c.end_turn-goes_on.ensures.borrows

pub take_tag-returns-else-goes_on-clause-keeps : goal.take_tag-returns-else-goes_on-clause-keeps
take_tag-returns-else-goes_on-clause-keeps g t c =
    keeps_ended _ _ _ _ _ _ _ _ (keeps_unless _ _ _ _ _ _ (tags_open_none g.T.Renderable.means g.B.Renderable.means)
    c.in-Captured.ensures.keeps) c.end_turn-goes_on.ensures.store c.end_turn-goes_on.ensures.borrows

pub take_tag-returns-in-Partial : goal.take_tag-returns-in-Partial
take_tag-returns-in-Partial g t c =
    let ends = c.end_partial.ensures.ends (owed_open _ _ _ _ _ c.in-Partial.ensures.turned.0.owes c.render_partial.ensures.owes) in
    record {
      takes = rw c.end_partial.ensures.progress (opens_taken _ _ _ _ _ _ _ _ _ _ _ _ _ _ _ _ _ _ _ _
          c.in-Partial.ensures.turned.0 c.render_partial.ensures.owes ends _ _ _ c.end_partial.ensures.goes_on
          c.end_partial.ensures.traced (rw c.in-Partial.ensures.keeps.store_finds at c.render_partial.ensures.renders));
      owes = opens_kept _ _ _ _ _ _ _ _ _ _ _ _ _ _ _ _ _ _ c.in-Partial.ensures.turned.0 c.render_partial.ensures.owes ends;
      keeps = keeps_ended _ _ _ _ _ _ _ _ (keeps_both _ _ _ _ _ _ _ _
          (keeps_unless _ _ _ _ _ _ (tags_open_none g.T.Renderable.means g.B.Renderable.means) c.in-Partial.ensures.keeps)
          c.render_partial.ensures.keeps) c.end_partial.ensures.store c.end_partial.ensures.borrows;
      around = c.render_partial.ensures.around ∙ c.in-Partial.ensures.around;
    }

pub render_block-returns-in-None-clause-renders : goal.render_block-returns-in-None-clause-renders
render_block-returns-in-None-clause-renders g t c =
    start_none _ _ _ _ _ _ _ _ _ c.in-None.ensures.begins c.start_boxed.ensures.frames

pub render_block-loop-init : goal.render_block-loop-init
render_block-loop-init g t c =
    record {
      owes = c.start_boxed.ensures.owes;
      keeps = keeps_store _ _ _ _ _ _ _ c.start_boxed.ensures.store c.start_boxed.ensures.borrows;
      answer = c.in-Some.ensures.begins.0;
      around = refl;
      renders = λ after left answer h. start_goes_at _ _ _ _ _ _ _ _ _ _ _ _ _
          (none_yet c.turns-end.result _ (c.turns-end.ensures ∙ ap (λ x. g.B.Renderable.means.count (g.B.Progress.Meant.shape x.progress))
          c.deref.ensures)) c.in-Some.ensures.begins.1 c.in-Some.ensures.begins.2 c.start_boxed.ensures.frames h;
    }

pub render_block-returns-then-not-take_block : goal.render_block-returns-then-not-take_block
render_block-returns-then-not-take_block g t c =
    let x = rw c.loop.invariant.keeps.store_finds at c.take_block.ensures.takes in
    record {
      renders = c.loop.invariant.renders _ _ _ (takes_last _ _ _ _ _ _ _ _ _ _ _ _ _ _ _ _
          (left_more c.loop.counter c.turns-end.result c.loop-test.true)
          (ap (λ x. g.B.Progress.Meant.shape x.progress) c.deref_mut.ensures.value) c.if-not-take_block.true x);
      owes = c.take_block.ensures.owes ∙ c.loop.invariant.owes;
      keeps = keeps_both _ _ _ _ _ _ _ _ c.loop.invariant.keeps
          c.take_block.ensures.keeps;
      around = c.take_block.ensures.around ∙ c.loop.invariant.around;
    }

pub render_block-loop-preserved : goal.render_block-loop-preserved
render_block-loop-preserved g t c =
    let x = rw c.loop.invariant.keeps.store_finds at c.take_block.ensures.takes in
    record {
      owes = c.take_block.ensures.owes ∙ c.loop.invariant.owes;
      keeps = keeps_both _ _ _ _ _ _ _ _ c.loop.invariant.keeps c.take_block.ensures.keeps;
      answer = takes_ok _ _ _ _ _ _ _ _ _ _ _ _ _ c.if-not-take_block.false x;
      around = c.take_block.ensures.around
          ∙ c.loop.invariant.around;
      renders = λ after left answer h. c.loop.invariant.renders after left answer
          (takes_more _ _ _ _ _ _ _ _ _ _ _ _ _ _ _ _ _ _ _ (left_more c.loop.counter c.turns-end.result c.loop-test.true)
          (ap (λ x. g.B.Progress.Meant.shape x.progress) c.deref_mut.ensures.value) c.if-not-take_block.false x h);
    }

pub render_block-returns : goal.render_block-returns
render_block-returns g t c =
    record {
      renders = c.loop.invariant.renders _ _ _ (turns_over _ _ _ _ _ _ _ _ _ _
          (left_none c.loop.counter c.turns-end.result c.loop-test.false) c.loop.invariant.answer);
      owes = c.loop.invariant.owes;
      keeps = c.loop.invariant.keeps;
      around = c.loop.invariant.around;
    }

pub take_block-returns-in-Stop : goal.take_block-returns-in-Stop
take_block-returns-in-Stop g t c =
    record {
      takes = λ k. c.in-Stop.ensures.turned.0 _ k;
      owes = c.in-Stop.ensures.turned.1;
      keeps = (keeps_unless _ _ _ _ _ _ (blocks_open_none g.T.Renderable.means g.B.Renderable.means) c.in-Stop.ensures.keeps);
      around = c.in-Stop.ensures.around;
    }

pub take_block-returns-in-Next : goal.take_block-returns-in-Next
take_block-returns-in-Next g t c =
    record {
      takes = (c.in-Next.ensures.turned.1, λ k a x later rest. c.in-Next.ensures.turned.0 _ k a x later rest);
      owes = c.in-Next.ensures.turned.2;
      keeps = (keeps_unless _ _ _ _ _ _
          (blocks_open_none g.T.Renderable.means g.B.Renderable.means) c.in-Next.ensures.keeps);
      around = c.in-Next.ensures.around;
    }

pub take_block-returns-in-Part : goal.take_block-returns-in-Part
take_block-returns-in-Part g t c =
    let ends = c.end_turn.ensures.ends (owed_open _ _ _ _ _ c.in-Part.ensures.turned.0.owes c.render_part.ensures.owes) in
    record {
      takes = rw c.end_turn.ensures.progress (opens_taken _ _ _ _ _ _ _ _ _ _ _ _ _ _ _ _ _ _ _ _ c.in-Part.ensures.turned.0
          c.render_part.ensures.owes ends _ _ _ c.end_turn.ensures.goes_on c.end_turn.ensures.traced
          (rw c.in-Part.ensures.keeps.store_finds at c.render_part.ensures.renders));
      owes = opens_kept _ _ _ _ _ _ _ _ _ _ _ _ _ _ _ _ _ _ c.in-Part.ensures.turned.0 c.render_part.ensures.owes ends;
      keeps = keeps_ended _ _ _ _ _ _ _ _ (keeps_both _ _ _ _ _ _ _ _
          (keeps_unless _ _ _ _ _ _ (blocks_open_none g.T.Renderable.means g.B.Renderable.means) c.in-Part.ensures.keeps)
          c.render_part.ensures.keeps) c.end_turn.ensures.store c.end_turn.ensures.borrows;
      around = c.render_part.ensures.around
          ∙ c.in-Part.ensures.around;
    }

pub take_block-end_captured-requires-clause-frame : goal.take_block-end_captured-requires-clause-frame
take_block-end_captured-requires-clause-frame g t c =
    owed_open _ _ _ _ _ c.in-Captured.ensures.turned.0.owes c.render_part-in-Captured.ensures.owes

pub take_block-end_captured-requires-clause-text : goal.take_block-end_captured-requires-clause-text
take_block-end_captured-requires-clause-text g t c =
    text_stays (g.O.Out.place c.take_turn.new.out) (g.O.Out.place c.open_text.new.out)
    (g.O.Out.place c.render_part-in-Captured.new.out) c.open_text.ensures.opened c.render_part-in-Captured.ensures.around

pub take_block-returns-in-Captured-clause-takes : goal.take_block-returns-in-Captured-clause-takes
take_block-returns-in-Captured-clause-takes g t c =
    let e = c.open_text.ensures.opened in
    let h = c.render_part-in-Captured.ensures.around in
    captured_taken _ _ _ _ _ _ _ _ _ _ _ _ _ _ _ _ _ _ _ _ _ c.in-Captured.ensures.turned.0
    (record {
      start = target (g.O.Out.place c.open_text.new.out);
      last = target (g.O.Out.place c.render_part-in-Captured.new.out);
      left = g.S.Runtime.view c.render_part-in-Captured.new.scopes;
      own = c.render_part-in-Captured.new.answer;
      rendered = rw c.in-Captured.ensures.keeps.store_finds at c.render_part-in-Captured.ensures.renders;
      aside = closed_aside _ _ _ _ _ e h c.open_text.ensures.outer c.end_captured.ensures.closed;
      ends = rw c.render_part-in-Captured.ensures.owes at c.end_captured.ensures.ends;
      traced = rw c.open_text.ensures.trace at c.end_captured.ensures.traced;
      goes_on = c.end_captured.ensures.goes_on;
      progress = λ i. text_caught _ _ _ _ e h (rw c.open_text.ensures.progress at c.end_captured.ensures.caught i);
    })

pub take_block-returns-in-Captured-clause-owes : goal.take_block-returns-in-Captured-clause-owes
take_block-returns-in-Captured-clause-owes g t c =
    framed_kept _ _ _ _ _ _ _ _ c.in-Captured.ensures.turned.0.owes c.render_part-in-Captured.ensures.owes c.end_captured.ensures.ends

pub take_block-returns-in-Captured-clause-keeps : goal.take_block-returns-in-Captured-clause-keeps
take_block-returns-in-Captured-clause-keeps g t c =
    keeps_ended _ _ _ _ _ _ _ _ (keeps_both _ _ _ _ _ _ _ _ (keeps_unless _ _ _ _ _ _
    (blocks_open_none g.T.Renderable.means g.B.Renderable.means) c.in-Captured.ensures.keeps) c.render_part-in-Captured.ensures.keeps)
    c.end_captured.ensures.store c.end_captured.ensures.borrows

pub take_block-returns-in-Captured-clause-around : goal.take_block-returns-in-Captured-clause-around
take_block-returns-in-Captured-clause-around g t c =
    closed_around _ _ _ _ _ c.open_text.ensures.opened c.render_part-in-Captured.ensures.around c.open_text.ensures.outer
    c.end_captured.ensures.closed ∙ c.in-Captured.ensures.around

pub take_block-returns-in-Partial : goal.take_block-returns-in-Partial
take_block-returns-in-Partial g t c =
    let ends = c.end_partial.ensures.ends (owed_open _ _ _ _ _ c.in-Partial.ensures.turned.0.owes c.render_partial.ensures.owes) in
    record {
      takes = rw c.end_partial.ensures.progress (opens_taken _ _ _ _ _ _ _ _ _ _ _ _ _ _ _ _ _ _ _ _
          c.in-Partial.ensures.turned.0 c.render_partial.ensures.owes ends _ _ _ c.end_partial.ensures.goes_on
          c.end_partial.ensures.traced (rw c.in-Partial.ensures.keeps.store_finds at c.render_partial.ensures.renders));
      owes = opens_kept _ _ _ _ _ _ _ _ _ _ _ _ _ _ _ _ _ _ c.in-Partial.ensures.turned.0 c.render_partial.ensures.owes ends;
      keeps = keeps_ended _ _ _ _ _ _ _ _ (keeps_both _ _ _ _ _ _ _ _
          (keeps_unless _ _ _ _ _ _ (blocks_open_none g.T.Renderable.means g.B.Renderable.means) c.in-Partial.ensures.keeps)
          c.render_partial.ensures.keeps) c.end_partial.ensures.store c.end_partial.ensures.borrows;
      around = c.render_partial.ensures.around ∙ c.in-Partial.ensures.around;
    }

pub render_part-render_list-requires : goal.render_part-render_list-requires
render_part-render_list-requires g t c =
    let h : size_nodes (nodes_of g.X.Meant.shape g.T.Meant.shape g.B.Meant.shape c.deref.result.now) ≤ size_parts
    (parts_of g.X.Meant.shape g.T.Meant.shape g.B.Meant.shape c.args.parts.now) = subst
    (λ x. size_nodes (nodes_of g.X.Meant.shape g.T.Meant.shape g.B.Meant.shape x) ≤ size_parts
    (parts_of g.X.Meant.shape g.T.Meant.shape g.B.Meant.shape c.args.parts.now)) (sym c.deref.ensures.value)
    (size_part g.X.Meant.shape g.T.Meant.shape g.B.Meant.shape c.args.parts.now c.args.place c.in-Some.nodes.now
    c.in-Some.ensures.lookup.3.0 c.in-Some.ensures.lookup.1) in
    search rules

pub render_part-returns-in-Some-clause-renders : goal.render_part-returns-in-Some-clause-renders
render_part-returns-in-Some-clause-renders g t c =
    part_renders _ _ g.X.Meant.shape g.T.Meant.shape g.B.Meant.shape c.args.parts.now c.args.place c.in-Some.nodes.now _ _ _ _ _
    c.in-Some.ensures.lookup.3.0 c.in-Some.ensures.lookup.1 (rw c.deref.ensures.value at c.render_list.ensures.renders)

pub render_part-returns-in-None-clause-renders : goal.render_part-returns-in-None-clause-renders
render_part-returns-in-None-clause-renders g t c =
    renders_ok _ _ _ _ _ _ c.requires (no_part_renders _ _ g.X.Meant.shape g.T.Meant.shape g.B.Meant.shape c.args.parts.now c.args.place _ _
    _ c.in-None.ensures.lookup.3)

pub render_partial-returns-clause-renders : goal.render_partial-returns-clause-renders
render_partial-returns-clause-renders g t c =
    rw (c.nodes.ensures, c.deref.ensures) at c.render_list.ensures.renders

pub render_part-returns-in-None-clause-keeps : goal.render_part-returns-in-None-clause-keeps
render_part-returns-in-None-clause-keeps g t c = keeps_all _ _ _ _ _ _

pub render_partial-returns-clause-keeps : goal.render_partial-returns-clause-keeps
render_partial-returns-clause-keeps g t c =
    keeps_asked _ _ _ _ _ _ _ c.requires.more c.render_list.ensures.keeps.store_finds c.render_list.ensures.keeps.unopened
    c.render_list.ensures.keeps.borrows
