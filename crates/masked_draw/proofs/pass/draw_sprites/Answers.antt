-- One sprite after the other, in drawing order.
use Rattle.picture_rules.proofs.Common.{ap, Err, length, length_push, List, map-id, refl, subst, sym, YieldsList-end, YieldsList-from_first, YieldsList-turn, err_from_is_err_and, ℕ, ◌∙◌, ◌≡◌}
use Rattle.masked_draw.specs.Rules.{SpriteEntry, draw_order}
use Rattle.masked_draw.specs.Marks.{MarkedTo}
use Rattle.masked_draw.specs.Scenes.{scene_drawseg}
use Rattle.masked_draw.proofs.PassLemmas.{marked-first, sprite-among, sprite-get, sprite-lies, sprites-end, sprites-more, sprites-start, sprites-stop}
use Rattle.masked_draw.proofs.SceneLemmas.{can_show-later, masked-later}
use Rattle.masked_draw.proofs.pass.draw_sprites.Goals as goal

pub loop-entry-init : goal.loop-entry-init
loop-entry-init g c = record {
  room = refl;
  marked = marked-first (scene_drawseg c.args.scene.now) c.args.notes.now (draw_order c.args.sprites.now) _ _ c.requires.unmarked;
  asks = sprites-start c.args.scene.now c.args.notes.now (draw_order c.args.sprites.now) _;
}

pub draw_sprite-requires-clause-ready : goal.draw_sprite-requires-clause-ready
draw_sprite-requires-clause-ready g c = can_show-later c.loop-entry.invariant.room c.requires.ready

pub draw_sprite-requires-clause-within : goal.draw_sprite-requires-clause-within
draw_sprite-requires-clause-within g c =
    let entry_is_next = YieldsList-turn (YieldsList-from_first (λ (x : SpriteEntry). x) (λ (es : List SpriteEntry). es) (draw_order c.args.sprites.now) cc) c.loop-entry.yielded _ c.loop-entry.yielded_by _ _ c.in-Some.entry c.in-Some.is c.next.ensures.steps in
    sprite-lies _ c.args.sprites.now (length c.loop-entry.yielded) c.in-Some.entry c.requires.columns entry_is_next

pub draw_sprite-requires-clause-fragments : goal.draw_sprite-requires-clause-fragments
draw_sprite-requires-clause-fragments g c = (masked-later c.loop-entry.invariant.asks.takes_on c.requires.takes).fragments

pub draw_sprite-requires-clause-sprite : goal.draw_sprite-requires-clause-sprite
draw_sprite-requires-clause-sprite g c =
    let entry_is_next = YieldsList-turn (YieldsList-from_first (λ (x : SpriteEntry). x) (λ (es : List SpriteEntry). es) (draw_order c.args.sprites.now) cc) c.loop-entry.yielded _ c.loop-entry.yielded_by _ _ c.in-Some.entry c.in-Some.is c.next.ensures.steps in
    (masked-later c.loop-entry.invariant.asks.takes_on c.requires.takes).sprites c.in-Some.entry (sprite-among c.args.sprites.now (length c.loop-entry.yielded) c.in-Some.entry entry_is_next)

pub loop-entry-preserved : goal.loop-entry-preserved
loop-entry-preserved g c =
    let turn = YieldsList-turn (YieldsList-from_first (λ (x : SpriteEntry). x) (λ (es : List SpriteEntry). es) (draw_order c.args.sprites.now) cc) c.loop-entry.yielded _ c.loop-entry.yielded_by _ _ c.in-Some.entry c.in-Some.is c.next.ensures.steps in
    let scene = c.args.scene.now in
    let es = draw_order c.args.sprites.now in
    let invariant = c.loop-entry.invariant in
    let there = sprite-get es (length c.loop-entry.yielded) c.in-Some.entry turn in
    let next = sym (length_push c.loop-entry.yielded c.in-Some.entry) in
    let sprite = c.in_ok-draw_sprite.ensures.shows es (length c.loop-entry.yielded) turn.0 there invariant.marked in
    record {
      room = c.in_ok-draw_sprite.ensures.marks ∙ invariant.room;
      marked = subst (λ (n : ℕ). MarkedTo (scene_drawseg scene) c.args.notes.now es (length c.args.notes.now) (λ k. n) c.draw_sprite.new.marks) next sprite.marked;
      asks = sprites-more scene c.args.notes.now es (length c.loop-entry.yielded) _ c.in-Some.entry _ there next invariant.asks sprite;
    }

pub returns-in_err-draw_sprite-clause-asks : goal.returns-in_err-draw_sprite-clause-asks
returns-in_err-draw_sprite-clause-asks g c =
    let turn = YieldsList-turn (YieldsList-from_first (λ (x : SpriteEntry). x) (λ (es : List SpriteEntry). es) (draw_order c.args.sprites.now) cc) c.loop-entry.yielded _ c.loop-entry.yielded_by _ _ c.in-Some.entry c.in-Some.is c.next.ensures.steps in
    let es = draw_order c.args.sprites.now in
    let invariant = c.loop-entry.invariant in
    let there = sprite-get es (length c.loop-entry.yielded) c.in-Some.entry turn in
    let failure_is = err_from_is_err_and c.from_residual.result c.from_residual.ensures.1 in
    sprites-stop c.args.scene.now c.args.notes.now es _ (length c.loop-entry.yielded) c.in-Some.entry _ turn.0 there invariant.asks
    (c.draw_sprite.ensures.shows es (length c.loop-entry.yielded) turn.0 there invariant.marked) c.in_err-draw_sprite.was (failure_is.1 ∙ ap Err failure_is.2)

pub returns-clause-marked : goal.returns-clause-marked
returns-clause-marked g c =
    let yielded_all = YieldsList-end (YieldsList-from_first (λ (x : SpriteEntry). x) (λ (es : List SpriteEntry). es) (draw_order c.args.sprites.now) cc) c.loop-entry.yielded _ c.loop-entry.yielded_by _ _ c.in-None.is c.next.ensures.steps in
    let end : length c.loop-entry.yielded ≡ length (draw_order c.args.sprites.now) = ap length (sym (map-id c.loop-entry.yielded) ∙ yielded_all.0) in
    subst (λ (n : ℕ). MarkedTo (scene_drawseg c.args.scene.now) c.args.notes.now (draw_order c.args.sprites.now) (length c.args.notes.now) (λ k. n) c.loop-entry.marks) end c.loop-entry.invariant.marked

pub returns-clause-asks : goal.returns-clause-asks
returns-clause-asks g c =
    let yielded_all = YieldsList-end (YieldsList-from_first (λ (x : SpriteEntry). x) (λ (es : List SpriteEntry). es) (draw_order c.args.sprites.now) cc) c.loop-entry.yielded _ c.loop-entry.yielded_by _ _ c.in-None.is c.next.ensures.steps in
    let end : length c.loop-entry.yielded ≡ length (draw_order c.args.sprites.now) = ap length (sym (map-id c.loop-entry.yielded) ∙ yielded_all.0) in
    sprites-end c.args.scene.now c.args.notes.now (draw_order c.args.sprites.now) _ end c.loop-entry.invariant.asks
