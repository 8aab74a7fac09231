-- Laws of the sprites of a pass, one after the other in drawing order.
use Rattle.picture_rules.proofs.Common.{All, All-contains_itself, All-permutation, AllPass, ap, arith, Bool, Contains, Err, false, get_or, gets, IfSome, length, List, None, Ok, Option, refl, Result, slice_get, Some, subst, sym, true, ℕ, ◌+◌, ◌-◌, ◌<◌, ◌∙◌, ◌≡◌}
use Rattle.receiver_rules.specs.Receivers.{Receives}
use Rattle.receiver_rules.proofs.FirstLemmas.{first_lists, first-left, first-more, first-none}
use Rattle.receiver_rules.proofs.ReceiverLemmas.{receives-after, receives-none, receives-same, receives-stopped}
use Rattle.masked_draw.specs.Rules.{Drawseg, FragmentNote, SpriteEntry, ViewValue, draw_order}
use Rattle.picture_rules.proofs.sprite.OrderLemmas.{draw_order-permutation}
use Rattle.vissprites.specs.Bounds.{lies_within}
use Rattle.brush.specs.Strips.{Strip}
use Rattle.masked_draw.specs.declared.scene.MaskScene.{MaskScene}
use Rattle.masked_draw.specs.{Marks.AreBefore, Marks.MarkedTo, Marks.mark_in, Passes.ShowsSprite}
use Rattle.masked_draw.specs.Scenes.{scene_drawsegs}
use Rattle.masked_draw.specs.Strips.{sprites_strips, step_strips}
use Rattle.masked_draw.proofs.MomentLemmas.{front-first}

-- no column is marked before the first sprite
before_first : (seg : FragmentNote → Drawseg) (es : List SpriteEntry) (marks : List Bool) (d : FragmentNote) (masked : Option ℕ) →
    ((p : ℕ) → mark_in marks p ≡ false) → AreBefore seg es marks d 0 masked
before_first seg es marks d None h = tt
before_first seg es marks d (Some place) h = λ x l m. h (place + (x - d.first)) ∙ sym (front-first es (seg d) x)

first_some : (seg : FragmentNote → Drawseg) (es : List SpriteEntry) (marks : List Bool) (o : Option FragmentNote) → ((p : ℕ) → mark_in marks p ≡ false) →
    IfSome o (λ d. AreBefore seg es marks d 0 d.masked)
first_some seg es marks None h = tt
first_some seg es marks (Some d) h = before_first seg es marks d d.masked h

pub marked-first : (seg : FragmentNote → Drawseg) (notes : List FragmentNote) (es : List SpriteEntry) (n : ℕ) (marks : List Bool) →
    ((p : ℕ) → mark_in marks p ≡ false) → MarkedTo seg notes es n (λ k. 0) marks
marked-first seg notes es n marks h = record { at = λ k l. first_some seg es marks (slice_get notes k) h }

get_here : (es : List SpriteEntry) (k : ℕ) (e : SpriteEntry) → k < length es → slice_get es k ≡ Some (get_or es k e)
get_here es k e l = grind (arith, gets)

-- where a sprite stands in drawing order, by the turn of the loop
pub sprite-get : (es : List SpriteEntry) (k : ℕ) (e : SpriteEntry) → (k < length es) × (e ≡ get_or es k e) → slice_get es k ≡ Some e
sprite-get es k e t = let is_there = t.0 in let is_entry = t.1 in get_here es k e is_there ∙ ap Some (sym is_entry)

all_drawn : (P : SpriteEntry → Type 0) (sprites : List SpriteEntry) (k : ℕ) (e : SpriteEntry) → All P sprites →
    (k < length (draw_order sprites)) × (e ≡ get_or (draw_order sprites) k e) → P e
all_drawn P sprites k e all t = subst P (sym t.1) (All-permutation P sprites (draw_order sprites) (draw_order-permutation sprites) all k e t.0)

pub sprite-lies : (width : ℕ) (sprites : List SpriteEntry) (k : ℕ) (e : SpriteEntry) → AllPass (lies_within width) sprites →
    (k < length (draw_order sprites)) × (e ≡ get_or (draw_order sprites) k e) → lies_within width e ≡ true
sprite-lies width sprites k e all t = all_drawn (λ e. lies_within width e ≡ true) sprites k e all t

-- the sprite at that turn is one of the sprites
pub sprite-among : (sprites : List SpriteEntry) (k : ℕ) (e : SpriteEntry) → (k < length (draw_order sprites)) × (e ≡ get_or (draw_order sprites) k e) → Contains sprites e
sprite-among sprites k e t = all_drawn (Contains sprites) sprites k e (All-contains_itself sprites) t

-- the strips of each turn
abbrev pub turn_strips : ViewValue → List Drawseg → List SpriteEntry → ℕ → List Strip
turn_strips v ds es i = step_strips v ds es i (slice_get es i)

module _ (s : MaskScene) (notes : List FragmentNote) (es : List SpriteEntry) where
  turn_is : (n : ℕ) (e : SpriteEntry) → slice_get es n ≡ Some e → step_strips s.view.now (scene_drawsegs s notes) es n (Some e) ≡ turn_strips s.view.now (scene_drawsegs s notes) es n
  turn_is n e g = ap (step_strips s.view.now (scene_drawsegs s notes) es n) (sym g)

module _ {S A E : Type 0} {takes : S → Strip → Type 0} {stands : S → A → List Strip → Type 0} {stopped : S → A → List Strip → E → Type 0}
    (s : MaskScene) (notes : List FragmentNote) (es : List SpriteEntry) where
  -- no sprite was asked for
  pub sprites-start : (brush : S) → Receives takes stands stopped brush brush (first_lists (turn_strips s.view.now (scene_drawsegs s notes) es) 0) (Ok tt)
  sprites-start brush = receives-same _ (sym (first-none (turn_strips s.view.now (scene_drawsegs s notes) es))) (receives-none brush)

  -- one sprite more
  pub sprites-more : {start a b : S} (n next : ℕ) (e : SpriteEntry) (marks : List Bool) → slice_get es n ≡ Some e → n + 1 ≡ next →
      Receives takes stands stopped start a (first_lists (turn_strips s.view.now (scene_drawsegs s notes) es) n) (Ok tt) →
      ShowsSprite takes stands stopped s notes es n e marks a b (Ok tt) → Receives takes stands stopped start b (first_lists (turn_strips s.view.now (scene_drawsegs s notes) es) next) (Ok tt)
  sprites-more n next e marks g up before sprite =
      receives-after _ before (receives-same _ (turn_is s notes es n e g) sprite.asks)
      (first-more (turn_strips s.view.now (scene_drawsegs s notes) es) n ∙ ap (first_lists (turn_strips s.view.now (scene_drawsegs s notes) es)) up)

  -- the brush stopped at one
  pub sprites-stop : {start a b : S} {part whole : Result (Unit {0}) E} (stop : E) (n : ℕ) (e : SpriteEntry) (marks : List Bool) → n < length es → slice_get es n ≡ Some e →
      Receives takes stands stopped start a (first_lists (turn_strips s.view.now (scene_drawsegs s notes) es) n) (Ok tt) →
      ShowsSprite takes stands stopped s notes es n e marks a b part → part ≡ Err stop → whole ≡ Err stop →
      Receives takes stands stopped start b (sprites_strips s.view.now (scene_drawsegs s notes) es) whole
  unfolding sprites_strips
  sprites-stop {whole = whole} stop n e marks l g before sprite was is =
      let left = first-left (turn_strips s.view.now (scene_drawsegs s notes) es) n (length es) l in
      receives-stopped whole left.0 _ before tt refl (receives-same _ (turn_is s notes es n e g) sprite.asks) stop was is left.1

  -- all sprites were asked for
  pub sprites-end : {start now : S} (n : ℕ) → n ≡ length es → Receives takes stands stopped start now (first_lists (turn_strips s.view.now (scene_drawsegs s notes) es) n) (Ok tt) →
      Receives takes stands stopped start now (sprites_strips s.view.now (scene_drawsegs s notes) es) (Ok tt)
  unfolding sprites_strips
  sprites-end n end h = receives-same _ (ap (first_lists (turn_strips s.view.now (scene_drawsegs s notes) es)) end) h
