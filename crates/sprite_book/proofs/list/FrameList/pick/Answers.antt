use Rattle.art_rules.proofs.Common.{ap, arith, length, rules, slice_get, sym, vec_len, ◌<◌, ◌∙◌, ◌≡◌}
use Rattle.sprite_book.specs.Rules.{Frame, is_frame}
use Rattle.sprite_book.proofs.ListLemmas.{place_below, picked_found, picked_none}
use Rattle.sprite_book.proofs.list.FrameList.pick.Goals as goal

pub index-requires : goal.index-requires
index-requires c =
    let frames_length : vec_len c.args.self.now.frames ≡ length c.args.self.now.frames.items = search rules in
    let place_below_frames : c.in-Some.place.now < length c.args.self.now.frames.items = place_below (is_frame c.args.sprite c.args.frame) c.args.self.now.frames.items c.in-Some.place.now (sym (c.requires.at c.args.sprite c.args.frame) ∙ sym c.in-Some.ensures.value) in
    omega arith

pub returns-in-Some : goal.returns-in-Some
returns-in-Some c =
    c.shape_at.ensures ∙ sym (picked_found c.args.self.now.frames.items c.args.sprite c.args.frame c.args.rotation c.in-Some.place.now c.index.result.now (sym (c.requires.at c.args.sprite c.args.frame) ∙ sym c.in-Some.ensures.value) ∙ ap (λ (f : Frame). slice_get f.shapes c.args.rotation) (sym c.index.ensures))

pub returns-in-None : goal.returns-in-None
returns-in-None c = sym (picked_none c.args.self.now.frames.items c.args.sprite c.args.frame c.args.rotation (sym (c.requires.at c.args.sprite c.args.frame) ∙ sym c.in-None.ensures.value))
