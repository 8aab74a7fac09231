use Rattle.level_audit.specs.Rules.{Art, MIN_FRAGMENT, block_size, itself, lump_at, lump_bytes, scene_in, sizes_of}
use Rattle.std.proofs.Common.{◌≡◌, ◌<◌, ◌+◌, ◌∙◌, Err, refl, ap, inl, inr, arith}
use Rattle.art_rules.proofs.Laws.{all_stand_later, follows_then}
use Rattle.texture_build.specs.{Caches.NoRoom, Sizes.IsGapAround}
use Rattle.texture_build.proofs.FetchLemmas.{fetch_first, fetch_gap_first, fetch_has_static, fetch_no_room, fetch_sizes, fetch_static}
use Rattle.level_audit.specs.Reads.{IsFullAudit}
use Rattle.level_audit.proofs.FetchLemmas.{answers_after, answers_none, fits_after, full_above, full_after, full_first, gap_after, order_after, pinned_after, rest_after, room_after, room_first, told_after}
use Rattle.level_audit.proofs.AskedLemmas.{enough_after, small_first}
use Rattle.sound_scene.proofs.SceneLemmas.{same_value, scene_in-none}
use Rattle.level_audit.proofs.audit_steps.audit.Goals as goal

pub returns-in-Err-clause-answers : goal.returns-in-Err-clause-answers
returns-in-Err-clause-answers g c = λ contents told.
    answers_none _ _ (Art c.in-Err.refusal) _ (scene_in-none _ c.args.dir.now.lumps c.args.things.now c.args.map.now c.args.skill c.in-Err.refusal c.in-Err.ensures.lump) refl

pub returns-in-Err-fetch-clause-full : goal.returns-in-Err-fetch-clause-full
returns-in-Err-fetch-clause-full g c =
    let dir = c.args.dir.now in
    let shelf_view = g.S.Shelf.view c.args.shelf.now in
    let colormap = c.in-Ok.colormap.0 in
    full_above (NoRoom (lump_at dir.lumps colormap).size c.args.cache.now) (IsFullAudit shelf_view dir c.args.cache.now c.args.things.now c.args.map.now c.args.skill) c.fetch.result c.in-Err-fetch.fault (Err c.above.result) c.in-Err-fetch.is c.above.ensures
    (λ wanted widest' none. full_first shelf_view dir c.args.cache.now c.args.things.now c.args.map.now c.args.skill colormap wanted widest' c.in-Ok.ensures.lump none) (fetch_no_room c.fetch.ensures.fetches)

pub returns-in-Err-fetch-clause-room : goal.returns-in-Err-fetch-clause-room
returns-in-Err-fetch-clause-room g c = λ colormap is empty.
    let cache = c.args.cache.now in
    let size = (lump_at c.args.dir.now.lumps c.in-Ok.colormap.0).size in
    full_above (λ wanted widest'. (cache.size < wanted) × ((wanted ≡ block_size size) × (widest' ≡ cache.size))) (λ wanted widest'. cache.size < block_size (lump_at c.args.dir.now.lumps colormap).size + wanted + MIN_FRAGMENT) c.fetch.result c.in-Err-fetch.fault (Err c.above.result) c.in-Err-fetch.is c.above.ensures
    (λ wanted widest' k. omega (arith, k.0)) (room_first size cache c.fetch.result (fetch_no_room c.fetch.ensures.fetches) (fetch_gap_first c.fetch.ensures.fetches empty))

pub returns-in-Err-fetch-clause-gap : goal.returns-in-Err-fetch-clause-gap
returns-in-Err-fetch-clause-gap g c = λ colormap is empty.
    let cache = c.args.cache.now in
    let lumps = c.args.dir.now.lumps in
    let size = (lump_at lumps c.in-Ok.colormap.0).size in
    full_above (λ wanted widest'. (cache.size < wanted) × ((wanted ≡ block_size size) × (widest' ≡ cache.size))) (λ wanted widest'. IsGapAround cache.size (block_size (lump_at lumps colormap).size) wanted widest') c.fetch.result c.in-Err-fetch.fault (Err c.above.result) c.in-Err-fetch.is c.above.ensures
    (λ wanted widest' k. inl (k.1.0 ∙ ap (λ n. block_size (lump_at lumps n).size) (same_value c.in-Ok.colormap.0 colormap c.in-Ok.ensures.lump is), k.1.1))
    (room_first size cache c.fetch.result (fetch_no_room c.fetch.ensures.fetches) (fetch_gap_first c.fetch.ensures.fetches empty))

pub returns-in-Err-fetch-clause-enough : goal.returns-in-Err-fetch-clause-enough
returns-in-Err-fetch-clause-enough g c = λ contents scene told accepted empty.
    let dir = c.args.dir.now in
    let cache = c.args.cache.now in
    let colormap = c.in-Ok.colormap.0 in
    let size = (lump_at dir.lumps colormap).size in
    full_above (λ wanted widest'. (cache.size < wanted) × ((wanted ≡ block_size size) × (widest' ≡ cache.size))) (λ wanted widest'. cache.size < (sizes_of dir.lumps scene).enough) c.fetch.result c.in-Err-fetch.fault (Err c.above.result) c.in-Err-fetch.is c.above.ensures
    (λ wanted widest' k. small_first (lump_bytes contents dir.lumps) dir.lumps c.args.things.now c.args.map.now c.args.skill scene accepted colormap c.in-Ok.ensures.lump cache.size wanted k.1.0 k.0)
    (room_first size cache c.fetch.result (fetch_no_room c.fetch.ensures.fetches) (fetch_gap_first c.fetch.ensures.fetches empty))

pub returns-in-Ok-fetch-clause-answers : goal.returns-in-Ok-fetch-clause-answers
returns-in-Ok-fetch-clause-answers g c = λ contents told.
    let colormap_fetched = c.in-Ok-fetch.ensures in
    answers_after (told_after colormap_fetched.fetches.follows colormap_fetched.faithful) (λ bytes. scene_in bytes c.args.dir.now.lumps c.args.things.now c.args.map.now c.args.skill) c.audit_rest.result colormap_fetched.fetches.follows.steady c.audit_rest.ensures.tells.answers contents told

pub returns-in-Ok-fetch-clause-full : goal.returns-in-Ok-fetch-clause-full
returns-in-Ok-fetch-clause-full g c =
    let colormap_fetched = c.in-Ok-fetch.ensures in full_after (told_after colormap_fetched.fetches.follows colormap_fetched.faithful)
    c.args.things.now c.args.map.now c.args.skill c.audit_rest.result c.audit_rest.ensures.tells.full

pub returns-in-Ok-fetch-clause-room : goal.returns-in-Ok-fetch-clause-room
returns-in-Ok-fetch-clause-room g c = λ colormap is empty.
    let colormap_fetched = c.in-Ok-fetch.ensures in
    room_after _ c.args.dir.now c.args.cache.now c.fetch.new.self c.in-Ok.colormap.0 colormap c.audit_rest.result (same_value c.in-Ok.colormap.0 colormap c.in-Ok.ensures.lump is)
    (fetch_first colormap_fetched.fetches refl empty) colormap_fetched.counts.0 c.audit_rest.ensures.tells.full

pub returns-in-Ok-fetch-clause-gap : goal.returns-in-Ok-fetch-clause-gap
returns-in-Ok-fetch-clause-gap g c = λ colormap is empty.
    let colormap_fetched = c.in-Ok-fetch.ensures in
    gap_after _ c.args.dir.now c.args.cache.now c.fetch.new.self c.in-Ok.colormap.0 colormap c.audit_rest.result (same_value c.in-Ok.colormap.0 colormap c.in-Ok.ensures.lump is)
    (fetch_first colormap_fetched.fetches refl empty) colormap_fetched.counts.0 c.audit_rest.ensures.tells.full

pub returns-in-Ok-fetch-clause-pinned : goal.returns-in-Ok-fetch-clause-pinned
returns-in-Ok-fetch-clause-pinned g c =
    pinned_after c.args.dir.now c.args.cache.now c.fetch.new.self c.in-Ok.colormap.0 c.audit_rest.result c.audit_rest.ensures.colormap c.audit_rest.new.cache (fetch_static c.in-Ok-fetch.ensures.fetches refl) c.audit_rest.ensures.tells.keeps.static

pub returns-in-Ok-fetch-clause-enough : goal.returns-in-Ok-fetch-clause-enough
returns-in-Ok-fetch-clause-enough g c = λ contents scene told accepted empty.
    let colormap_fetched = c.in-Ok-fetch.ensures in enough_after c.args.dir.now c.args.cache.now c.fetch.new.self contents
    c.args.things.now c.args.map.now c.args.skill scene c.in-Ok.colormap.0 c.audit_rest.result c.in-Ok.ensures.lump accepted
    (told_after colormap_fetched.fetches.follows colormap_fetched.faithful contents told)
    (fetch_first colormap_fetched.fetches refl empty) colormap_fetched.counts.0 c.audit_rest.ensures.tells.full

pub returns-in-Ok-fetch-clause-rest : goal.returns-in-Ok-fetch-clause-rest
returns-in-Ok-fetch-clause-rest g c = λ empty.
    rest_after c.args.dir.now c.args.cache.now c.fetch.new.self c.in-Ok.colormap.0 c.audit_rest.result c.audit_rest.ensures.colormap c.audit_rest.new.cache (fetch_first c.in-Ok-fetch.ensures.fetches refl empty) c.audit_rest.ensures.tells.keeps.rest

pub returns-in-Ok-fetch-clause-fits : goal.returns-in-Ok-fetch-clause-fits
returns-in-Ok-fetch-clause-fits g c = λ has.
    let colormap_fetched = c.in-Ok-fetch.ensures in
    let dir = c.args.dir.now in
    let colormap = c.in-Ok.colormap.0 in
    fits_after dir c.args.cache.now c.fetch.new.self colormap c.audit_rest.result c.audit_rest.ensures.colormap c.fetch.result _ c.args.map.now c.in-Ok-fetch.is
    (fetch_has_static c.fetch.ensures.fetches refl c.in-Ok.ensures.there has) (fetch_sizes c.fetch.ensures.fetches c.in-Ok.ensures.there has)
    colormap_fetched.counts.0 c.audit_rest.ensures.fits

pub returns-in-Ok-fetch-clause-follows : goal.returns-in-Ok-fetch-clause-follows
returns-in-Ok-fetch-clause-follows g c = follows_then c.in-Ok-fetch.ensures.fetches.follows c.audit_rest.ensures.tells.keeps.follows

pub returns-in-Ok-fetch-clause-faithful : goal.returns-in-Ok-fetch-clause-faithful
returns-in-Ok-fetch-clause-faithful g c = λ contents stand faithful.
    let colormap_fetched = c.in-Ok-fetch.ensures in
    c.audit_rest.ensures.tells.keeps.faithful contents (all_stand_later _ _ c.args.dir.now.files contents colormap_fetched.fetches.follows stand) (colormap_fetched.faithful contents stand faithful)

pub returns-in-Ok-fetch-clause-order : goal.returns-in-Ok-fetch-clause-order
returns-in-Ok-fetch-clause-order g c = λ contents items told all k.
    let colormap_fetched = c.in-Ok-fetch.ensures in
    let holds_contents = told_after colormap_fetched.fetches.follows colormap_fetched.faithful contents told in
    let fetch_keeps_order = colormap_fetched.order items (all c.in-Ok.colormap.0 (inl c.in-Ok.ensures.lump)) k in
    order_after itself c.audit_rest.new.cache _ c.audit_rest.result fetch_keeps_order
    (c.audit_rest.ensures.tells.order items (λ lump asked. all lump (inr (asked contents holds_contents))) fetch_keeps_order.order)
