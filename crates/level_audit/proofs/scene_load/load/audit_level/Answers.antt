use Rattle.std.proofs.Common.{◌≡◌, ◌<◌, ap, sym, subst, ◌∙◌, length, Ok, inl, inr}
use Rattle.level_audit.specs.Rules.{KeepsOrder, SceneValue, itself, level_job_value, lump_at, lump_bytes}
use Rattle.art_rules.proofs.Laws.{all_stand_later, causes_stop, causes_then, follows_then}
use Rattle.scene_rules.proofs.Laws.{order_then}
use Rattle.texture_build.specs.Caches.{IsAtRest}
use Rattle.texture_build.proofs.SizeLemmas.{sizes_empty}
use Rattle.job_files.specs.Files.{value_of}
use Rattle.sound_scene.specs.{Sound.SoundValue, Whole.IsWholeScene}
use Rattle.level_audit.proofs.FetchLemmas.{order_after, told_after}
use Rattle.sound_scene.proofs.SceneLemmas.{colormap_there}
use Rattle.level_audit.specs.scene_load.Fulls.{IsBaseWithin, IsFullOver}
use Rattle.level_audit.specs.scene_load.Loads.{audited_value, loaded_lumps, loaded_sizes}
use Rattle.level_audit.specs.scene_load.Orders.{loaded_items}
use Rattle.level_audit.proofs.scene_load.ArtLemmas.{no_composites_first, no_composites_then}
use Rattle.level_audit.proofs.scene_load.AuditedLemmas.{both_accepted, layers_stopped, none_given, scene_kept, scene_stopped}
use Rattle.level_audit.proofs.scene_load.FullLemmas.{audit_full, layers_full, same_full}
use Rattle.level_audit.proofs.scene_load.MoreLemmas.{named_layers, sizes_layers}
use Rattle.level_audit.proofs.{scene_load.ReadLemmas.items_all, scene_load.StayLemmas.call_order}
use Rattle.level_audit.proofs.scene_load.load.audit_level.Goals as goal

pub audit_layers-requires-clause-colormap : goal.audit_layers-requires-clause-colormap
audit_layers-requires-clause-colormap g c = colormap_there c.args.files.now.dir.lumps c.in_ok-scene.scene.scene.base.colormap c.in_ok-scene.ensures.colormap

pub returns-in_err-scene : goal.returns-in_err-scene
returns-in_err-scene g c =
    let scene_tells = c.audit.ensures in
    let level = level_job_value c.args.level.now in
    let files = c.args.files.now in
    let files_found = value_of files in
    let result = c.from_residual.result in
    let scene_failed = c.in_err-scene.was in let result_is_error = c.from_residual.ensures.1 in
    record {
      answers = λ contents told. scene_stopped _ level files_found _ result (scene_tells.answers contents told) scene_failed result_is_error;
      full = λ contents told.
          same_full (IsFullOver (lump_bytes contents files.dir.lumps) level files_found) c.audit.result _ result
          (audit_full contents level files c.audit.result told c.requires.empty c.requires.size
          scene_tells.full scene_tells.found scene_tells.room scene_tells.gap scene_tells.enough) scene_failed result_is_error;
      audited = none_given _ _ result result_is_error;
      fresh = none_given _ _ result result_is_error;
      counts = scene_tells.counts;
      faithful = scene_tells.faithful;
      order = λ contents expected told accepted order.
          let has_items = items_all _ level files_found expected accepted in
          let keeps_order = KeepsOrder (loaded_items expected) c.args.cache.now c.audit.new.cache (g.S.Shelf.view c.args.shelf.now).taken (g.S.Shelf.view c.audit.new.shelf).taken in
          call_order (λ _. keeps_order) keeps_order keeps_order c.audit.result _ result (scene_tells.order contents (loaded_items expected) told (λ lump read. has_items lump (inl read)) order) scene_failed result_is_error (λ k. k);
      follows = scene_tells.follows;
      causes = causes_stop c.audit.result _ result scene_tells.causes scene_failed result_is_error;
    }

pub returns-in_err-weapons : goal.returns-in_err-weapons
returns-in_err-weapons g c =
    let scene_tells = c.in_ok-scene.ensures in
    let layers_tell = c.audit_layers.ensures.tells in
    let level = level_job_value c.args.level.now in
    let files = c.args.files.now in
    let files_found = value_of files in
    let scene = c.in_ok-scene.scene.scene in
    let result = c.from_residual-in_err-weapons.result in
    let weapons_failed = c.in_err-weapons.was in let result_is_error = c.from_residual-in_err-weapons.ensures.1 in
    let counts = layers_tell.keeps.counts in
    record {
      answers = λ contents told.
          layers_stopped _ level files_found scene _ result (scene_tells.answers contents told).ok scene_tells.follows.steady (layers_tell.answers contents (told_after scene_tells.follows scene_tells.faithful contents told)) weapons_failed result_is_error;
      full = λ contents told.
          same_full (IsFullOver (lump_bytes contents files.dir.lumps) level files_found) c.audit_layers.result _ result
          (layers_full contents level files scene c.audit_layers.result (scene_tells.answers contents told).ok scene_tells.colormap (scene_tells.rest c.requires.empty) (scene_tells.counts.0 ∙ c.requires.size) layers_tell.full) weapons_failed result_is_error;
      audited = none_given _ _ result result_is_error;
      fresh = none_given _ _ result result_is_error;
      counts = (counts.0 ∙ scene_tells.counts.0, counts.1 ∙ scene_tells.counts.1, counts.2 ∙ scene_tells.counts.2);
      faithful = λ contents stand faithful. layers_tell.keeps.faithful contents (all_stand_later _ _ files.dir.files contents scene_tells.follows stand) (scene_tells.faithful contents stand faithful);
      order = λ contents expected told accepted order.
          let has_items = items_all _ level files_found expected accepted in
          let scene_in_order = scene_tells.order contents (loaded_items expected) told (λ lump read. has_items lump (inl read)) order in
          let layers_in_order = layers_tell.order (loaded_items expected) (λ lump asked. has_items lump (inr asked)) scene_in_order.order in
          let keeps_order = KeepsOrder (loaded_items expected) c.args.cache.now c.audit_layers.new.cache (g.S.Shelf.view c.args.shelf.now).taken (g.S.Shelf.view c.audit_layers.new.shelf).taken in
          call_order (λ _. keeps_order) keeps_order keeps_order c.audit_layers.result _ result
          (order_after itself c.audit_layers.new.cache (g.S.Shelf.view c.audit_layers.new.shelf).taken c.audit_layers.result
          scene_in_order layers_in_order) weapons_failed result_is_error (λ k. k);
      follows = follows_then scene_tells.follows layers_tell.keeps.follows;
      causes = causes_then scene_tells.causes.ok (causes_stop c.audit_layers.result _ result layers_tell.causes weapons_failed result_is_error);
    }

pub returns : goal.returns
returns g c =
    let scene_tells = c.in_ok-scene.ensures in
    let weapons_tell = c.in_ok-weapons.ensures.tells in
    let level = level_job_value c.args.level.now in
    let files = c.args.files.now in
    let lumps = files.dir.lumps in let files_found = value_of files in
    let sound = c.in_ok-scene.scene in let weapons = c.in_ok-weapons.weapons in
    let with_all = c.in_ok-weapons.ensures.scene in
    let scene_same = ap (λ (s : SoundValue). s.scene) with_all ∙ scene_kept lumps weapons sound in
    let colormap = sound.scene.base.colormap in
    let counts = weapons_tell.keeps.counts in
    record {
      answers = λ contents told. record {
        ok = both_accepted _ level files_found sound.scene weapons (scene_tells.answers contents told).ok (weapons_tell.answers contents (told_after scene_tells.follows scene_tells.faithful contents told)).ok
            ∙ ap (λ (s : SceneValue). Ok (record { files = files_found; scene = s; weapons = weapons })) (sym scene_same);
        err = tt;
      };
      full = λ contents told. tt;
      audited = record {
        named = subst (λ (s : SoundValue). s.named ≡ loaded_lumps (audited_value files_found (s, weapons)))
            (sym with_all) (named_layers files_found weapons sound scene_tells.named);
        sizes = subst (λ (s : SoundValue). s.sizes ≡ loaded_sizes (audited_value files_found (s, weapons)))
            (sym with_all) (sizes_layers files_found weapons sound scene_tells.sizes);
        rest = subst (λ (s : SceneValue). IsAtRest s.base.colormap (lump_at lumps s.base.colormap).size c.audit_layers.new.cache) (sym scene_same)
            (weapons_tell.keeps.rest colormap (lump_at lumps colormap).size (scene_tells.rest c.requires.empty));
        whole = subst (IsWholeScene lumps files.things level.map_name level.settings.skill) (sym scene_same) scene_tells.whole;
        fits = subst (λ (s : SceneValue). IsBaseWithin lumps level s.base.colormap) (sym scene_same)
            (λ lump asked other. rw (← c.requires.size) (scene_tells.fits (sizes_empty lumps c.args.cache.now c.requires.empty) lump asked other));
        colormap = subst (λ (s : SceneValue). s.base.colormap < length lumps) (sym scene_same) (colormap_there lumps colormap scene_tells.colormap);
        layers = c.in_ok-weapons.ensures.there;
      };
      fresh = no_composites_then weapons_tell.keeps (no_composites_first c.args.cache.now c.audit.new.cache c.requires.empty scene_tells.composites);
      counts = (counts.0 ∙ scene_tells.counts.0, counts.1 ∙ scene_tells.counts.1, counts.2 ∙ scene_tells.counts.2);
      faithful = λ contents stand faithful. weapons_tell.keeps.faithful contents (all_stand_later _ _ files.dir.files contents scene_tells.follows stand) (scene_tells.faithful contents stand faithful);
      order = λ contents expected told accepted order.
          let has_items = items_all _ level files_found expected accepted in
          let scene_in_order = scene_tells.order contents (loaded_items expected) told (λ lump read. has_items lump (inl read)) order in
          order_then scene_in_order (weapons_tell.order (loaded_items expected) (λ lump asked. has_items lump (inr asked)) scene_in_order.order);
      follows = follows_then scene_tells.follows weapons_tell.keeps.follows;
      causes = record { ok = weapons_tell.causes.ok ∙ scene_tells.causes.ok; err = tt };
    }
