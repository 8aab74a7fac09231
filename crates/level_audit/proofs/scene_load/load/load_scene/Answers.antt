use Rattle.std.proofs.Common.{Bor, ℕ, List, Ok, map, refl, ◌∙◌, arith}
use Rattle.art_rules.proofs.Laws.{all_stand_later, causes_memory, causes_stop, causes_then, follows_then}
use Rattle.level_audit.specs.Rules.{IsInOrder, KeepsOrder, level_job_value}
use Rattle.texture_build.specs.Calls.{HoldContents}
use Rattle.job_files.specs.Files.{value_of}
use Rattle.level_audit.specs.{scene_load.Fulls.IsFullLoad, scene_load.Loads.audited_value}
use Rattle.level_audit.specs.scene_load.Orders.{loaded_items}
use Rattle.level_audit.proofs.scene_load.ArtLemmas.{all_held}
use Rattle.level_audit.proofs.scene_load.AuditedLemmas.{none_given}
use Rattle.level_audit.proofs.scene_load.FullLemmas.{files_full, load_full}
use Rattle.level_audit.proofs.scene_load.LoadLemmas.{all_loaded, audit_stopped, audited_of, files_stopped, memory_agrees, memory_full, told_wads}
use Rattle.level_audit.proofs.scene_load.OrderLemmas.{items_roomy, lumps_taken}
use Rattle.level_audit.proofs.scene_load.StayLemmas.{call_order, files_order, memory_order}
use Rattle.level_audit.proofs.scene_load.AboveLemmas.{audited_above}
use Rattle.level_audit.proofs.scene_load.load.load_scene.Goals as goal

pub returns-in_err-files : goal.returns-in_err-files
returns-in_err-files g c =
    let files_tell = c.read_files.ensures in
    let level = level_job_value c.args.level.now in
    let wads = map (λ (wad : Bor (List ℕ)). wad.now) c.args.wads.now in
    let result = c.from_residual.result in let files_failed = c.in_err-files.was in
    let result_is_error = c.from_residual.ensures.1 in
    record {
      answers = λ files holds. files_stopped level wads files _ result (files_tell.answers files holds) files_failed result_is_error;
      full = λ files holds. files_full (IsFullLoad level wads files) c.read_files.result _ result files_tell.full files_failed result_is_error;
      loaded = none_given _ _ result result_is_error;
      holds = λ files contents holds named. none_given _ _ result result_is_error;
      order = λ files contents expected holds named loads room.
          let read = files_tell.taken_of files contents holds named in
          files_order _ _ c.read_files.result _ result files_tell.full files_failed result_is_error (omega (arith, read));
      follows = files_tell.follows;
      causes = causes_stop c.read_files.result _ result files_tell.causes files_failed result_is_error;
    }

pub returns-in_err-cache : goal.returns-in_err-cache
returns-in_err-cache g c =
    let files_tell = c.in_ok-files.ensures in
    let level = level_job_value c.args.level.now in
    let wads = map (λ (wad : Bor (List ℕ)). wad.now) c.args.wads.now in
    let result = c.from_residual-in_err-cache.result in
    let memory = c.in_err-cache.ensures.memory in
    let result_is_error = c.from_residual-in_err-cache.ensures.1 in
    record {
      answers = λ files holds. memory_agrees _ _ result memory result_is_error;
      full = λ files holds. memory_full (IsFullLoad level wads files) _ result memory result_is_error;
      loaded = none_given _ _ result result_is_error;
      holds = λ files contents holds named. none_given _ _ result result_is_error;
      order = λ files contents expected holds named loads room.
          let read = files_tell.taken_of files contents holds named in
          memory_order _ _ _ result memory result_is_error (omega (arith, read));
      follows = files_tell.follows;
      causes = causes_memory _ result memory result_is_error files_tell.causes.ok;
    }

pub returns-in_err-scene : goal.returns-in_err-scene
returns-in_err-scene g c =
    let files_tell = c.in_ok-files.ensures in
    let level = level_job_value c.args.level.now in
    let audit_tells = audited_above level c.in_ok-files.files c.audit_level.result c.map_err.result c.map_err.ensures.cases c.audit_level.ensures in
    let result = c.from_residual-in_err-scene.result in
    let scene_failed = c.in_err-scene.was in
    let result_is_error = c.from_residual-in_err-scene.ensures.1 in
    record {
      answers = λ files holds.
          let are = (files_tell.answers files holds).ok in
          let wads_are_held = told_wads level _ files _ are (λ contents named. files_tell.contents files contents holds named) c.in_ok-cache.ensures.faithful in
          audit_stopped level _ files _ _ result are files_tell.follows.steady (audit_tells.answers _ wads_are_held) scene_failed result_is_error;
      full = λ files holds.
          let are = (files_tell.answers files holds).ok in
          let wads_are_held = told_wads level _ files _ are (λ contents named. files_tell.contents files contents holds named) c.in_ok-cache.ensures.faithful in
          load_full level _ files _ c.map_err.result _ result are (audit_tells.full _ wads_are_held) scene_failed result_is_error;
      loaded = none_given _ _ result result_is_error;
      holds = λ files contents holds named. none_given _ _ result result_is_error;
      order = λ files contents expected holds named loads room.
          let are = (files_tell.answers files holds).ok in
          let wads_are_held = told_wads level _ files _ are (λ contents named. files_tell.contents files contents holds named) c.in_ok-cache.ensures.faithful in
          let cache_ordered : IsInOrder (loaded_items expected) c.in_ok-cache.cache = c.in_ok-cache.ensures.order (loaded_items expected) (items_roomy expected level.settings.zone room) in
          let read = files_tell.taken_of files contents holds named in
          call_order _ _ (KeepsOrder (loaded_items expected) c.in_ok-cache.cache c.audit_level.new.cache (g.S.Shelf.view c.read_files.new.shelf).taken (g.S.Shelf.view c.audit_level.new.shelf).taken) c.map_err.result _ result
          (audit_tells.order _ expected wads_are_held (audited_of level _ files _ expected are loads) cache_ordered) scene_failed result_is_error
          (λ k. omega (arith, read, lumps_taken expected k));
      follows = follows_then files_tell.follows audit_tells.follows;
      causes = causes_then files_tell.causes.ok (causes_stop c.map_err.result _ result audit_tells.causes scene_failed result_is_error);
    }

pub returns : goal.returns
returns g c =
    let files_tell = c.in_ok-files.ensures in
    let cache_tells = c.in_ok-cache.ensures in
    let level = level_job_value c.args.level.now in
    let audit_tells = audited_above level c.in_ok-files.files c.audit_level.result (Ok (c.in_ok-scene.scene, c.in_ok-scene.weapons)) c.in_ok-scene.ensures.cases c.audit_level.ensures in
    let dir = c.in_ok-files.files.dir in
    let files_found = value_of c.in_ok-files.files in
    record {
      answers = λ files holds.
          let files_are = (files_tell.answers files holds).ok in
          let wads_are_held = told_wads level _ files _ files_are (λ contents named. files_tell.contents files contents holds named) cache_tells.faithful in
          all_loaded level _ files _ _ files_are (audit_tells.answers _ wads_are_held).ok;
      full = λ files holds. tt;
      loaded = record {
        audited = audit_tells.audited;
        slots = omega (arith, audit_tells.counts.1, cache_tells.slots);
        composites = audit_tells.counts.2 ∙ cache_tells.composites;
        zone = audit_tells.counts.0 ∙ cache_tells.size;
        few = files_tell.count;
      };
      holds = λ files contents holds named.
          let contents_stand = files_tell.contents files contents holds named in
          let cache_is_faithful = cache_tells.faithful contents in
          let value_loaded = audited_value files_found (c.in_ok-scene.scene, c.in_ok-scene.weapons) in
          let accepted = (audit_tells.answers contents (record { stand = contents_stand.0; within = contents_stand.1; faithful = cache_is_faithful })).ok in
          let holds_contents : HoldContents (g.S.Shelf.view c.audit_level.new.shelf) dir c.audit_level.new.cache contents = record { stand = all_stand_later _ _ dir.files contents audit_tells.follows contents_stand.0; within = contents_stand.1; faithful = audit_tells.faithful contents contents_stand.0 cache_is_faithful } in
          record {
            contents = holds_contents;
            art = all_held contents level files_found value_loaded _ refl accepted audit_tells.audited.rest holds_contents audit_tells.fresh;
          };
      order = λ files contents expected holds named loads room.
          let files_are = (files_tell.answers files holds).ok in
          let wads_are_held = told_wads level _ files _ files_are (λ contents named. files_tell.contents files contents holds named) cache_tells.faithful in
          let cache_ordered : IsInOrder (loaded_items expected) c.in_ok-cache.cache = cache_tells.order (loaded_items expected) (items_roomy expected level.settings.zone room) in
          let read = files_tell.taken_of files contents holds named in
          let keeps = audit_tells.order _ expected wads_are_held (audited_of level _ files _ expected files_are loads) cache_ordered in
          record { order = keeps.order; taken = omega (arith, keeps.taken, read) };
      follows = follows_then files_tell.follows audit_tells.follows;
      causes = record { ok = audit_tells.causes.ok ∙ files_tell.causes.ok; err = tt };
    }
