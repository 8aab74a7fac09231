use Rattle.art_rules.proofs.Common.{[], All, All-nil, All-push, ap, arith, false, IfSome, is_some, length, List, map, map-append, Ok, Option, refl, subst, sym, take, take_more, ℕ, ◌++◌, ◌+◌, ◌<◌, ◌∙◌, ◌∷◌}
use Rattle.art_rules.specs.Words.{last_of, OutOfMemory, prepared, prepared_from, PreparedTexture, texture_at}
use Rattle.lump_cache.proofs.CallLemmas.{reads_as, reads_known, reads_more, reads_same, reads_short, reads_stop}
use Rattle.texture_build.specs.Asked.{IsWantedPatch}
use Rattle.texture_build.specs.Views.{ArePatchesThere, IsListedAs, is_marked, prepared_at}
use Rattle.texture_build.proofs.PrepareLemmas.{count_marked, from_all, from_none, from_push, from_stop, from_textures, listed_none, listed_push, wanted_patch}
use Rattle.texture_build.proofs.prepare.prepare_marked.Goals as goal

pub loop-number-init : goal.loop-number-init
loop-number-init g c = record {
  tells = reads_known (g.S.Shelf.view c.args.shelf.now) c.args.dir.now c.args.cache.now tt
      (λ contents told. from_none (prepared (last_of c.args.dir.now.lumps) _ c.args.lists.now.names) (is_marked c.args.marks.now) ∙ ap Ok (sym c.new-textures.ensures.items));
  there = subst (All (λ (t : Option PreparedTexture). IfSome t (ArePatchesThere c.args.dir.now.lumps))) (sym c.new-textures.ensures.items) (All-nil _);
  listed = listed_none c.args.lists.now.textures c.new-textures.result.items c.new-textures.ensures.items;
  marks = ap (map is_some) c.new-textures.ensures.items;
}

pub loop-number-preserved : goal.loop-number-preserved
loop-number-preserved g c =
    let lists = c.args.lists.now in
    let marks = c.args.marks.now in
    let number = c.loop-number.number in
    let number_within : number < length lists.textures = omega (arith, c.requires.count, c.loop-number-test.true) in
    let so_far = c.loop-number.invariant in
    let items = c.loop-number.textures.items in
    let texture = c.in_ok-texture.texture in
    record {
      tells = reads_more (λ bytes. prepared_from (prepared (last_of c.args.dir.now.lumps) bytes lists.names) (is_marked marks) 0 (take (number + 1) lists.textures)) texture tt
          so_far.tells c.prepare_if.result c.prepare_if.ensures.tells c.in_ok-texture.was
          (wanted_patch number_within)
          (λ bytes one two. from_push (prepared (last_of c.args.dir.now.lumps) bytes lists.names) (is_marked marks) lists.textures number items texture number_within one two ∙ ap Ok (sym c.in_ok-push.ensures.items));
      there = subst (All (λ (t : Option PreparedTexture). IfSome t (ArePatchesThere c.args.dir.now.lumps))) (sym c.in_ok-push.ensures.items)
          (All-push (λ (t : Option PreparedTexture). IfSome t (ArePatchesThere c.args.dir.now.lumps)) items texture so_far.there c.in_ok-texture.ensures.there);
      listed = subst (λ textures. (number : ℕ) → IfSome (prepared_at textures number) (IsListedAs (texture_at lists.textures number))) (sym c.in_ok-push.ensures.items)
          (listed_push lists.textures items texture number (count_marked items marks number (omega (arith, c.loop-number-test.true)) so_far.marks) so_far.listed c.in_ok-texture.ensures.listed);
      marks = ap (map is_some) c.in_ok-push.ensures.items ∙ map-append is_some items (texture ∷ []) ∙ ap (λ xs. xs ++ is_some texture ∷ []) so_far.marks
          ∙ ap (λ b. take number marks ++ b ∷ []) c.in_ok-texture.ensures.wanted ∙ sym (take_more marks number false (omega (arith, c.loop-number-test.true)));
    }

pub returns-in_err-texture-clause-tells : goal.returns-in_err-texture-clause-tells
returns-in_err-texture-clause-tells g c =
    let lists = c.args.lists.now in
    let number = c.loop-number.number in
    let number_within : number < length lists.textures = omega (arith, c.requires.count, c.loop-number-test.true) in
    reads_same c.from_residual.result c.in_err-texture.field-0.0 _ c.from_residual.ensures.1
    (reads_stop _ c.in_err-texture.field-0.0 c.loop-number.invariant.tells c.prepare_if.result c.prepare_if.ensures.tells c.in_err-texture.was
    (wanted_patch number_within) (λ bytes e one two. from_textures _ bytes lists _ ∙ from_stop _ _ lists.textures number _ e number_within one two))

pub returns-in_err-push-clause-tells : goal.returns-in_err-push-clause-tells
returns-in_err-push-clause-tells g c =
    let lists = c.args.lists.now in
    let marks = c.args.marks.now in
    let number = c.loop-number.number in
    let number_within : number < length lists.textures = omega (arith, c.requires.count, c.loop-number-test.true) in
    let items = c.loop-number.textures.items in
    let texture = c.in_ok-texture.texture in
    let value : Unit {0} → List (Option PreparedTexture) = λ done. items ++ texture ∷ [] in
    let texture_added = reads_more {wants = IsWantedPatch c.args.dir.now.lumps lists (is_marked marks)} {value = value}
    (λ bytes. prepared_from (prepared (last_of c.args.dir.now.lumps) bytes lists.names) (is_marked marks) 0 (take (number + 1) lists.textures)) texture tt
    c.loop-number.invariant.tells c.prepare_if.result c.prepare_if.ensures.tells c.in_ok-texture.was
    (wanted_patch number_within) (λ bytes one two. from_push (prepared (last_of c.args.dir.now.lumps) bytes lists.names)
    (is_marked marks) lists.textures number items texture number_within one two) in
    reads_same c.from_residual-in_err-push.result OutOfMemory _ c.from_residual-in_err-push.ensures.1 (reads_short OutOfMemory refl (λ lump w. w) texture_added)

pub returns-clause-tells : goal.returns-clause-tells
returns-clause-tells g c =
    let lists = c.args.lists.now in
    let marks = c.args.marks.now in
    let number = c.loop-number.number in
    reads_as tt c.loop-number.textures c.loop-number.invariant.tells (λ lump w. w)
    (λ bytes is. from_all (last_of c.args.dir.now.lumps) bytes lists (is_marked marks) number (omega (arith, c.requires.count, c.loop-number-test.false)) ∙ is)
