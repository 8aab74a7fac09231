use Rattle.art_rules.proofs.Common.{◌≡◌, ◌+ℤ◌, pos, to_z, of_z, w16, w32, rules, sym, ◌∙◌, arith, to_z-of_z}
use Rattle.patch_columns.proofs.PutLemmas.{post_at-lies, put_all, put_one, put_last}
use Rattle.patch_columns.proofs.compose.put_posts.Goals as goal

pub put_post-requires : goal.put_post-requires
put_post-requires c =
    let post_lies = post_at-lies _ _ _ (sym c.in-Some.ensures) in
    omega arith

pub loop-post-smaller : goal.loop-post-smaller
loop-post-smaller c =
    let post_lies = post_at-lies _ _ _ (sym c.in-Some.ensures) in
    omega arith

pub loop-post-preserved : goal.loop-post-preserved
loop-post-preserved c =
    let row_is : to_z w32 (of_z w32 c.post_row.result) ≡ to_z w16 (of_z w16 c.args.y) +ℤ pos c.in-Some.post.topdelta = search rules in
    put_one _ _ _ _ _ _ _ _ (sym c.in-Some.ensures) c.next_place-place.ensures row_is c.put_post.ensures ∙ c.loop-post.invariant

pub returns-then-lump-post : goal.returns-then-lump-post
returns-then-lump-post c =
    let row_is : to_z w32 (of_z w32 c.post_row.result) ≡ c.args.y +ℤ pos c.in-Some.post.topdelta = search (rules, to_z-of_z) in
    let y_fits = c.ranges.y in
    let posts_put = simp to_z-of_z at c.loop-post.invariant in
    put_last _ _ _ _ _ _ _ (sym c.in-Some.ensures) c.if-lump-post.true row_is c.put_post.ensures ∙ posts_put

pub returns : goal.returns
returns c =
    let y_fits = c.ranges.y in
    let posts_put = simp to_z-of_z at c.loop-post.invariant in
    put_all _ _ _ _ (sym c.post_from.ensures ∙ c.in_default.is) ∙ posts_put
