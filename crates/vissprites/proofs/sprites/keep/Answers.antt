use Rattle.std.proofs.Common.{◌≡◌, ◌<◌, ◌≤◌, List, length, vec_len, rules, ap, sym, subst, ◌∙◌, arith}
use Rattle.vissprites.specs.{Rules.MAX_VISSPRITES, Rules.SpriteEntry, Kept.made_order, Kept.IsKept}
use Rattle.vissprites.proofs.KeptLemmas.{insert_last-kept, with_entry-room, with_entry-full}
use Rattle.vissprites.proofs.sprites.keep.Goals as goal

-- with room the entry is the last in order of making
pub returns-then-len-clause-entries : goal.returns-then-len-clause-entries
returns-then-len-clause-entries c =
    let length_is : vec_len c.args.kept.now ≡ length c.args.kept.now.items = search rules in
    let room : length c.args.kept.now.items < MAX_VISSPRITES = omega arith in
    ap made_order c.insert_last.ensures.entries ∙ with_entry-room c.args.entry c.args.kept.now.items c.requires.kept (c.requires.number ∙ length_is) room

pub returns-then-len-clause-kept : goal.returns-then-len-clause-kept
returns-then-len-clause-kept c =
    let length_is : vec_len c.args.kept.now ≡ length c.args.kept.now.items = search rules in
    let room : length c.args.kept.now.items < MAX_VISSPRITES = omega arith in
    let is_kept : List SpriteEntry → Type 0 = IsKept in
    subst is_kept (sym c.insert_last.ensures.entries) (insert_last-kept c.args.entry c.args.kept.now.items c.requires.kept (c.requires.number ∙ length_is) room)

-- without it nothing changes
pub returns-else-len-clause-entries : goal.returns-else-len-clause-entries
returns-else-len-clause-entries c =
    let length_is : vec_len c.args.kept.now ≡ length c.args.kept.now.items = search rules in
    let list_is_full : MAX_VISSPRITES ≤ length c.args.kept.now.items = omega arith in
    with_entry-full c.args.entry c.args.kept.now.items c.requires.kept list_is_full
