use Rattle.picture_rules.proofs.Common.{AllPass, ap, length, List, rules, Some, subst, sym, vec_len, ◌∙◌, ◌≡◌}
use Rattle.vissprites.specs.Rules.{SpriteEntry, with_entry}
use Rattle.vissprites.specs.Bounds.{lies_within, has_lump_below}
use Rattle.vissprites.proofs.BoundLemmas.{add-all, entry_for-lies_within, entry_for-lump}
use Rattle.vissprites.proofs.KeptLemmas.{length-made_order, with_entry-none, add-entry}
use Rattle.vissprites.proofs.EntryLemmas.{entry_for-number}
use Rattle.vissprites.proofs.sprites.Sprites.add.Goals as goal

-- the entry has the next number
pub keep-requires-clause-number : goal.keep-requires-clause-number
keep-requires-clause-number c =
    entry_for-number c.args.view.now c.len-number.result c.args.thing.now c.args.seen c.args.shape c.in-Some.entry (sym c.entry_for.ensures ∙ c.in-Some.is)
    ∙ c.len-number.ensures

pub returns-in-Some-clause-value : goal.returns-in-Some-clause-value
returns-in-Some-clause-value c =
    let kept_length : vec_len c.self.inside.kept ≡ length c.self.inside.kept.items = search rules in
    let number : c.len-number.result ≡ length c.args.self.now =
    c.len-number.ensures ∙ kept_length ∙ sym (length-made_order c.self.inside.kept.items c.self.invariant.0) ∙ ap length c.self.view_is
    in
    c.keep.ensures.entries ∙ ap (λ (es : List SpriteEntry). with_entry es (Some c.in-Some.entry)) c.self.view_is
    ∙ add-entry c.args.view.now c.args.self.now c.args.thing.now c.args.seen c.args.shape c.len-number.result (Some c.in-Some.entry) number (sym c.entry_for.ensures ∙ c.in-Some.is)

pub returns-in_default-clause-value : goal.returns-in_default-clause-value
returns-in_default-clause-value c =
    let kept_length : vec_len c.self.inside.kept ≡ length c.self.inside.kept.items = search rules in
    let number : c.len-number.result ≡ length c.args.self.now =
    c.len-number.ensures ∙ kept_length ∙ sym (length-made_order c.self.inside.kept.items c.self.invariant.0) ∙ ap length c.self.view_is
    in
    with_entry-none c.args.self.now
    ∙ add-entry c.args.view.now c.args.self.now c.args.thing.now c.args.seen c.args.shape c.len-number.result _ number (sym c.entry_for.ensures ∙ c.in_default.is)

-- the new entry has the picture's lump, and its columns lie in the view
pub returns-in-Some-clause-columns : goal.returns-in-Some-clause-columns
returns-in-Some-clause-columns c =
    λ all.
    let all_lie_in_view : List SpriteEntry → Type 0 = AllPass (lies_within c.args.view.now.shape.width) in
    subst all_lie_in_view (sym (returns-in-Some-clause-value c))
    (add-all (lies_within c.args.view.now.shape.width) c.args.view.now c.args.self.now c.args.thing.now c.args.seen c.args.shape all
    (λ e h. entry_for-lies_within c.args.view.now _ c.args.thing.now c.args.seen c.args.shape e h))

pub returns-in-Some-clause-lumps : goal.returns-in-Some-clause-lumps
returns-in-Some-clause-lumps c =
    λ n below all.
    let all_lumps_below : List SpriteEntry → Type 0 = AllPass (has_lump_below n) in
    subst all_lumps_below (sym (returns-in-Some-clause-value c))
    (add-all (has_lump_below n) c.args.view.now c.args.self.now c.args.thing.now c.args.seen c.args.shape all
    (λ e h. entry_for-lump c.args.view.now _ c.args.thing.now c.args.seen c.args.shape e n below h))
