use Rattle.art_rules.proofs.Common.{[], append-nil, append_assoc, Bool, bytes_eq, cond, false, List, on_ok_weaker, option_to_list, slice_index, take, true, ℕ, ◌++◌, ◌==◌, ◌≡◌}
use Rattle.sprite_book.specs.Rules.{Mention, SECOND_PAIR_AT, SPRITE_LETTERS, is_of_sprite, mention_at, name_mentions}
use Rattle.sprite_book.proofs.MentionLemmas.{index_alike}
use Rattle.sprite_book.proofs.mentions.add_name.Goals as goal

both : (t : Bool) (xs ys zs : List Mention) → (xs ++ cond t ys []) ++ cond t zs [] ≡ xs ++ cond t (ys ++ zs) []
both true xs ys zs = append_assoc xs ys zs
both false xs ys zs = append-nil (xs ++ [])

-- the two pairs of a name, one after the other
named : (letters name : List ℕ) (lump : ℕ) (first second xs : List Mention) (s : List ℕ) → letters ≡ take SPRITE_LETTERS name → first ≡ mention_at lump name SPRITE_LETTERS false →
    second ≡ cond (slice_index name SECOND_PAIR_AT == 0) [] (mention_at lump name SECOND_PAIR_AT true) →
    (xs ++ cond (bytes_eq letters s) first []) ++ cond (bytes_eq letters s) second [] ≡ xs ++ cond (is_of_sprite s name) (name_mentions lump name) []
unfolding is_of_sprite name_mentions
named letters name lump first second xs s l f g =
    rw (l, f, g) (both (bytes_eq (take SPRITE_LETTERS name) s) xs (mention_at lump name SPRITE_LETTERS false) (cond (slice_index name SECOND_PAIR_AT == 0) [] (mention_at lump name SECOND_PAIR_AT true)))

pub returns : goal.returns
returns c =
    let letters = c.letters_of-letters.result in
    on_ok_weaker c.add_mention-2.result (λ more all is. index_alike c.add_mention-2.new.index _ _
    (more (λ s. all s ++ cond (bytes_eq letters s) (option_to_list c.mention_at.result) []) (c.in_ok-add_mention.ensures all is))
    (λ s. named letters c.args.name.now c.args.lump (option_to_list c.mention_at.result) (option_to_list c.second_mention.result) (all s) s c.letters_of-letters.ensures c.mention_at.ensures c.second_mention.ensures)) c.add_mention-2.ensures
