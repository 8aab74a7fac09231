use Rattle.std.proofs.Common.{take, map}
use Rattle.art_rules.specs.Words.{joined_lists, lump_mentions, LumpNo}
use Rattle.sprite_book.specs.Indexes.{IsIndexOf}
use Rattle.sprite_book.proofs.mentions.index_mentions.Given as goal

abbrev pub invariant-loop-lump : goal.invariant-loop-lump
invariant-loop-lump l = IsIndexOf l.index (λ sprite. joined_lists (lump_mentions l.dir.lumps sprite) (take l.lump-index (map (λ (lump : LumpNo). lump.0) l.lump-items)))
