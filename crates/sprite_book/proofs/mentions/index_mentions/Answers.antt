use Rattle.std.proofs.Common.{map, arith, ◌∙◌}
use Rattle.art_rules.specs.Words.{LumpNo}
use Rattle.sprite_book.proofs.MentionLemmas.{index_none, entry_below, index_step, index_whole}
use Rattle.sprite_book.proofs.mentions.index_mentions.Goals as goal

pub loop-lump-init : goal.loop-lump-init
loop-lump-init c = index_none _ c.new.ensures.empty c.new-2.ensures.empty c.args.dir.now.lumps (map (λ (lump : LumpNo). lump.0) c.sprite_lumps-lump-items.result.now)

pub name-requires : goal.name-requires
name-requires c = entry_below c.sprite_lumps-lump-items.result.now c.args.dir.now.lumps c.loop-lump.lump-index _ c.sprite_lumps-lump-items.ensures (omega arith)

pub loop-lump-preserved : goal.loop-lump-preserved
loop-lump-preserved c = index_step c.add_name.new.index c.args.dir.now.lumps c.sprite_lumps-lump-items.result.now c.loop-lump.lump-index _ c.bytes.result (omega arith) (c.bytes.ensures ∙ c.name.ensures) (c.in_ok-add_name.ensures _ c.loop-lump.invariant)

pub returns : goal.returns
returns c = index_whole c.loop-lump.index c.args.dir.now.lumps c.sprite_lumps-lump-items.result.now c.loop-lump.lump-index (omega arith) c.sprite_lumps-lump-items.ensures c.loop-lump.invariant
